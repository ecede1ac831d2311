use Rattle.std.proofs.Common.{◌≡◌, ◌≢◌, length, slice_index, ap, ◌∙◌}
use Rattle.pattern_dm.specs.Masks.{both_flags}
use Rattle.pattern_dm.proofs.MaskLemmas.{marks_met}
use Rattle.pattern_dm.proofs.masks.is_same.Goals as goal

pub returns : goal.returns
returns c =
    let a = c.args.a.now in
    let b = c.args.b.now in
    record {
      holds = marks_met (length a) (λ i. slice_index a i ≡ slice_index b i) (λ i. (slice_index a i ≢ 0) × (slice_index b i ≢ 0)) c.in_ok-same.same.items c.in_ok-bound.bound.items c.both-holds.result.items c.in_ok-same.ensures c.in_ok-bound.ensures
          (c.both-holds.ensures ∙ ap (both_flags c.in_ok-same.same.items) c.as_slice.ensures.value);
      fails = marks_met (length a) (λ i. slice_index a i ≢ slice_index b i) (λ i. (slice_index a i ≢ 0) × (slice_index b i ≢ 0)) c.in_ok-others.others.items c.in_ok-bound.bound.items c.both-fails.result.items c.in_ok-others.ensures c.in_ok-bound.ensures
          (c.both-fails.ensures ∙ ap (both_flags c.in_ok-others.others.items) c.as_slice-2.ensures.value);
    }
