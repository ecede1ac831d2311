use Rattle.std.proofs.Common.{◌≢◌, length, slice_index, ap, subst, sym, ◌∙◌}
use Rattle.pattern_dm.specs.Masks.{Marks, both_flags}
use Rattle.pattern_dm.proofs.MaskLemmas.{marks_bound, marks_both, marks_number, marks_other}
use Rattle.pattern_dm.proofs.masks.is_number.Goals as goal

pub returns : goal.returns
returns c =
    let numbers = c.args.numbers.now in
    record {
      holds = marks_number numbers c.in_ok-holds.holds.items c.args.id c.in_ok-holds.ensures;
      fails = subst (Marks (length numbers) (λ i. (slice_index numbers i ≢ c.args.id) × (slice_index numbers i ≢ 0))) (sym (c.both-fails.ensures ∙ ap (both_flags c.in_ok-others.others.items) c.as_slice.ensures.value))
          (marks_both (length numbers) (λ i. slice_index numbers i ≢ c.args.id) (λ i. slice_index numbers i ≢ 0) c.in_ok-others.others.items c.in_ok-bound.bound.items
          (marks_other numbers c.in_ok-others.others.items c.args.id c.in_ok-others.ensures) (marks_bound numbers c.in_ok-bound.bound.items c.in_ok-bound.ensures));
    }
