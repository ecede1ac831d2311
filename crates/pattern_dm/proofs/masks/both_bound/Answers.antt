use Rattle.std.proofs.Common.{ap, ◌∙◌}
use Rattle.pattern_dm.specs.Masks.{both_flags}
use Rattle.pattern_dm.proofs.MaskLemmas.{marks_both_bound}
use Rattle.pattern_dm.proofs.masks.both_bound.Goals as goal

pub returns : goal.returns
returns c = marks_both_bound c.args.a.now c.args.b.now c.in_ok-first.first.items c.in_ok-second.second.items c.both-mask.result.items c.requires c.in_ok-first.ensures c.in_ok-second.ensures
    (c.both-mask.ensures ∙ ap (both_flags c.in_ok-first.first.items) c.as_slice.ensures.value)
