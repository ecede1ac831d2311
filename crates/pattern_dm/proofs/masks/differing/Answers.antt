use Rattle.std.proofs.Common.{◌==◌, ap, map, ◌∙◌}
use Rattle.lanes_dm.specs.Flags.{flag}
use Rattle.pattern_dm.proofs.MaskLemmas.{marks_differing}
use Rattle.pattern_dm.proofs.masks.differing.Goals as goal

pub returns : goal.returns
returns c = marks_differing c.args.a.now c.args.b.now c.in_ok-same.same.items c.in_ok-mask.mask.items c.in_ok-same.ensures
    (c.in_ok-mask.ensures ∙ ap (map (λ x. flag (x == 0))) c.as_slice.ensures.value)
