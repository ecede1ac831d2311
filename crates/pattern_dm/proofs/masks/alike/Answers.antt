use Rattle.pattern_dm.proofs.MaskLemmas.{marks_same}
use Rattle.pattern_dm.proofs.masks.alike.Goals as goal

pub returns : goal.returns
returns c = marks_same c.args.a.now c.args.b.now c.in_ok-mask.mask.items c.requires c.in_ok-mask.ensures
