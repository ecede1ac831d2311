use Rattle.std.proofs.Common.{◌≡◌, take}
use Rattle.pattern_dm.specs.Masks.{either_flags}
use Rattle.pattern_dm.proofs.masks.either.Given as goal

abbrev pub invariant-loop-i : goal.invariant-loop-i
invariant-loop-i l = l.mask.items ≡ either_flags (take l.i l.a) (take l.i l.b)
