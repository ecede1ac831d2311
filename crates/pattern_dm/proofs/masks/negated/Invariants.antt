use Rattle.std.proofs.Common.{◌≡◌, ◌==◌, map, take}
use Rattle.lanes_dm.specs.Flags.{flag}
use Rattle.pattern_dm.proofs.masks.negated.Given as goal

abbrev pub invariant-loop-byte : goal.invariant-loop-byte
invariant-loop-byte l = l.made.items ≡ map (λ x. flag (x == 0)) (take l.byte-index l.mask)
