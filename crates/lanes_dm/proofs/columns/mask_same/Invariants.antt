use Rattle.std.proofs.Common.{◌≡◌, ◌==◌, ◌-◌, ◌≤◌, length, take}
use lib.Lanes.{zip2}
use Rattle.lanes_dm.specs.Flags.{flag}
use Rattle.lanes_dm.proofs.columns.mask_same.Given as goal

abbrev pub invariant-wide : goal.invariant-wide
invariant-wide l = (l.at ≤ length l.a) × (length l.out ≡ length l.a) × (take l.at l.out ≡ zip2 (λ x y. flag (x == y)) (take l.at l.a) (take l.at l.b))

abbrev pub decreases-wide : goal.decreases-wide
decreases-wide l = length l.a - l.at

abbrev pub invariant-rest : goal.invariant-rest
invariant-rest l = (l.at ≤ length l.a) × (length l.out ≡ length l.a) × (take l.at l.out ≡ zip2 (λ x y. flag (x == y)) (take l.at l.a) (take l.at l.b))

abbrev pub decreases-rest : goal.decreases-rest
decreases-rest l = length l.a - l.at
