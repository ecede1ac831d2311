use Rattle.std.proofs.Common.{◌≡◌, ◌≤◌, ◌-◌, ◌==◌, count_by, length, take}
use Rattle.lanes_dm.proofs.bytes.count_byte.Given as goal

abbrev pub invariant-wide : goal.invariant-wide
invariant-wide l = (l.at ≤ length l.bytes) × (l.total ≡ count_by (λ x. x == l.b) (take l.at l.bytes))

abbrev pub decreases-wide : goal.decreases-wide
decreases-wide l = length l.bytes - l.at
