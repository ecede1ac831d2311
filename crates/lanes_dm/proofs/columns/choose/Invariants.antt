use Rattle.std.proofs.Common.{◌≡◌, ◌==◌, ◌-◌, ◌≤◌, cond, length, map, take}
use Rattle.lanes_dm.proofs.columns.choose.Given as goal

abbrev pub invariant-wide : goal.invariant-wide
invariant-wide l = (l.at ≤ length l.column) × (length l.out ≡ length l.column) × (take l.at l.out ≡ map (λ x. cond (x == l.id) l.equal l.other) (take l.at l.column))

abbrev pub decreases-wide : goal.decreases-wide
decreases-wide l = length l.column - l.at

abbrev pub invariant-rest : goal.invariant-rest
invariant-rest l = (l.at ≤ length l.column) × (length l.out ≡ length l.column) × (take l.at l.out ≡ map (λ x. cond (x == l.id) l.equal l.other) (take l.at l.column))

abbrev pub decreases-rest : goal.decreases-rest
decreases-rest l = length l.column - l.at
