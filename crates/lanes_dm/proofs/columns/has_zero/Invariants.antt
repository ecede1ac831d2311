use Rattle.std.proofs.Common.{◌==◌, ◌-◌, ◌≤◌, length}
use Rattle.lanes_dm.proofs.Searches.{NoneBefore}
use Rattle.lanes_dm.proofs.columns.has_zero.Given as goal

abbrev pub invariant-wide : goal.invariant-wide
invariant-wide l = (l.at ≤ length l.column) × NoneBefore (λ x. x == 0) l.column l.at

abbrev pub decreases-wide : goal.decreases-wide
decreases-wide l = length l.column - l.at
