use Rattle.std.proofs.Common.{◌≡◌}
use Rattle.inverse_dm.proofs.tables.rows_from.Given as goal

abbrev pub invariant-loop-row : goal.invariant-loop-row
invariant-loop-row l = l.rows ≡ l.yielded
