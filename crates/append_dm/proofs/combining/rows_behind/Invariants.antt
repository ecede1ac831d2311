use Rattle.std.proofs.Common.{◌≡◌, ◌++◌, take}
use Rattle.append_dm.proofs.combining.rows_behind.Given as goal

abbrev pub invariant-loop-row : goal.invariant-loop-row
invariant-loop-row l = l.rows ≡ l.old ++ take l.row-index l.row-items
