use Rattle.std.proofs.Common.{take}
use Rattle.query_rows_dm.specs.Tables.{AreColumns}
use Rattle.query_rows_dm.proofs.tables.table_columns.Given as goal

abbrev pub invariant-loop-place : goal.invariant-loop-place
invariant-loop-place l = AreColumns l.fn.dictionary l.dictionary l.rows (take l.place l.vars) l.columns
