use Rattle.std.proofs.Common.{take}
use Rattle.query_rows_dm.specs.Tables.{AreNumbered}
use Rattle.query_rows_dm.proofs.tables.column_numbers.Given as goal

abbrev pub invariant-loop-row : goal.invariant-loop-row
invariant-loop-row l = AreNumbered l.fn.dictionary l.dictionary (take l.row-index l.rows) l.place l.numbers
