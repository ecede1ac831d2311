use Rattle.std.proofs.Common.{take}
use Rattle.std.specs.List.{AllZip}
use Rattle.table_csv.specs.Cells.{AreRowsOf}
use Rattle.table_csv.proofs.database.are_rows_of_tables.Given as goal

abbrev pub invariant-loop-place : goal.invariant-loop-place
invariant-loop-place l = AllZip (λ table rows. AreRowsOf table.columns rows) (take l.place l.tables) (take l.place l.rows)
