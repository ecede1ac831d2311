use Rattle.std.proofs.Common.{take}
use Rattle.std.specs.List.{AllZip}
use Rattle.table_csv.specs.Cells.{IsCellOf}
use Rattle.table_csv.proofs.database.is_row_of.Given as goal

abbrev pub invariant-loop-place : goal.invariant-loop-place
invariant-loop-place l = AllZip IsCellOf (take l.place l.columns) (take l.place l.row)
