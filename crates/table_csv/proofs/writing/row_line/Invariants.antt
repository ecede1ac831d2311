use Rattle.std.proofs.Common.{◌≡◌, take}
use Rattle.std.specs.Prelude.{All}
use Rattle.table_csv.specs.CanonicalText.{IsWritten, row_fields}
use Rattle.table_csv.proofs.writing.row_line.Given as goal

abbrev pub invariant-loop-cell : goal.invariant-loop-cell
invariant-loop-cell l = (l.fields.items ≡ row_fields (take l.cell-index l.row)) × All IsWritten (take l.cell-index l.row)
