use Rattle.std.proofs.Common.{◌≡◌, map, take}
use Rattle.std.specs.Prelude.{All}
use Rattle.table_csv.specs.CanonicalText.{IsWritten, row_fields}
use Rattle.table_csv.proofs.writing.row_lines.Given as goal

abbrev pub invariant-loop-row : goal.invariant-loop-row
invariant-loop-row l = (l.lines.items ≡ map row_fields (take l.row-index l.rows)) × All (All IsWritten) (take l.row-index l.rows)
