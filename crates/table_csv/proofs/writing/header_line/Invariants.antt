use Rattle.std.proofs.Common.{◌≡◌, take}
use Rattle.std.specs.Prelude.{All}
use Rattle.table_csv.specs.CanonicalText.{IsNamed}
use Rattle.table_csv.specs.TableFiles.{name_fields}
use Rattle.table_csv.proofs.writing.header_line.Given as goal

abbrev pub invariant-loop-column : goal.invariant-loop-column
invariant-loop-column l = (l.fields.items ≡ name_fields (take l.column-index l.columns)) × All IsNamed (take l.column-index l.columns)
