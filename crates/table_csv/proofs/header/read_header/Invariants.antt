use Rattle.std.proofs.Common.{◌≡◌}
use Rattle.csv.specs.Records.{fields_of}
use Rattle.table_csv.proofs.HeaderLemmas.{NamesSoFar}
use Rattle.table_csv.proofs.header.read_header.Given as goal

-- the fields before the iterator's place are read
abbrev pub invariant-loop-field : goal.invariant-loop-field
invariant-loop-field l = (l.field-iterator.row.now ≡ l.header) × NamesSoFar l.columns (fields_of l.header) l.field-iterator.at l.order.items
