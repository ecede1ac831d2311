use Rattle.csv.specs.Records.{fields_of}
use Rattle.table_csv.proofs.RowLemmas.{CellsSoFar}
use Rattle.table_csv.proofs.reading.read_row.Given as goal

abbrev pub invariant-loop-at : goal.invariant-loop-at
invariant-loop-at l = CellsSoFar l.columns l.mode (fields_of l.fields) l.order l.at l.cells.items
