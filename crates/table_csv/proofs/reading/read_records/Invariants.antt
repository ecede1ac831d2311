use Rattle.std.proofs.Common.{◌-◌, ◌≤◌, ℕ, List, ◌∷◌, length}
use Rattle.std.specs.List.{AllZip}
use Rattle.table_csv.specs.TableFiles.{SpellsRow}
use Rattle.table_csv.specs.Headers.{header_of}
use Rattle.table_csv.specs.Reading.{AtRecords}
use Rattle.table_csv.proofs.reading.read_records.Given as goal

-- the reader has given the header and further records, which are the rows
abbrev pub invariant-loop-rows : goal.invariant-loop-rows
invariant-loop-rows l = (body : List (List (List ℕ)))
    × AtRecords l.fn.bytes (header_of l.columns l.order.items ∷ body) l.reader
    × AllZip (SpellsRow l.columns l.mode (header_of l.columns l.order.items)) body l.rows
    × (length l.rows ≤ 4194304)

-- each turn adds a row, of which there are so many at most
abbrev pub decreases-loop-rows : goal.decreases-loop-rows
decreases-loop-rows l = 4194305 - length l.rows
