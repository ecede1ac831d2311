use Rattle.std.proofs.Common.{◌≡◌, ℕ, List, Some, map, take}
use Rattle.std.specs.Prelude.{slice_get}
use Rattle.std.specs.List.{AllZip}
use Rattle.table_csv.specs.Plain.{plain_column}
use Rattle.schema_dm.specs.Naming.{column_names}
use Rattle.bench_lines_dm.proofs.inverted.places_of.Given as goal

abbrev pub invariant-loop-column : goal.invariant-loop-column
invariant-loop-column l =
    (l.names-inside.items.items ≡ column_names l.columns)
    × ((places : List ℕ) → AllZip (λ place column. slice_get (map plain_column l.columns) place ≡ Some column) places l.wanted → l.places ≡ take l.column-index places)
