-- The benchmark's database.
use Rattle.std.specs.Prelude.{ℕ, ◌+◌, ◌/◌, List, [], ◌∷◌}
use Rattle.schema_dm.specs.Schemas.{schema_of}
use Rattle.table_csv.specs.Cells.{Row}
use Rattle.table_csv.specs.Databases.{Data}
use Rattle.bench_dm.specs.Tables.{drafts}
use Rattle.bench_dm.specs.Rows.{dept_row, member_row, note_row, person_row, rows_to}

abbrev pub departments : ℕ → ℕ
departments n = n / 10 + 1

-- the rows of the four tables
abbrev pub lists : ℕ → List (List Row)
lists n = rows_to dept_row (departments n) ∷ rows_to (person_row (departments n)) n ∷ rows_to (member_row (departments n)) n ∷ rows_to note_row n ∷ []

abbrev pub generated : ℕ → Data
generated n = record { tables = schema_of drafts; rows = lists n }
