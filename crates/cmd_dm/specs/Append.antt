-- `append BASE FOLDER MORE`: the triples by which further rows enlarge the map graph of the folder's database, as N-Triples.
use Rattle.std.specs.Prelude.{ℕ, ◌+◌, List, [], ◌∷◌, length, nat_lt, if◌then◌else◌}
use Rattle.value_dm.specs.declared.mode.NullMode.{NullMode}
use Rattle.schema_dm.specs.declared.draft.Column.{Column}
use Rattle.schema_dm.specs.declared.table.Table.{Table}
use Rattle.table_csv.specs.Cells.{Row}
use Rattle.table_csv.specs.Databases.{Data, rows_at}
use Rattle.keys_dm.specs.declared.violation.Violation.{Violation}
use Rattle.append_dm.specs.Appended.{appended}
use Rattle.cmd_dm.specs.Folder.{table_file}
use Rattle.cmd_dm.specs.Questions.{batch_of, violations_of}
use Rattle.cmd_dm.specs.Reasons.{batch_reason, reason}
use Rattle.cmd_dm.specs.Script.{Script, ask, load, refuse, text_work, write}
use Rattle.cmd_dm.specs.Steps.{base_step, database_step, keys_step, rows_step}
use Rattle.cmd_dm.specs.declared.status.File.TheVariants as file

-- the table with this number has so many rows, of 4,194,304 at most
unfoldable pub few_step : ℕ → ℕ → (Unit {0} → Script) → Script
few_step number count next = if nat_lt 4194304 count then refuse (reason 25 number 0 0) else next tt

-- the further rows of the bytes, behind so many of their table
unfoldable pub further_rows_step : List Column → NullMode → ℕ → ℕ → List ℕ → (List Row → Script) → Script
further_rows_step columns mode number count bytes next = rows_step columns mode number bytes (λ rows. few_step number (count + length rows) (λ _. next rows))

-- the files with further rows of these tables, each loaded and read before the next; so many tables stand before them, and there
-- are so many in all, with these rows. In a refusal the tables of the batch are counted behind those of the database
unfoldable pub further_tables_step : List ℕ → NullMode → ℕ → List (List Row) → ℕ → List Table → (List (List Row) → Script) → Script
further_tables_step folder mode many held before [] next = next []
further_tables_step folder mode many held before (table ∷ tables) next =
    load (file.More (before + 1)) (table_file folder table.name) (λ bytes.
    further_rows_step table.columns mode (before + 1 + many) (length (rows_at held before)) bytes (λ rows.
    further_tables_step folder mode many held (before + 1) tables (λ others. next (rows ∷ others))))

-- the folder with a batch for the database
unfoldable pub more_step : List ℕ → NullMode → Data → (Data → Script) → Script
more_step folder mode D next =
    further_tables_step folder mode (length D.tables) D.rows 0 D.tables (λ rows. next (record { tables = D.tables; rows = rows }))

-- goes on where no key is violated, or refuses for the first that is
abbrev pub on_batch_violations : List Violation → (Unit {0} → Script) → Script
on_batch_violations [] next = next tt
on_batch_violations (violation ∷ others) next = refuse (batch_reason violation)

-- the keys of a database with a batch behind its rows
unfoldable pub batch_keys_step : Data → (Unit {0} → Script) → Script
batch_keys_step whole next = ask (violations_of whole) (λ found. on_batch_violations found next)

-- the steps behind the batch: the keys, of the database alone and then of both together
abbrev pub batch_script : List ℕ → Data → Data → Script
batch_script base D batch =
    keys_step D (λ _.
    batch_keys_step (appended D batch) (λ _.
    ask (batch_of base D batch) (λ text. write (text_work text))))

-- its steps: base, schema, tables, more, keys
abbrev pub append_script : List ℕ → List ℕ → List ℕ → NullMode → Script
append_script word folder more mode =
    base_step word (λ base.
    database_step folder mode (λ D.
    more_step more mode D (λ batch. batch_script base D batch)))
