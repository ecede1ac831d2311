-- The steps of commands, each as a node of a script: what it puts before whatever is next.
use Rattle.std.specs.Prelude.{ℕ, ◌+◌, List, [], ◌∷◌, Result, Ok, Err, encode_utf8_all, if◌then◌else◌}
use Rattle.value_dm.specs.declared.mode.NullMode.{NullMode}
use Rattle.names_dm.specs.Namespaces.{is_base}
use Rattle.names_dm.specs.Statements.{Statement}
use Rattle.schema_dm.specs.declared.draft.Column.{Column}
use Rattle.schema_dm.specs.declared.table.Table.{Table}
use Rattle.table_csv.specs.Cells.{Row}
use Rattle.table_csv.specs.Databases.{Data}
use Rattle.keys_dm.specs.declared.violation.Violation.{Violation}
use Rattle.algebra_dm.specs.declared.query.Query.{Query}
use Rattle.sparql_text_dm.specs.declared.parsed.Parsed.{Parsed}
use Rattle.outside_dm.specs.Storing.{Batch}
use Rattle.graphs_dm.specs.declared.graph_name.GraphName.{GraphName}
use Rattle.graphs_dm.specs.declared.graph_name.GraphName.TheVariants as graph
use Rattle.cmd_dm.specs.Folder.{schema_file, table_file}
use Rattle.cmd_dm.specs.Questions.{inverse_of, parsed_of, query_of, schema_of, rows_of, triples_of, violations_of}
use Rattle.cmd_dm.specs.Reasons.{bad_base, key_reason}
use Rattle.cmd_dm.specs.Script.{Script, load, ask, refuse}
use Rattle.cmd_dm.specs.declared.status.File.TheVariants as file
use Rattle.cmd_dm.specs.declared.steps.LoadedFolder.{LoadedFolder}
use Rattle.cmd_dm.specs.declared.status.Reason.{Reason}

-- goes on with the value, or refuses
abbrev pub on_answer : {A : Type 0} → Result A Reason → (A → Script) → Script
on_answer (Ok value) next = next value
on_answer (Err reason) next = refuse reason

-- the word is what IRIs can begin with
unfoldable pub base_step : List ℕ → (List ℕ → Script) → Script
base_step word next = if is_base word then next word else refuse bad_base

-- the schema of the bytes
unfoldable pub schema_step : List ℕ → (List Table → Script) → Script
schema_step bytes next = ask (schema_of bytes) (λ answer. on_answer answer next)

-- the schema of the folder, without its tables' files
unfoldable pub declared_step : List ℕ → (List Table → Script) → Script
declared_step folder next = load file.Schema (schema_file folder) (λ bytes. schema_step bytes next)

-- the rows of the bytes of the file of the table with this number
unfoldable pub rows_step : List Column → NullMode → ℕ → List ℕ → (List Row → Script) → Script
rows_step columns mode number bytes next = ask (rows_of columns mode number bytes) (λ answer. on_answer answer next)

-- the files of these tables, each loaded and read before the next; so many tables stand before them
unfoldable pub tables_step : List ℕ → NullMode → ℕ → List Table → (List (List Row) → Script) → Script
tables_step folder mode before [] next = next []
tables_step folder mode before (table ∷ tables) next =
    load (file.Table (before + 1)) (table_file folder table.name) (λ bytes.
    rows_step table.columns mode (before + 1) bytes (λ rows.
    tables_step folder mode (before + 1) tables (λ others. next (rows ∷ others))))

-- the folder with a database: the bytes of its schema, which are read, and then its tables
unfoldable pub folder_step : List ℕ → NullMode → (LoadedFolder → Script) → Script
folder_step folder mode next =
    load file.Schema (schema_file folder) (λ bytes. schema_step bytes (λ tables.
    tables_step folder mode 0 tables (λ rows. next (record { schema = bytes; database = record { tables = tables; rows = rows } }))))

-- the database in the folder
unfoldable pub database_step : List ℕ → NullMode → (Data → Script) → Script
database_step folder mode next = folder_step folder mode (λ loaded. next loaded.database)

-- the triples of the bytes
unfoldable pub triples_step : List ℕ → (List Statement → Script) → Script
triples_step bytes next = ask (triples_of bytes) (λ answer. on_answer answer next)

-- the triples of the file of this name
unfoldable pub graph_step : List ℕ → (List Statement → Script) → Script
graph_step name next = load file.Graph (encode_utf8_all name) (λ bytes. triples_step bytes next)

-- the files in the folder of the tables that the triples stand for
unfoldable pub inverse_step : List ℕ → List Statement → List ℕ → (Batch → Script) → Script
inverse_step base triples folder next = ask (inverse_of base triples folder) (λ answer. on_answer answer next)

-- the query of the bytes over these tables
unfoldable pub query_text_step : List Table → List ℕ → (Query → Script) → Script
query_text_step tables bytes next = ask (query_of tables bytes) (λ answer. on_answer answer next)

-- the query of the file of this name over these tables
unfoldable pub query_step : List Table → List ℕ → (Query → Script) → Script
query_step tables name next = load file.Query (encode_utf8_all name) (λ bytes. query_text_step tables bytes next)

-- the header and the pattern of the bytes
unfoldable pub parsed_text_step : List ℕ → (Parsed → Script) → Script
parsed_text_step bytes next = ask (parsed_of bytes) (λ answer. on_answer answer next)

-- the header and the pattern of the file of this name
unfoldable pub parsed_step : List ℕ → (Parsed → Script) → Script
parsed_step name next = load file.Pattern (encode_utf8_all name) (λ bytes. parsed_text_step bytes next)

-- goes on where no key is violated, or refuses for the first that is
abbrev pub on_violations : List Violation → (Unit {0} → Script) → Script
on_violations [] next = next tt
on_violations (violation ∷ others) next = refuse (key_reason violation)

unfoldable pub keys_step : Data → (Unit {0} → Script) → Script
keys_step D next = ask (violations_of D) (λ found. on_violations found next)

-- the keys, where the graph of this name is refused for a violated one
unfoldable pub kept_step : GraphName → Data → (Unit {0} → Script) → Script
kept_step graph.Direct D next = keys_step D next
kept_step graph.Map D next = keys_step D next
kept_step graph.MapKeys D next = next tt
