-- What the steps of reading a table file answer.
use Rattle.std.specs.Prelude.{◌≡◌, ◌≢◌, ⊤, Bool, true, false, ℕ, List, [], ◌∷◌, ◌++◌, Option, Some, Result, Ok, Err, length}
use Rattle.std.specs.Borrow.{Bor}
use Rattle.csv.specs.Reading.{Reached, Ready, default_config, error_kind, is_flexible, reader_config, reader_state, reader_trim, source_of, stops_reader, strip_bom}
use Rattle.csv.specs.declared.parser.State.TheVariants as st
use Rattle.csv.specs.declared.reader.Reader.{Reader}
use Rattle.csv.specs.declared.reader.Trim.TheVariants as trim
use Rattle.value_dm.specs.declared.mode.NullMode.{NullMode}
use Rattle.schema_dm.specs.declared.draft.Column.{Column}
use Rattle.table_csv.specs.Cells.{Row}
use Rattle.table_csv.specs.TableFiles.{HasFieldFault, IsFirstFault, Record, SpellsRow, records_of}
use Rattle.table_csv.specs.declared.fault.TableError.{TableError}
use Rattle.table_csv.specs.declared.fault.TableError.TheVariants as fault
use Rattle.table_csv.specs.declared.reading.Stop.{Stop}
use Rattle.table_csv.specs.declared.reading.Stop.TheVariants as stop

-- an error is want of memory, or such a one
abbrev pub OrMemory : (TableError → Type 0) → TableError → Type 0
OrMemory P fault.Memory = ⊤
OrMemory P error = P error

-- why a record that may be a row is none: its number of fields, then its fields
abbrev pub IsRowFault : List Column → NullMode → Record → Record → ℕ → TableError → Type 0
IsRowFault columns mode header fields number (fault.FieldCount r) = (r ≡ number) × (length fields ≢ length columns)
IsRowFault columns mode header fields number error = (length fields ≡ length columns) × HasFieldFault columns mode header fields number error

-- the rows with the record's behind them
abbrev pub AddsRow : List Column → NullMode → Record → Record → List Row → List Row → Type 0
AddsRow columns mode header fields rows more = (row : Row) × SpellsRow columns mode header fields row × (more ≡ rows ++ row ∷ [])

-- the reader stopped for the bytes underneath or for memory, and not for the length of a record; or the file is refused
abbrev pub IsStop : List Column → NullMode → List ℕ → Stop → Type 0
IsStop columns mode bytes (stop.Reader error) = stops_reader (error_kind error) ≡ true
IsStop columns mode bytes (stop.Refused error) = IsFirstFault columns mode (records_of bytes) error

-- ---- a reader over the bytes

abbrev pub known : Bor (List ℕ) → Option (List ℕ)
known s = Some s.now

-- the reader keeps its settings, and has given these records
pub record AtRecords (bytes : List ℕ) (file : List Record) (r : Reader (Bor (List ℕ))) : Type 0 where
  pub trims : reader_trim r ≡ trim.None
  pub ready : Ready r
  pub config : reader_config r ≡ default_config
  pub rest : List ℕ
  pub source : source_of known r ≡ Some rest
  pub reached : Reached default_config st.StartRecord (strip_bom bytes) file (reader_state r) rest
  pub flexible : is_flexible r ≡ true

-- what is answered of a reader that has given these records: one more, or that they are all
abbrev pub IsNext : List ℕ → List Record → Record → Reader (Bor (List ℕ)) → Result Bool Stop → Type 0
IsNext bytes file fields reader (Ok true) = AtRecords bytes (file ++ fields ∷ []) reader
IsNext bytes file fields reader (Ok false) = records_of bytes ≡ file
IsNext bytes file fields reader (Err (stop.Reader error)) = stops_reader (error_kind error) ≡ true
IsNext bytes file fields reader (Err (stop.Refused error)) = ⊥
