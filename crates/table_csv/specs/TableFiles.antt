-- Which bytes are a file of a table's rows, and the first fault of those that are none. Records and fields are those that the
-- reader of the crate `csv` gives by its defaults (comma-separated values, RFC 4180, where empty lines are no records). In a fault records and columns are counted from 1, the header included.
use Rattle.std.specs.Prelude.{◌≡◌, ◌≢◌, ◌⊎◌, ◌+◌, ◌<◌, ◌≤◌, ℕ, true, false, List, [], ◌∷◌, ◌++◌, length, map, slice_get, chars, encode_utf8_all, IsUtf8}
use Rattle.std.specs.declared.option.Option.TheVariants.{None, Some}
use Rattle.std.specs.List.{AllZip}
use Rattle.csv.specs.Reading.{default_config, records, strip_bom}
use Rattle.value_dm.specs.Spelling.{Spells}
use Rattle.value_dm.specs.declared.mode.NullMode.{NullMode}
use Rattle.members_dm.specs.Membership.{IsIn, NoRepeats, SameItems}
use Rattle.schema_dm.specs.declared.draft.Column.{Column}
use Rattle.table_csv.specs.Cells.{Cell, Row}
use Rattle.table_csv.specs.declared.fault.TableError.{TableError}
use Rattle.table_csv.specs.declared.fault.TableError.TheVariants as fault

-- the fields of a record, each by its bytes
abbrev pub Record : Type 0
Record = List (List ℕ)

-- all records of the bytes, where one leading byte order mark doesn't count
abbrev pub records_of : List ℕ → List Record
records_of bytes = records default_config (strip_bom bytes)

-- ---- files of rows

-- the field that names a column: its name in UTF-8
abbrev pub name_field : Column → List ℕ
name_field column = encode_utf8_all column.name

abbrev pub name_fields : List Column → Record
name_fields columns = map name_field columns

-- the header names each column once, in any order, and nothing else
pub record IsHeader (columns : List Column) (header : Record) : Type 0 where
  pub once : NoRepeats header
  pub names : SameItems header (name_fields columns)

-- a field of the column stands for the cell, and the column allows it
pub record SpellsCell (mode : NullMode) (column : Column) (field : List ℕ) (cell : Cell) : Type 0 where
  pub text : IsUtf8 field
  pub spells : Spells column.kind (chars field) mode cell
  pub allowed : cell ≡ None → column.not_null ≡ false

-- A record has one field for each column, and the row one cell. The field under the name of a column stands for the
-- cell at the column's place.
pub record SpellsRow (columns : List Column) (mode : NullMode) (header fields : Record) (row : Row) : Type 0 where
  pub fields_fit : length fields ≡ length columns
  pub cells_fit : length row ≡ length columns
  pub each : (at place : ℕ) (column : Column) (field : List ℕ) (cell : Cell) → slice_get header at ≡ Some (name_field column)
      → slice_get columns place ≡ Some column → slice_get fields at ≡ Some field → slice_get row place ≡ Some cell
      → SpellsCell mode column field cell

-- the first record is the header, and each further one stands for a row
pub record HasRows (columns : List Column) (mode : NullMode) (file : List Record) (rows : List Row) : Type 0 where
  pub header : Record
  pub body : List Record
  pub parts : file ≡ header ∷ body
  pub names : IsHeader columns header
  pub each : AllZip (SpellsRow columns mode header) body rows
  pub few : length rows ≤ 4194304

-- the bytes are a file of the rows
abbrev pub IsTableFile : List Column → NullMode → List ℕ → List Row → Type 0
IsTableFile columns mode bytes rows = HasRows columns mode (records_of bytes) rows

-- ---- the first fault

-- what may not follow the first fields of a header: a field that isn't a column's name or stands among them, or the
-- end, where a column is missing
abbrev pub IsBadNext : List Column → Record → Record → Type 0
IsBadNext columns before [] = (column : Column) × IsIn column columns × (¬ IsIn (name_field column) before)
IsBadNext columns before (field ∷ _) = (¬ IsIn field (name_fields columns)) ⊎ IsIn field before

-- the header is good before the place, and not at it
pub record IsBadHeader (columns : List Column) (header : Record) (place : ℕ) : Type 0 where
  pub before : Record
  pub after : Record
  pub parts : header ≡ before ++ after
  pub is_place : place ≡ length before + 1
  pub names : (field : List ℕ) → IsIn field before → IsIn field (name_fields columns)
  pub once : NoRepeats before
  pub bad : IsBadNext columns before after

-- why a field stands for no cell that its column allows: the first of three causes
abbrev pub IsFieldFault : NullMode → Column → List ℕ → ℕ → ℕ → TableError → Type 0
IsFieldFault mode column field number place (fault.TextNotUtf8 r c) = (r ≡ number) × (c ≡ place) × (¬ IsUtf8 field)
IsFieldFault mode column field number place (fault.BadValue r c) =
    (r ≡ number) × (c ≡ place) × IsUtf8 field × ((cell : Cell) → ¬ Spells column.kind (chars field) mode cell)
IsFieldFault mode column field number place (fault.NullRefused r c) =
    (r ≡ number) × (c ≡ place) × IsUtf8 field × Spells column.kind (chars field) mode None × (column.not_null ≡ true)
IsFieldFault mode column field number place _ = ⊥

-- the field at the place, counted from 0, and the column that the header names there
pub record IsFieldOf (columns : List Column) (header fields : Record) (at : ℕ) (column : Column) (field : List ℕ) : Type 0 where
  pub declared : IsIn column columns
  pub named : slice_get header at ≡ Some (name_field column)
  pub here : slice_get fields at ≡ Some field

pub record IsGoodField (columns : List Column) (mode : NullMode) (header fields : Record) (at : ℕ) : Type 0 where
  pub column : Column
  pub field : List ℕ
  pub cell : Cell
  pub is_field : IsFieldOf columns header fields at column field
  pub spells : SpellsCell mode column field cell

-- the first field that isn't good
pub record HasFieldFault (columns : List Column) (mode : NullMode) (header fields : Record) (number : ℕ) (error : TableError) : Type 0 where
  pub at : ℕ
  pub column : Column
  pub field : List ℕ
  pub before : (k : ℕ) → k < at → IsGoodField columns mode header fields k
  pub is_field : IsFieldOf columns header fields at column field
  pub bad : IsFieldFault mode column field number (at + 1) error

-- why a record is no further row behind so many rows: there are too many, then its number of fields, then its fields
abbrev pub IsRecordFault : List Column → NullMode → Record → ℕ → Record → TableError → Type 0
IsRecordFault columns mode header count fields fault.TooManyRows = count ≡ 4194304
IsRecordFault columns mode header count fields (fault.FieldCount r) =
    (count < 4194304) × (r ≡ count + 2) × (length fields ≢ length columns)
IsRecordFault columns mode header count fields error =
    (count < 4194304) × (length fields ≡ length columns) × HasFieldFault columns mode header fields (count + 2) error

-- the first record that is no further row
pub record HasRecordFault (columns : List Column) (mode : NullMode) (file : List Record) (error : TableError) : Type 0 where
  pub header : Record
  pub good : List Record
  pub record_at_fault : Record
  pub further : List Record
  pub parts : file ≡ header ∷ (good ++ record_at_fault ∷ further)
  pub names : IsHeader columns header
  pub rows : List Row
  pub each : AllZip (SpellsRow columns mode header) good rows
  pub bad : IsRecordFault columns mode header (length good) record_at_fault error

-- why the records are refused; want of memory may come with any
abbrev pub IsFirstFault : List Column → NullMode → List Record → TableError → Type 0
IsFirstFault columns mode file fault.Memory = Unit {0}
IsFirstFault columns mode file fault.NoHeader = file ≡ []
IsFirstFault columns mode file (fault.BadHeader place) = (header : Record) × (body : List Record) × (file ≡ header ∷ body) × IsBadHeader columns header place
IsFirstFault columns mode file error = HasRecordFault columns mode file error
