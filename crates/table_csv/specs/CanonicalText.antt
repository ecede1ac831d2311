-- The canonical text of a table (RFC 4180, with LF alone behind each record).
use Rattle.std.specs.Prelude.{◌≡◌, ◌<◌, ℕ, List, ◌∷◌, length, map, chars, encode_utf8_all, IsUtf8, IsPermutation, IsSorted}
use Rattle.std.specs.List.{flat_map}
use Rattle.std.specs.Ordering.{nat_cmp}
use Rattle.std.specs.Cmp.Lexicographic.{slice_cmp}
use Rattle.csv.specs.Writing.{default_writer, row_text}
use Rattle.value_dm.specs.Kinds.{IsOfKind}
use Rattle.value_dm.specs.Lexical.{canonical_field}
use Rattle.value_dm.specs.Spelling.{Spells, mode_plain}
use Rattle.value_dm.specs.declared.kind.Kind.{Kind}
use Rattle.members_dm.specs.Membership.{IsIn, NoRepeats}
use Rattle.schema_dm.specs.Naming.{IsBadName, column_names}
use Rattle.schema_dm.specs.declared.draft.Column.{Column}
use Rattle.table_csv.specs.Cells.{Cell, Row}
use Rattle.table_csv.specs.TableFiles.{IsTableFile, Record, name_field, name_fields}

-- the bytes of a cell's canonical field
abbrev pub cell_field : Cell → List ℕ
cell_field cell = encode_utf8_all (canonical_field cell)

abbrev pub row_fields : Row → Record
row_fields row = map cell_field row

-- the text that the default writer gives for the records
abbrev pub text_of : List Record → List ℕ
text_of records = flat_map (row_text default_writer) records

-- the columns of a table that has a canonical text
pub record AreTextColumns (columns : List Column) : Type 0 where
  pub some : 0 < length columns
  pub distinct : NoRepeats (column_names columns)
  pub names : (column : Column) → IsIn column columns → ¬ IsBadName column.name

-- the columns' names, and the rows in the order of their fields, the first field first and each by its bytes
pub record IsCanonicalText (columns : List Column) (rows : List Row) (text : List ℕ) : Type 0 where
  pub lines : List Record
  pub same : IsPermutation (map row_fields rows) lines
  pub sorted : IsSorted (slice_cmp (slice_cmp nat_cmp)) lines
  pub is_text : text ≡ text_of (name_fields columns ∷ lines)

-- the bytes are a file of the same rows, each as often, in the mode Plain
abbrev pub IsFileOfSame : List Column → List Row → List ℕ → Type 0
IsFileOfSame columns rows text = (same : List Row) × IsPermutation rows same × IsTableFile columns mode_plain text same

-- ---- what is known of the parts that are written

-- the bytes of the canonical field are a text, and it stands for the cell
pub record IsWritten (cell : Cell) : Type 0 where
  pub text : IsUtf8 (cell_field cell)
  pub read : chars (cell_field cell) ≡ canonical_field cell
  pub spells : (kind : Kind) → IsOfKind kind cell → Spells kind (canonical_field cell) mode_plain cell

abbrev pub IsNamed : Column → Type 0
IsNamed column = chars (name_field column) ≡ column.name
