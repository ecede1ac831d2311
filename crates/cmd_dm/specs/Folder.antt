-- The files of a folder that holds a database.
use Rattle.std.specs.Prelude.{◌≡◌, ℕ, List, [], ◌∷◌, ◌++◌, codes, encode_utf8_all}
use Rattle.ddl_dm.specs.Canonical.{canonical_text}
use Rattle.inverse_dm.specs.Parts.{rows_of, shape_of as shapes_of}
use Rattle.names_dm.specs.IriSafe.{safe_form}
use Rattle.outside_dm.specs.Storing.{Batch}
use Rattle.outside_dm.specs.declared.files.NamedFile.{NamedFile}
use Rattle.schema_dm.specs.declared.table.ShapeTable.{ShapeTable}
use Rattle.schema_dm.specs.declared.table.Table.{Table}
use Rattle.table_csv.specs.CanonicalText.{IsCanonicalText}
use Rattle.table_csv.specs.Cells.{Row}
use Rattle.table_csv.specs.Plain.{PlainTable}

-- the names of a folder's files, in bytes
abbrev pub schema_file : List ℕ → List ℕ
schema_file folder = encode_utf8_all folder ++ codes "/schema.sql"

abbrev pub table_file : List ℕ → List ℕ → List ℕ
table_file folder table = encode_utf8_all folder ++ codes "/" ++ encode_utf8_all (safe_form table) ++ codes ".csv"

-- ---- the files of a folder that is stored

-- a table without its keys
abbrev pub shape_of : Table → ShapeTable
shape_of table = record { name = table.name; columns = table.columns }

-- a file as an entry of a batch
abbrev pub entry_of : NamedFile → List ℕ × List ℕ
entry_of file = (encode_utf8_all file.name, file.bytes)

-- the entry is the file of a table with these rows: its name in the folder, and its canonical text
pub record IsFileOf (folder : List ℕ) (table : ShapeTable) (rows : List Row) (entry : List ℕ × List ℕ) : Type 0 where
  pub name : entry.0 ≡ table_file folder table.name
  pub text : IsCanonicalText table.columns rows entry.1

-- the entries are the files of the tables with these rows, in order
abbrev pub AreFilesOf : List ℕ → List ShapeTable → List (List Row) → Batch → Type 0
AreFilesOf folder [] [] [] = Unit {0}
AreFilesOf folder (table ∷ tables) (rows ∷ lists) (entry ∷ files) = IsFileOf folder table rows entry × AreFilesOf folder tables lists files
AreFilesOf folder _ _ _ = ⊥

-- the files are those of tables without keys: the schema's by its canonical text, and then one for each table
pub record AreFolderFiles (folder : List ℕ) (tables : List PlainTable) (files : Batch) : Type 0 where
  pub entries : Batch
  pub each : AreFilesOf folder (shapes_of tables) (rows_of tables) entries
  pub is : files ≡ (schema_file folder, encode_utf8_all (canonical_text (shapes_of tables))) ∷ entries
