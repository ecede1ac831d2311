-- The canonical statements of tables without keys, character by character.
use Rattle.std.specs.Prelude.{◌≡◌, ℕ, List, [], ◌∷◌, ◌++◌, codes, encode_utf8_all, None}
use Rattle.std.specs.List.{flat_map}
use Rattle.value_dm.specs.declared.kind.Kind.{Kind}
use Rattle.value_dm.specs.declared.kind.Kind.TheVariants.{Text, Integer, Decimal, Boolean, Date, Time, DateTime, Binary}
use Rattle.schema_dm.specs.declared.draft.Column.{Column}
use Rattle.schema_dm.specs.declared.table.ShapeTable.{ShapeTable}
use Rattle.schema_dm.specs.declared.table.Table.{Table}
use Rattle.ddl_tokens_dm.specs.Tokens.{doubled}
use Rattle.ddl_syntax_dm.specs.Words.{Name}

-- a delimited identifier (ISO/IEC 9075-2, 5.2)
abbrev pub quoted : Name → List ℕ
quoted name = 34 ∷ (doubled name ++ 34 ∷ [])

abbrev pub type_text : Kind → List ℕ
type_text Text = codes "TEXT"
type_text Integer = codes "INTEGER"
type_text Decimal = codes "DECIMAL"
type_text Boolean = codes "BOOLEAN"
type_text Date = codes "DATE"
type_text Time = codes "TIME"
type_text DateTime = codes "TIMESTAMP"
type_text Binary = codes "BINARY"

unfoldable pub column_text : Column → List ℕ
column_text column = quoted column.name ++ codes " " ++ type_text column.kind

unfoldable pub further_text : Column → List ℕ
further_text column = codes ", " ++ column_text column

-- with a comma and a space between two columns
unfoldable pub columns_text : List Column → List ℕ
columns_text [] = []
columns_text (column ∷ columns) = column_text column ++ flat_map further_text columns

unfoldable pub table_text : ShapeTable → List ℕ
table_text table = codes "CREATE TABLE " ++ quoted table.name ++ codes " (" ++ columns_text table.columns ++ codes ");\n"

-- a line for each table
unfoldable pub canonical_text : List ShapeTable → List ℕ
canonical_text tables = flat_map table_text tables

-- ---- what it declares

-- the table without keys, as a table of a schema
abbrev pub plain_table : ShapeTable → Table
plain_table table = record { name = table.name; columns = table.columns; primary = None; uniques = []; foreign = [] }

-- ---- how it is written

-- the characters are added to the bytes, in UTF-8
abbrev pub Adds : List ℕ → List ℕ → List ℕ → Type 0
Adds old new characters = new ≡ old ++ encode_utf8_all characters
