-- What the tables of a database hold without keys and NOT NULL: tables and columns stand in the order of their names, and
-- the rows of a table are a multiset (ISO/IEC 9075-2, 4.14). Tables and columns are counted from 0 here.
use Rattle.std.specs.Prelude.{◌≡◌, false, ℕ, List, length, map, slice_get, IsPermutation}
use Rattle.std.specs.declared.option.Option.TheVariants.{Some}
use Rattle.std.specs.List.{AllZip}
use Rattle.members_dm.specs.Membership.{IsRising, NoRepeats}
use Rattle.schema_dm.specs.Naming.{column_names}
use Rattle.schema_dm.specs.Shapes.{IsBefore}
use Rattle.schema_dm.specs.declared.draft.Column.{Column}
use Rattle.schema_dm.specs.declared.table.ShapeTable.{ShapeTable}
use Rattle.schema_dm.specs.declared.table.Table.{Table}
use Rattle.table_csv.specs.Cells.{Row, cells_at}
use Rattle.table_csv.specs.Databases.{Data, rows_at}

-- a table of a shape, and its rows
pub record PlainTable : Type 0 where
  pub shape : ShapeTable
  pub rows : List Row

-- each place of so many stands once, and the items belong to the places
pub record AreAtPlaces {X : Type 0} (IsAt : ℕ → X → Type 0) (count : ℕ) (places : List ℕ) (items : List X) : Type 0 where
  pub belong : AllZip IsAt places items
  pub once : NoRepeats places
  pub each : length places ≡ count

abbrev pub plain_column : Column → Column
plain_column column = record { name = column.name; kind = column.kind; not_null = false }

abbrev pub IsColumnAt : Table → ℕ → Column → Type 0
IsColumnAt table place column = slice_get (map plain_column table.columns) place ≡ Some column

-- the columns in the order of their names, and the rows in some order, each with its cells in the order of the columns
pub record IsPlainTable (table : Table) (rows : List Row) (plain : PlainTable) : Type 0 where
  pub name : plain.shape.name ≡ table.name
  pub places : List ℕ
  pub columns : AreAtPlaces (IsColumnAt table) (length table.columns) places plain.shape.columns
  pub rising : IsRising IsBefore (column_names plain.shape.columns)
  pub same_rows : IsPermutation (map (cells_at places) rows) plain.rows

-- the table of the database at the place
pub record IsPlainAt (D : Data) (place : ℕ) (plain : PlainTable) : Type 0 where
  pub table : Table
  pub here : slice_get D.tables place ≡ Some table
  pub is_plain : IsPlainTable table (rows_at D.rows place) plain

-- the tables of the database in the order of their names
pub record IsPlain (D : Data) (plain : List PlainTable) : Type 0 where
  pub places : List ℕ
  pub tables : AreAtPlaces (IsPlainAt D) (length D.tables) places plain
  pub rising : IsRising IsBefore (map (λ p. p.shape.name) plain)
