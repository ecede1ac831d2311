-- Shapes: tables without keys, each name in its one place.
use Rattle.std.specs.Prelude.{◌≡◌, ◌<◌, ◌≤◌, false, List, map, length, encode_utf8_all}
use Rattle.std.specs.declared.cmp.Ordering.TheVariants.{Less}
use Rattle.std.specs.Ordering.{nat_cmp}
use Rattle.std.specs.Cmp.Lexicographic.{slice_cmp}
use Rattle.members_dm.specs.Membership.{IsIn, IsRising}
use Rattle.schema_dm.specs.declared.draft.Column.{Column}
use Rattle.schema_dm.specs.declared.table.ShapeTable.{ShapeTable}
use Rattle.schema_dm.specs.Naming.{Name, IsBadName}

-- the name's bytes in UTF-8 are before the other's, in the order of a dictionary
unfoldable pub IsBefore : Name → Name → Type 0
IsBefore x y = slice_cmp nat_cmp (encode_utf8_all x) (encode_utf8_all y) ≡ Less

-- a column of a shape has a good name and no NOT NULL
abbrev pub IsShapeColumn : Column → Type 0
IsShapeColumn column = (¬ IsBadName column.name) × (column.not_null ≡ false)

pub record IsShapeTable (table : ShapeTable) : Type 0 where
  pub name : ¬ IsBadName table.name
  pub some : 0 < length table.columns
  pub few : length table.columns ≤ 256
  pub rising : IsRising IsBefore (map (λ column. column.name) table.columns)
  pub columns : (column : Column) → IsIn column table.columns → IsShapeColumn column

pub record IsShape (tables : List ShapeTable) : Type 0 where
  pub some : 0 < length tables
  pub few : length tables ≤ 4096
  pub rising : IsRising IsBefore (map (λ table. table.name) tables)
  pub each : (table : ShapeTable) → IsIn table tables → IsShapeTable table
