-- Rows by their cells, and which cells and rows a table may have.
use Rattle.std.specs.Prelude.{◌≡◌, ◌≤◌, false, ℕ, List, length, map, slice_index_or, All}
use Rattle.std.specs.declared.option.Option.{Option}
use Rattle.std.specs.declared.option.Option.TheVariants.{None, Some}
use Rattle.std.specs.List.{AllZip}
use Rattle.value_dm.specs.Kinds.{kind_of}
use Rattle.value_dm.specs.Lawful.{IsLawful}
use Rattle.value_dm.specs.declared.value.Value.{Value}
use Rattle.schema_dm.specs.declared.draft.Column.{Column}

-- a value, or NULL
abbrev pub Cell : Type 0
Cell = Option Value

-- the cells of a row in the columns' order
abbrev pub Row : Type 0
Row = List Cell

-- the row's cells in the columns at the places, counted from 0, in this order; NULL for a place that the row doesn't have
abbrev pub cells_at : List ℕ → Row → Row
cells_at places row = map (λ place. slice_index_or row place None) places

-- a column holds values of its kind, and the null value unless NOT NULL stands at it (ISO/IEC 9075-2, 4.13)
abbrev pub IsCellOf : Column → Cell → Type 0
IsCellOf column None = column.not_null ≡ false
IsCellOf column (Some v) = (kind_of v ≡ column.kind) × IsLawful v

-- a row has one cell for each column
abbrev pub IsRowOf : List Column → Row → Type 0
IsRowOf columns row = AllZip IsCellOf columns row

-- the rows of a table are a multiset (ISO/IEC 9075-2, 4.14), here in a list of at most 4,194,304
pub record AreRowsOf (columns : List Column) (rows : List Row) : Type 0 where
  pub few : length rows ≤ 4194304
  pub each : All (IsRowOf columns) rows
