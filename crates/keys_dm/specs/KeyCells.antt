-- The order of cells, and the rows with the cells of a key. Columns and rows are counted from 0.
use Rattle.std.specs.Prelude.{◌≡◌, ◌≢◌, ◌<◌, ◌↔◌, ℕ, List, [], length, slice_index_or}
use Rattle.std.specs.declared.option.Option.TheVariants.{None}
use Rattle.std.specs.declared.cmp.Ordering.{Ordering}
use Rattle.std.specs.Option.{option_cmp}
use Rattle.members_dm.specs.Membership.{IsIn, IsRising}
use Rattle.value_dm.specs.contracts.value.ValueOrd.TheImpl.{cmp-value}
use Rattle.table_csv.specs.Cells.{Cell, Row, cells_at}

-- the order of cells: NULL first, then values by their kinds
abbrev pub cell_cmp : Cell → Cell → Ordering
cell_cmp = option_cmp cmp-value.it

abbrev pub row_at : List Row → ℕ → Row
row_at rows position = slice_index_or rows position []

-- a row with these cells in the columns at the places stands at the position
abbrev pub IsRowWith : List Row → List ℕ → List Cell → ℕ → Type 0
IsRowWith rows places key position = (position < length rows) × (cells_at places (row_at rows position) ≡ key)

-- another row has the same cells there as the row at the position
abbrev pub HasTwin : List Row → List ℕ → ℕ → Type 0
HasTwin rows places position = (other : ℕ) × (other ≢ position) × IsRowWith rows places (cells_at places (row_at rows position)) other

-- none of the row's cells there is NULL, and no other row has the same
abbrev pub IsAlone : List Row → List ℕ → ℕ → Type 0
IsAlone rows places position = (¬ IsIn None (cells_at places (row_at rows position))) × (¬ HasTwin rows places position)

-- the positions of exactly the rows with these cells, in strictly rising order
pub record AreRowsWith (rows : List Row) (places : List ℕ) (key : List Cell) (positions : List ℕ) : Type 0 where
  pub rising : IsRising (λ i j. i < j) positions
  pub exact : (position : ℕ) → IsIn position positions ↔ IsRowWith rows places key position
