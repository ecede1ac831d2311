-- The rows that removals leave, in the order of their tables.
use Rattle.std.specs.Prelude.{◌≡◌, ◌<◌, ◌≤◌, ℕ, List, [], ◌∷◌, length}
use Rattle.members_dm.specs.Membership.{IsIn}
use Rattle.members_dm.specs.Places.{Place, IsListing}
use Rattle.table_csv.specs.Cells.{Row}
use Rattle.table_csv.specs.Databases.{Data, rows_at}
use Rattle.keys_dm.specs.KeyCells.{row_at}
use Rattle.clean_dm.specs.Parts.{IsRow}
use Rattle.clean_dm.specs.Removing.{IsOf}
use Rattle.clean_dm.specs.RowSets.{Has}
use Rattle.clean_dm.specs.declared.removal.Removal.{Removal}
use Rattle.clean_dm.specs.declared.row_set.RowSet.{RowSet}

-- the row stands at the place i of the table t, and is in the part
pub record StandsIn (D : Data) (IsInPart : ℕ → ℕ → Type 0) (t : ℕ) (place : Place) (row : Row) : Type 0 where
  pub i : ℕ
  pub stands : place ≡ i ∷ []
  pub is_row : IsRow D t i
  pub in_part : IsInPart t i
  pub value : row ≡ row_at (rows_at D.rows t) i

-- for each table the rows of the part, in order
pub record AreRowsOfPart (D : Data) (IsInPart : ℕ → ℕ → Type 0) (rows : List (List Row)) : Type 0 where
  pub many : length rows ≡ length D.tables
  pub each : (t : ℕ) → t < length D.tables → IsListing (StandsIn D IsInPart t) (rows_at rows t)

-- the tables with other rows
abbrev pub with_rows : Data → List (List Row) → Data
with_rows D rows = record { tables = D.tables; rows = rows }

-- the row isn't in the set of those that are gone
abbrev pub IsKept : RowSet → ℕ → ℕ → Type 0
IsKept gone t i = ¬ Has gone t i

-- tables are numbered from 1 to 4,096 and rows from 1 to 4,194,304
abbrev pub AreNumbered : List Removal → Type 0
AreNumbered removals = (removal : Removal) → IsIn removal removals → (0 < removal.table) × (removal.table ≤ 4096) × (0 < removal.row) × (removal.row ≤ 4194304)

-- each removal is of a row of the database
abbrev pub RowsExist : Data → List Removal → Type 0
RowsExist D removals = (removal : Removal) → IsIn removal removals → (t i : ℕ) × IsOf t i removal × (t < length D.tables) × IsRow D t i
