-- Which rows of a table have the same cells in the columns of a key as another, told by the entries of an index: those
-- with the same cells are neighbours there.
use Rattle.std.specs.Prelude.{◌≡◌, ◌<◌, ◌⊎◌, ◌↔◌, ℕ, ◌+◌, List, Bool, true, length, slice_index_or}
use Rattle.table_csv.specs.Cells.{Row}
use Rattle.keys_dm.specs.Entries.{key_of}
use Rattle.keys_dm.specs.KeyCells.{HasTwin}
use Rattle.keys_dm.specs.declared.index.Entry.{Entry}

-- for each row whether another has the same cells
pub record TellTwins (rows : List Row) (places : List ℕ) (flags : List Bool) : Type 0 where
  pub many : length flags ≡ length rows
  pub each : (i : ℕ) (d : Bool) → i < length rows → (slice_index_or flags i d ≡ true) ↔ HasTwin rows places i

-- both entries have one key, and one of them is of the row i
abbrev pub IsPairOf : List Row → List ℕ → Entry → Entry → ℕ → Type 0
IsPairOf rows places before here i = (key_of rows places before ≡ key_of rows places here) × ((before.row ≡ i) ⊎ (here.row ≡ i))

-- the rows of a pair are flagged, and the other flags stay
pub record FlagsPair (rows : List Row) (places : List ℕ) (before here : Entry) (old new : List Bool) : Type 0 where
  pub many : length new ≡ length old
  pub each : (i : ℕ) (d : Bool) → i < length old → (slice_index_or new i d ≡ true) ↔ ((slice_index_or old i d ≡ true) ⊎ IsPairOf rows places before here i)

abbrev pub entry_at : List Entry → ℕ → Entry
entry_at entries k = slice_index_or entries k (record { hash = 0; row = 0 })

-- the rows of the pairs among the first entries are flagged
pub record FlagsPairs (rows : List Row) (places : List ℕ) (entries : List Entry) (count : ℕ) (flags : List Bool) : Type 0 where
  pub many : length flags ≡ length rows
  pub each : (i : ℕ) (d : Bool) → i < length rows
      → (slice_index_or flags i d ≡ true) ↔ ((k : ℕ) × (k + 1 < count) × (k + 1 < length entries) × IsPairOf rows places (entry_at entries k) (entry_at entries (k + 1)) i)
