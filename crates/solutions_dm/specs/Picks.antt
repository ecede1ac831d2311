-- Rows at some places.
use Rattle.std.specs.Prelude.{◌≡◌, ◌<◌, ℕ, List, length, map, slice_index}
use Rattle.solutions_dm.specs.declared.columns.Column.{Column}
use Rattle.solutions_dm.specs.Columns.{number_at}
use Rattle.solutions_dm.specs.Table.{Table}

abbrev pub picked_column : List ℕ → Column → Column
picked_column places c = record { name = c.name; numbers = map (slice_index c.numbers) places }

-- the k-th row is the row at the k-th place
pub record IsPicked (rows : Table) (places : List ℕ) (picked : Table) : Type 0 where
  pub count : picked.rows ≡ length places
  pub each : (k : ℕ) → k < length places → (x : List ℕ) → number_at picked.columns k x ≡ number_at rows.columns (slice_index places k) x
