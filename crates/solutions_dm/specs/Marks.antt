-- Rows that stand in no pair.
use Rattle.std.specs.Prelude.{◌≡◌, ◌≢◌, ◌<◌, ◌↔◌, ℕ, List, Contains, length, slice_index}
use Rattle.solutions_dm.specs.declared.row_pair.RowPair.{RowPair}

-- a byte is 0 where the row stands in a pair
pub record AreMarked (ps : List RowPair) (n : ℕ) (mask : List ℕ) : Type 0 where
  pub long : length mask ≡ n
  pub each : (i : ℕ) → i < n → (slice_index mask i ≢ 0) ↔ ((p : RowPair) → Contains ps p → p.left ≢ i)
