-- The pairs whose byte in a mask is not 0.
use Rattle.std.specs.Prelude.{◌≡◌, ◌≢◌, ◌↔◌, ◌<◌, ℕ, List, Some, Contains, slice_get, slice_index}
use Rattle.solutions_dm.specs.declared.row_pair.RowPair.{RowPair}

-- those before a place
abbrev pub ArePassing : List RowPair → List ℕ → ℕ → List RowPair → Type 0
ArePassing places mask n passed = (p : RowPair) → Contains passed p ↔ ((k : ℕ) × (k < n) × (slice_get places k ≡ Some p) × (slice_index mask k ≢ 0))
