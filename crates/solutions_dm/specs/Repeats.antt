-- Each row once.
use Rattle.std.specs.Prelude.{◌≡◌, ◌<◌, ◌↔◌, ℕ, List, true, All, AllPairs, Contains, length, map, slice_index_or}
use Rattle.solutions_dm.specs.declared.columns.Column.{Column}
use Rattle.solutions_dm.specs.declared.keys.Keyed.{Keyed}
use Rattle.solutions_dm.specs.Columns.{number_at}
use Rattle.solutions_dm.specs.Keys.{is_below}
use Rattle.solutions_dm.specs.Table.{Table, HasRow}

-- the same rows, and no two of them are one mapping
pub record IsDistinct (rows s : Table) : Type 0 where
  pub same : (m : List ℕ → ℕ) → HasRow s m ↔ HasRow rows m
  pub once : (i j : ℕ) → i < j → j < s.rows → ((x : List ℕ) → number_at s.columns i x ≡ number_at s.columns j x) → ⊥

-- one row of each key before a place, in the order of the keys
pub record AreOfEach (key : ℕ → List ℕ) (n : ℕ) (ks : List Keyed) (place : ℕ) (kept : List ℕ) : Type 0 where
  pub within : All (λ i. i < n) kept
  pub covered : (k : ℕ) (d : Keyed) → k < place → k < length ks → (i : ℕ) × Contains kept i × (key i ≡ (slice_index_or ks k d).key.items)
  pub lower : (d : Keyed) → place < length ks → All (λ i. is_below (key i) (slice_index_or ks place d).key.items ≡ true) kept
  pub rising : AllPairs (λ i j. is_below (key i) (key j) ≡ true) kept
