-- Sets of rows, by table and row, both counted from 0.
use Rattle.std.specs.Prelude.{◌≡◌, ◌⊎◌, ◌↔◌, ℕ, [], ◌∷◌, IsTrue}
use Rattle.std.specs.declared.cmp.Ordering.{Ordering}
use Rattle.std.specs.BTreeSet.{btree_set_len, contains}
use Rattle.std.specs.Ordering.{nat_cmp, ordering_then}
use Rattle.members_dm.specs.Places.{IsEarlier}
use Rattle.clean_dm.specs.declared.row_set.RowSet.{RowSet}

-- by table, then by row
abbrev pub pair_cmp : ℕ × ℕ → ℕ × ℕ → Ordering
pair_cmp x y = ordering_then (nat_cmp x.0 y.0) (nat_cmp x.1 y.1)

-- the set has the row i of the table t
unfoldable pub Has : RowSet → ℕ → ℕ → Type 0
Has set t i = IsTrue (contains pair_cmp set.pairs (t, i))

-- how many rows the set has
abbrev pub set_len : RowSet → ℕ
set_len set = btree_set_len set.pairs

-- exactly the row comes in
pub record Gains (old new : RowSet) (t i : ℕ) : Type 0 where
  pub each : (u j : ℕ) → Has new u j ↔ (Has old u j ⊎ ((u ≡ t) × (j ≡ i)))

-- exactly the row goes
pub record Loses (old new : RowSet) (t i : ℕ) : Type 0 where
  pub each : (u j : ℕ) → Has new u j ↔ (Has old u j × (¬ ((u ≡ t) × (j ≡ i))))

-- no row of the set is earlier
pub record IsFirstOf (set : RowSet) (t i : ℕ) : Type 0 where
  pub there : Has set t i
  pub first : (u j : ℕ) → Has set u j → ¬ IsEarlier (u ∷ j ∷ []) (t ∷ i ∷ [])
