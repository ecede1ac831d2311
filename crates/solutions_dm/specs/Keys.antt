-- Rows under keys.
use Rattle.std.specs.Prelude.{◌≡◌, ◌<◌, ◌≤◌, ℕ, List, Bool, false, All, length, map, slice_index_or, IsPermutation}
use Rattle.std.specs.Ordering.{is_lt, nat_cmp}
use Rattle.std.specs.Cmp.Lexicographic.{slice_cmp}
use Rattle.solutions_dm.specs.declared.columns.Column.{Column}
use Rattle.solutions_dm.specs.declared.keys.Keyed.{Keyed}
use Rattle.solutions_dm.specs.Columns.{number_at}
use Rattle.members_dm.specs.InOrder.{positions_below}

-- the numbers of a row under some variables
abbrev pub key_at : List Column → List (List ℕ) → ℕ → List ℕ
key_at cs names i = map (λ x. number_at cs i x) names

-- a key comes before another
abbrev pub is_below : List ℕ → List ℕ → Bool
is_below a b = is_lt (slice_cmp nat_cmp a b)

abbrev pub rows_of : List Keyed → List ℕ
rows_of ks = map (λ (k : Keyed). k.row) ks

abbrev pub AreRows : ℕ → List Keyed → Type 0
AreRows n ks = All (λ (k : Keyed). k.row < n) ks

-- each is under its key
abbrev pub HaveKeys : (ℕ → List ℕ) → List Keyed → Type 0
HaveKeys key ks = All (λ (k : Keyed). k.key.items ≡ key k.row) ks

-- the rows in order, each under its key
pub record ArePlaces (key : ℕ → List ℕ) (n : ℕ) (ks : List Keyed) : Type 0 where
  pub rows : rows_of ks ≡ positions_below n
  pub keys : HaveKeys key ks

-- all rows in some order, each under its key, with keys that don't fall
pub record IsKeyed (key : ℕ → List ℕ) (n : ℕ) (ks : List Keyed) : Type 0 where
  pub permuted : IsPermutation (positions_below n) (rows_of ks)
  pub keys : HaveKeys key ks
  pub rising : (i j : ℕ) (d : Keyed) → i ≤ j → j < length ks → is_below (slice_index_or ks j d).key.items (slice_index_or ks i d).key.items ≡ false
