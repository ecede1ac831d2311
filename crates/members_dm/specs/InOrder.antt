-- The positions of a list's items in the order of the items, and the first position of an item. Positions are counted from 0.
use Rattle.std.specs.Prelude.{◌≡◌, ◌<◌, ◌≤◌, ℕ, zero, suc, List, [], ◌∷◌, ◌++◌, Option, false, length, slice_get, slice_index_or, IsPermutation}
use Rattle.std.specs.declared.option.Option.TheVariants.{None, Some}
use Rattle.std.specs.declared.cmp.Ordering.{Ordering}
use Rattle.std.specs.Option.{option_cmp}
use Rattle.std.specs.Ordering.{is_lt, nat_cmp, ordering_then}

-- the positions of n items
abbrev pub positions_below : ℕ → List ℕ
positions_below zero = []
positions_below (suc n) = positions_below n ++ n ∷ []

-- by the items that stand there, and where these are one by themselves
abbrev pub position_cmp : {K : Type 0} → (K → K → Ordering) → List K → ℕ → ℕ → Ordering
position_cmp order xs i j = ordering_then (option_cmp order (slice_get xs i) (slice_get xs j)) (nat_cmp i j)

abbrev pub AreRisingBy : {K : Type 0} → (K → K → Ordering) → List K → List ℕ → Type 0
AreRisingBy order xs positions = (i j d : ℕ) → i ≤ j → j < length positions → is_lt (position_cmp order xs (slice_index_or positions j d) (slice_index_or positions i d)) ≡ false

-- each position once, in this order
pub record AreInOrder {K : Type 0} (order : K → K → Ordering) (xs : List K) (positions : List ℕ) : Type 0 where
  pub permuted : IsPermutation (positions_below (length xs)) positions
  pub rising : AreRisingBy order xs positions

-- the item stands at this position and at none before it, or nowhere
abbrev pub IsFirstPlace : {K : Type 0} → List K → K → Option ℕ → Type 0
IsFirstPlace xs x None = (place : ℕ) → ¬ (slice_get xs place ≡ Some x)
IsFirstPlace xs x (Some first) = (slice_get xs first ≡ Some x) × ((place : ℕ) → place < first → ¬ (slice_get xs place ≡ Some x))

-- one item stands at both positions
abbrev pub AreSameAt : {K : Type 0} → List K → ℕ → ℕ → Type 0
AreSameAt {K} xs i j = (x : K) × (slice_get xs i ≡ Some x) × (slice_get xs j ≡ Some x)
