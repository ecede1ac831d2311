-- Triads of numbers in order.
use Rattle.std.specs.Prelude.{◌≡◌, ◌⊎◌, ◌==◌, ◌&&◌, ◌||◌, ℕ, Bool, not, List, nat_lt}
use Rattle.std.specs.declared.cmp.Ordering.{Ordering}
use Rattle.std.specs.Ordering.{nat_cmp, ordering_then}
use Rattle.std.specs.List.Sorted.{IsStrictlySortedBy}
use Rattle.store_dm.specs.declared.listing.Triad.{Triad}

abbrev pub triad_cmp : Triad → Triad → Ordering
triad_cmp x y = ordering_then (nat_cmp x.first y.first) (ordering_then (nat_cmp x.second y.second) (nat_cmp x.third y.third))

abbrev pub IsRising : List Triad → Type 0
IsRising xs = IsStrictlySortedBy triad_cmp xs

-- a number that is 0 fits each number
abbrev pub Fits : ℕ → ℕ → Type 0
Fits a x = (a ≡ 0) ⊎ (a ≡ x)

abbrev pub FitsAll : Triad → Triad → Type 0
FitsAll from x = Fits from.first x.first × Fits from.second x.second × Fits from.third x.third

-- behind a 0 stand only zeros
abbrev pub IsPrefix : Triad → Type 0
IsPrefix from = (from.first ≡ 0 → from.second ≡ 0) × (from.second ≡ 0 → from.third ≡ 0)

-- the tests that the code makes
abbrev pub is_below : Triad → Triad → Bool
is_below from x = nat_lt x.first from.first || ((x.first == from.first) && (nat_lt x.second from.second || ((x.second == from.second) && nat_lt x.third from.third)))

abbrev pub is_above : Triad → Triad → Bool
is_above from x = not (from.first == 0) && (nat_lt from.first x.first || ((x.first == from.first) && (not (from.second == 0) && (nat_lt from.second x.second || ((x.second == from.second) && (not (from.third == 0) && nat_lt from.third x.third))))))
