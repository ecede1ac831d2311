-- Where the runs of triads with one first number begin.
use Rattle.std.specs.Prelude.{◌≡◌, ◌<◌, ◌≤◌, ℕ, List, Contains, EachIndex, length, slice_index}
use Rattle.std.specs.List.Sorted.{IsPartitionPoint}
use Rattle.store_dm.specs.declared.listing.Triad.{Triad}
use Rattle.store_dm.specs.Triads.{IsRising}

-- where the triads begin whose first number is n or more
abbrev pub StartsAt : ℕ → ℕ → List Triad → Type 0
StartsAt n start items = (start ≤ length items) × IsPartitionPoint (λ x. x.first < n) (λ x. n ≤ x.first) items start

-- the starts of the first numbers from 0 on; the last ones may be missing
abbrev pub AreStarts : List ℕ → List Triad → Type 0
AreStarts starts items = EachIndex starts (λ n. StartsAt n (slice_index starts n) items)

-- triads in order, each once, and the starts of their runs
pub record IsListing (items : List Triad) (starts : List ℕ) : Type 0 where
  pub rising : IsRising items
  pub begun : AreStarts starts items

-- some of the triads in order, among them all whose first number is n
pub record IsRun (n : ℕ) (items run : List Triad) : Type 0 where
  pub rising : IsRising run
  pub inside : (x : Triad) → Contains run x → Contains items x
  pub whole : (x : Triad) → x.first ≡ n → Contains items x → Contains run x
