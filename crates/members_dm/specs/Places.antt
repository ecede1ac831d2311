-- Items that stand at places: a place is a list of numbers, the outermost first.
use Rattle.std.specs.Prelude.{◌≡◌, ◌<◌, ◌⊎◌, ◌↔◌, ℕ, zero, suc, List, [], ◌∷◌, ◌++◌, map}
use Rattle.members_dm.specs.Membership.{IsIn, IsRising}

abbrev pub Place : Type 0
Place = List ℕ

-- places are ordered by their first numbers, and where these are one by the rest
abbrev pub IsEarlier : Place → Place → Type 0
IsEarlier [] q = ⊥
IsEarlier (a ∷ p) [] = ⊥
IsEarlier (a ∷ p) (b ∷ q) = (a < b) ⊎ ((a ≡ b) × IsEarlier p q)

-- an item stands earlier than another
abbrev pub StandsEarlier : {X : Type 0} → Place × X → Place × X → Type 0
StandsEarlier a b = IsEarlier a.0 b.0

-- exactly the items that stand somewhere, in strictly rising order of their places
pub record IsListing {X : Type 0} (StandsAt : Place → X → Type 0) (xs : List X) : Type 0 where
  pub placed : List (Place × X)
  pub rising : IsRising {X = Place × X} StandsEarlier placed
  pub exact : (p : Place) (x : X) → IsIn {X = Place × X} (p, x) placed ↔ StandsAt p x
  pub items : xs ≡ map (λ a. a.1) placed

-- ---- lists that are made level by level

-- the items without their places
unfoldable pub items_of : {X : Type 0} → List (Place × X) → List X
items_of placed = map (λ a. a.1) placed

-- one item, at the place itself
abbrev pub one_item : {X : Type 0} → X → List (Place × X)
one_item x = ([], x) ∷ []

-- the same items one level further out, at the number i
abbrev pub under : {X : Type 0} → ℕ → List (Place × X) → List (Place × X)
under i placed = map (λ a. (i ∷ a.0, a.1)) placed

-- those of 0 under 0, those of 1 under 1, and so on up to n, without n
unfoldable pub levels : {X : Type 0} → ℕ → (ℕ → List (Place × X)) → List (Place × X)
levels zero level = []
levels (suc n) level = levels n level ++ under n (level n)
