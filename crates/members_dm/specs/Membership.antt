-- What stands in a list, how often, and in which order.
use Rattle.std.specs.Prelude.{◌≡◌, ◌⊎◌, ◌↔◌, List, [], ◌∷◌}

-- x is an item of the list
abbrev pub IsIn : {X : Type 0} → X → List X → Type 0
IsIn x [] = ⊥
IsIn x (y ∷ ys) = (y ≡ x) ⊎ IsIn x ys

-- the lists have the same items, however often and in whatever order
abbrev pub SameItems : {X : Type 0} → List X → List X → Type 0
SameItems {X} xs ys = (x : X) → IsIn x xs ↔ IsIn x ys

-- no item stands twice
abbrev pub NoRepeats : {X : Type 0} → List X → Type 0
NoRepeats [] = Unit {0}
NoRepeats (x ∷ xs) = (¬ IsIn x xs) × NoRepeats xs

-- each item is before all items behind it
abbrev pub IsRising : {X : Type 0} → (X → X → Type 0) → List X → Type 0
IsRising before [] = Unit {0}
IsRising {X} before (x ∷ xs) = ((y : X) → IsIn y xs → before x y) × IsRising before xs
