-- What some item of a list has, what each item has, and lists in which an item stands again.
use Rattle.std.specs.Prelude.{◌⊎◌, List, [], ◌∷◌}
use Rattle.members_dm.specs.Membership.{IsIn}

-- some item has the property
abbrev pub HasSome : {X : Type 0} → (X → Type 0) → List X → Type 0
HasSome P [] = ⊥
HasSome P (x ∷ xs) = P x ⊎ HasSome P xs

-- each item has the property
abbrev pub Each : {X : Type 0} → (X → Type 0) → List X → Type 0
Each P [] = Unit {0}
Each P (x ∷ xs) = P x × Each P xs

-- some item stands again further back
abbrev pub Repeats : {X : Type 0} → List X → Type 0
Repeats [] = ⊥
Repeats (x ∷ xs) = IsIn x xs ⊎ Repeats xs
