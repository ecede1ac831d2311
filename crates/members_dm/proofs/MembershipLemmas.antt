-- What stands in lists that are joined, mapped or in rising order.
use Rattle.std.proofs.Common.{◌≡◌, ◌∙◌, refl, sym, ap, subst, ◌⊎◌, inl, inr, List, [], ◌∷◌, ◌++◌, map}
use Rattle.members_dm.specs.Membership.{IsIn, SameItems, NoRepeats, IsRising}

pub IsIn-front : {X : Type 0} (x : X) (xs ys : List X) → IsIn x xs → IsIn x (xs ++ ys)
IsIn-front x [] ys h = absurd h
IsIn-front x (z ∷ xs) ys (inl is) = inl is
IsIn-front x (z ∷ xs) ys (inr h) = inr (IsIn-front x xs ys h)

pub IsIn-back : {X : Type 0} (x : X) (xs ys : List X) → IsIn x ys → IsIn x (xs ++ ys)
IsIn-back x [] ys h = h
IsIn-back x (z ∷ xs) ys h = inr (IsIn-back x xs ys h)

pub IsIn-append : {X : Type 0} (x : X) (xs ys : List X) → IsIn x (xs ++ ys) → IsIn x xs ⊎ IsIn x ys
IsIn-append x [] ys h = inr h
IsIn-append x (z ∷ xs) ys (inl is) = inl (inl is)
IsIn-append x (z ∷ xs) ys (inr h) = elim (IsIn-append x xs ys h) [ inl front ↦ inl (inr front) | inr back ↦ inr back ]

pub map-IsIn : {X Y : Type 0} (f : X → Y) (x : X) (xs : List X) → IsIn x xs → IsIn (f x) (map f xs)
map-IsIn f x [] h = absurd h
map-IsIn f x (z ∷ xs) (inl is) = inl (ap f is)
map-IsIn f x (z ∷ xs) (inr h) = inr (map-IsIn f x xs h)

pub IsIn-map : {X Y : Type 0} (f : X → Y) (y : Y) (xs : List X) → IsIn y (map f xs) → (x : X) × IsIn x xs × (f x ≡ y)
IsIn-map f y [] h = absurd h
IsIn-map f y (z ∷ xs) (inl is) = (z, inl refl, is)
IsIn-map f y (z ∷ xs) (inr h) = let from = IsIn-map f y xs h in (from.0, inr from.1, from.2)

pub IsRising-append : {X : Type 0} (before : X → X → Type 0) (xs ys : List X) → IsRising before xs → IsRising before ys →
    ((x y : X) → IsIn x xs → IsIn y ys → before x y) → IsRising before (xs ++ ys)
IsRising-append before [] ys front back apart = back
IsRising-append before (x ∷ xs) ys front back apart = (
  (λ y h. elim (IsIn-append y xs ys h) [ inl k ↦ front.0 y k | inr k ↦ apart x y (inl refl) k ]),
  IsRising-append before xs ys front.1 back (λ z y h k. apart z y (inr h) k),
)

-- two lists in strictly rising order that have the same items are one list
pub rising_unique : {X : Type 0} (before : X → X → Type 0) → ((x y : X) → before x y → ¬ before y x) → (xs ys : List X) →
    IsRising before xs → IsRising before ys → SameItems xs ys → xs ≡ ys
rising_unique before one_way [] [] rise_x rise_y same = refl
rising_unique before one_way [] (y ∷ ys) rise_x rise_y same = absurd ((same y).1 (inl refl))
rising_unique before one_way (x ∷ xs) [] rise_x rise_y same = absurd ((same x).0 (inl refl))
rising_unique {X} before one_way (x ∷ xs) (y ∷ ys) rise_x rise_y same =
    let first : x ≡ y = elim ((same x).0 (inl refl)) [
      | inl is ↦ sym is
      | inr h ↦ elim ((same y).1 (inl refl)) [ inl is ↦ is | inr k ↦ absurd (one_way x y (rise_x.0 y k) (rise_y.0 x h)) ]
    ] in
    let never : (z : X) → ¬ before z z = λ z h. one_way z z h h in
    let rest : xs ≡ ys = rising_unique before one_way xs ys rise_x.1 rise_y.1 (λ z. (
      (λ h. elim ((same z).0 (inr h)) [ inl is ↦ absurd (never x (subst (λ w. before x w) (sym (first ∙ is)) (rise_x.0 z h))) | inr k ↦ k ]),
      (λ h. elim ((same z).1 (inr h)) [ inl is ↦ absurd (never y (subst (λ w. before y w) (sym (sym first ∙ is)) (rise_y.0 z h))) | inr k ↦ k ]),
    )) in
    ap (λ w. w ∷ xs) first ∙ ap (λ w. y ∷ w) rest

pub rising-NoRepeats : {X : Type 0} (before : X → X → Type 0) → ((x y : X) → before x y → ¬ before y x) → (xs : List X) → IsRising before xs → NoRepeats xs
rising-NoRepeats before one_way [] rise = tt
rising-NoRepeats before one_way (x ∷ xs) rise = ((λ h. one_way x x (rise.0 x h) (rise.0 x h)), rising-NoRepeats before one_way xs rise.1)
