-- Laws of items at indexes, of what some and each item has, and of lists without repeats.
use Rattle.std.proofs.Common.{◌≡◌, ◌⊎◌, ℕ, zero, suc, ◌<◌, List, [], ◌∷◌, ◌++◌, Some, map, length, get_or, refl, sym, ap, ◌∙◌, subst, inl, inr, arith}
use Rattle.std.specs.Prelude.{slice_get}
use Rattle.std.specs.List.Sorted.{IsPermutation}
use Rattle.std.proofs.lemmas.List.Sorted.{IsPermutation-refl, IsPermutation-cons, IsPermutation-trans, IsPermutation-sym, IsPermutation-middle}
use Rattle.members_dm.specs.Membership.{IsIn, NoRepeats, SameItems, IsRising}
use Rattle.members_dm.specs.Elements.{HasSome, Each, Repeats}
use Rattle.members_dm.proofs.MembershipLemmas.{IsIn-back, map-IsIn, IsIn-map}

-- ---- items at indexes

pub index_of_item : {X : Type 0} (x : X) (xs : List X) → IsIn x xs → (k : ℕ) × (k < length xs) × (slice_get xs k ≡ Some x)
index_of_item x [] h = absurd h
index_of_item x (z ∷ xs) (inl is) = (0, omega arith, ap (λ w. Some w) is)
index_of_item x (z ∷ xs) (inr h) = let found = index_of_item x xs h in (suc found.0, omega arith, found.2)

pub item_at_index : {X : Type 0} (x : X) (xs : List X) (k : ℕ) → slice_get xs k ≡ Some x → IsIn x xs
item_at_index x [] k e = absurd (cc)
item_at_index x (z ∷ xs) zero e = inl (let f : Some z ≡ Some x = e in cc)
item_at_index x (z ∷ xs) (suc k) e = inr (item_at_index x xs k e)

pub item_within : {X : Type 0} (xs : List X) (k : ℕ) (d : X) → k < length xs → IsIn (get_or xs k d) xs
item_within [] k d h = absurd (omega arith)
item_within (z ∷ xs) zero d h = inl refl
item_within (z ∷ xs) (suc k) d h = inr (item_within xs k d (omega arith))

-- a list without repeats has an item at one index
pub one_index : {X : Type 0} (xs : List X) (x : X) (i j : ℕ) → NoRepeats xs → slice_get xs i ≡ Some x → slice_get xs j ≡ Some x → i ≡ j
one_index [] x i j d a b = absurd (cc)
one_index (z ∷ xs) x zero zero d a b = refl
one_index (z ∷ xs) x zero (suc j) d a b = absurd (d.0 (let e : Some z ≡ Some x = a in let f : x ≡ z = cc in subst (λ w. IsIn w xs) f (item_at_index x xs j b)))
one_index (z ∷ xs) x (suc i) zero d a b = absurd (d.0 (let e : Some z ≡ Some x = b in let f : x ≡ z = cc in subst (λ w. IsIn w xs) f (item_at_index x xs i a)))
one_index (z ∷ xs) x (suc i) (suc j) d a b = ap (λ w. suc w) (one_index xs x i j d.1 a b)

-- ---- `HasSome` and `Each` by items

pub item_from_some : {X : Type 0} (P : X → Type 0) (xs : List X) → HasSome P xs → (x : X) × IsIn x xs × P x
item_from_some P [] h = absurd h
item_from_some P (z ∷ xs) (inl p) = (z, inl refl, p)
item_from_some P (z ∷ xs) (inr h) = let found = item_from_some P xs h in (found.0, inr found.1, found.2)

pub some_from_item : {X : Type 0} (P : X → Type 0) (x : X) (xs : List X) → IsIn x xs → P x → HasSome P xs
some_from_item P x [] h p = absurd h
some_from_item P x (z ∷ xs) (inl is) p = inl (subst P (sym is) p)
some_from_item P x (z ∷ xs) (inr h) p = inr (some_from_item P x xs h p)

pub item_from_each : {X : Type 0} (P : X → Type 0) (xs : List X) → Each P xs → (x : X) → IsIn x xs → P x
item_from_each P [] e x h = absurd h
item_from_each P (z ∷ xs) e x (inl is) = subst P is e.0
item_from_each P (z ∷ xs) e x (inr h) = item_from_each P xs e.1 x h

pub each_from_items : {X : Type 0} (P : X → Type 0) (xs : List X) → ((x : X) → IsIn x xs → P x) → Each P xs
each_from_items P [] f = tt
each_from_items P (z ∷ xs) f = (f z (inl refl), each_from_items P xs (λ x h. f x (inr h)))

pub Each-map : {X Y : Type 0} (P : Y → Type 0) (f : X → Y) (xs : List X) → Each (λ x. P (f x)) xs → Each P (map f xs)
Each-map P f [] e = tt
Each-map P f (z ∷ xs) e = (e.0, Each-map P f xs e.1)

pub map-Each : {X Y : Type 0} (P : Y → Type 0) (f : X → Y) (xs : List X) → Each P (map f xs) → Each (λ x. P (f x)) xs
map-Each P f [] e = tt
map-Each P f (z ∷ xs) e = (e.0, map-Each P f xs e.1)

pub HasSome-weaker : {X : Type 0} (P Q : X → Type 0) (xs : List X) → ((x : X) → P x → Q x) → HasSome P xs → HasSome Q xs
HasSome-weaker P Q [] f h = absurd h
HasSome-weaker P Q (z ∷ xs) f (inl p) = inl (f z p)
HasSome-weaker P Q (z ∷ xs) f (inr h) = inr (HasSome-weaker P Q xs f h)

-- where no item has the property, each lacks it
pub each_lacks : {X : Type 0} (P : X → Type 0) (xs : List X) → ¬ HasSome P xs → Each (λ x. ¬ P x) xs
each_lacks P [] n = tt
each_lacks P (z ∷ xs) n = ((λ p. n (inl p)), each_lacks P xs (λ h. n (inr h)))

-- ---- lists without repeats

pub NoRepeats-from_not : {X : Type 0} (xs : List X) → ¬ Repeats xs → NoRepeats xs
NoRepeats-from_not [] n = tt
NoRepeats-from_not (z ∷ xs) n = ((λ h. n (inl h)), NoRepeats-from_not xs (λ h. n (inr h)))

pub not-from_NoRepeats : {X : Type 0} (xs : List X) → NoRepeats xs → ¬ Repeats xs
not-from_NoRepeats [] d h = h
not-from_NoRepeats (z ∷ xs) d (inl h) = d.0 h
not-from_NoRepeats (z ∷ xs) d (inr h) = not-from_NoRepeats xs d.1 h

-- a function that takes no two items to one keeps a list without repeats
pub NoRepeats-map : {X Y : Type 0} (f : X → Y) (xs : List X) → ((x y : X) → IsIn x xs → IsIn y xs → f x ≡ f y → x ≡ y) → NoRepeats xs → NoRepeats (map f xs)
NoRepeats-map f [] one d = tt
NoRepeats-map f (z ∷ xs) one d = (
  (λ h. let found = IsIn-map f (f z) xs h in d.0 (subst (λ w. IsIn w xs) (one found.0 z (inr found.1) (inl refl) found.2) found.1)),
  NoRepeats-map f xs (λ x y h k. one x y (inr h) (inr k)) d.1,
)

-- where the keys of items have no repeats, no two items have one key
pub one_by_key : {X Y : Type 0} (f : X → Y) (xs : List X) → NoRepeats (map f xs) → (x y : X) → IsIn x xs → IsIn y xs → f x ≡ f y → x ≡ y
one_by_key f [] d x y h k e = absurd h
one_by_key f (z ∷ xs) d x y (inl a) (inl b) e = sym a ∙ b
one_by_key f (z ∷ xs) d x y (inl a) (inr k) e = absurd (d.0 (subst (λ w. IsIn w (map f xs)) (sym (ap f a ∙ e)) (map-IsIn f y xs k)))
one_by_key f (z ∷ xs) d x y (inr h) (inl b) e = absurd (d.0 (subst (λ w. IsIn w (map f xs)) (sym (ap f b ∙ sym e)) (map-IsIn f x xs h)))
one_by_key f (z ∷ xs) d x y (inr h) (inr k) e = one_by_key f xs d.1 x y h k e

-- ---- lists that are each other in another order

-- an item splits its list
pub split_at_item : {X : Type 0} (x : X) (xs : List X) → IsIn x xs → (front back : List X) × (xs ≡ front ++ x ∷ back)
split_at_item x [] h = absurd h
split_at_item x (z ∷ xs) (inl is) = ([], xs, ap (λ w. w ∷ xs) is)
split_at_item x (z ∷ xs) (inr h) = let rest = split_at_item x xs h in (z ∷ rest.0, rest.1, ap (λ w. z ∷ w) rest.2)

-- the items of a split list, with the one between and without
pub without_middle : {X : Type 0} (x y : X) (front back : List X) → IsIn y (front ++ x ∷ back) → (x ≡ y) ⊎ IsIn y (front ++ back)
without_middle x y [] back h = h
without_middle x y (z ∷ front) back (inl is) = inr (inl is)
without_middle x y (z ∷ front) back (inr h) = elim (without_middle x y front back h) [ inl is ↦ inl is | inr k ↦ inr (inr k) ]

pub with_middle : {X : Type 0} (x y : X) (front back : List X) → IsIn y (front ++ back) → IsIn y (front ++ x ∷ back)
with_middle x y [] back h = inr h
with_middle x y (z ∷ front) back (inl is) = inl is
with_middle x y (z ∷ front) back (inr h) = inr (with_middle x y front back h)

middle_once : {X : Type 0} (x : X) (front back : List X) → NoRepeats (front ++ x ∷ back) → ¬ IsIn x (front ++ back)
middle_once x [] back d = d.0
middle_once x (z ∷ front) back d =
    λ h. elim h [ inl is ↦ d.0 (subst (λ w. IsIn w (front ++ x ∷ back)) (sym is) (IsIn-back x front (x ∷ back) (inl refl))) | inr k ↦ middle_once x front back d.1 k ]

rest_without_repeats : {X : Type 0} (x : X) (front back : List X) → NoRepeats (front ++ x ∷ back) → NoRepeats (front ++ back)
rest_without_repeats x [] back d = d.1
rest_without_repeats x (z ∷ front) back d = ((λ h. d.0 (with_middle x z front back h)), rest_without_repeats x front back d.1)

-- two lists without repeats and with the same items are each other in another order
pub permutation_of_items : {X : Type 0} (xs ys : List X) → NoRepeats xs → NoRepeats ys → SameItems xs ys → IsPermutation xs ys
permutation_of_items [] [] d e same = IsPermutation-refl []
permutation_of_items [] (y ∷ ys) d e same = absurd ((same y).1 (inl refl))
permutation_of_items {X} (x ∷ xs) ys d e same =
    let r : (front back : List X) × (ys ≡ front ++ x ∷ back) = split_at_item x ys ((same x).0 (inl refl)) in
    let once : NoRepeats (r.0 ++ x ∷ r.1) = subst NoRepeats r.2 e in
    let back : (y : X) → IsIn y (r.0 ++ x ∷ r.1) → IsIn y (x ∷ xs) = λ y h. (same y).1 (subst (λ w. IsIn y w) (sym r.2) h) in
    let forth : (y : X) → IsIn y (x ∷ xs) → IsIn y (r.0 ++ x ∷ r.1) = λ y h. subst (λ w. IsIn y w) r.2 ((same y).0 h) in
    let rest : IsPermutation xs (r.0 ++ r.1) =
    permutation_of_items xs (r.0 ++ r.1) d.1 (rest_without_repeats x r.0 r.1 once)
    (λ y. (
      (λ h. elim (without_middle x y r.0 r.1 (forth y (inr h))) [ inl q ↦ absurd (d.0 (subst (λ w. IsIn w xs) (sym q) h)) | inr k ↦ k ]),
      (λ h. elim (back y (with_middle x y r.0 r.1 h)) [ inl q ↦ absurd (middle_once x r.0 r.1 once (subst (λ w. IsIn w (r.0 ++ r.1)) (sym q) h)) | inr k ↦ k ]),
    )) in
    subst (IsPermutation (x ∷ xs)) (sym r.2)
    (IsPermutation-trans _ _ _ (IsPermutation-cons x _ _ rest) (IsPermutation-sym _ _ (IsPermutation-middle r.0 x r.1)))

-- where the first item is before the second and the rest rises, the list rises
pub IsRising-cons : {X : Type 0} (before : X → X → Type 0) → ((x y z : X) → before x y → before y z → before x z) → (x y : X) (ys : List X) → before x y → IsRising before (y ∷ ys) → IsRising before (x ∷ y ∷ ys)
IsRising-cons before chain x y ys b r = ((λ z h. elim h [ inl is ↦ subst (before x) is b | inr k ↦ chain x y z b (r.0 z k) ]), r)
