-- `Any` and `All` of std, which speak of indexes, by items.
use Rattle.std.proofs.Common.{◌≡◌, ◌⊎◌, ◌∙◌, ℕ, zero, suc, ◌+◌, ◌<◌, ◌≤◌, List, [], ◌∷◌, ◌++◌, map, length, take, get_or, Some, refl, sym, ap, subst, inl, inr, arith, All, Any}
use Rattle.std.specs.Prelude.{slice_get}
use Rattle.std.proofs.lemmas.List.{take_all, take_more}
use Rattle.std.proofs.lemmas.List.Elements.{All-push}
use Rattle.members_dm.specs.Membership.{IsIn}
use Rattle.members_dm.specs.Elements.{HasSome}
use Rattle.members_dm.proofs.ElementsLemmas.{index_of_item, item_within}

pub Any-nil : {X : Type 0} (P : X → Type 0) → ¬ Any P []
Any-nil P (k, y, below, is, holds) = omega arith

pub Any-head : {X : Type 0} (P : X → Type 0) (x : X) (xs : List X) → P x → Any P (x ∷ xs)
Any-head P x xs holds = (0, x, omega arith, refl, holds)

pub Any-tail : {X : Type 0} (P : X → Type 0) (x : X) (xs : List X) → Any P xs → Any P (x ∷ xs)
Any-tail P x xs (k, y, below, is, holds) = (suc k, y, omega arith, is, holds)

pub Any-cons : {X : Type 0} (P : X → Type 0) (x : X) (xs : List X) → Any P (x ∷ xs) → P x ⊎ Any P xs
Any-cons P x xs (k, y, below, is, holds) = at k below is
  where
    at : (k : ℕ) → k < length (x ∷ xs) → get_or (x ∷ xs) k y ≡ y → P x ⊎ Any P xs
    at zero below is = inl (subst P (sym is) holds)
    at (suc k) below is = inr (k, y, omega arith, is, holds)

pub any_from_some : {X : Type 0} (P : X → Type 0) (xs : List X) → HasSome P xs → Any P xs
any_from_some P [] h = absurd h
any_from_some P (x ∷ xs) (inl p) = Any-head P x xs p
any_from_some P (x ∷ xs) (inr h) = Any-tail P x xs (any_from_some P xs h)

pub some_from_any : {X : Type 0} (P : X → Type 0) (xs : List X) → Any P xs → HasSome P xs
some_from_any P [] h = Any-nil P h
some_from_any P (x ∷ xs) h = elim (Any-cons P x xs h) [ inl p ↦ inl p | inr k ↦ inr (some_from_any P xs k) ]

pub item_from_any : {X : Type 0} (P : X → Type 0) (xs : List X) → Any P xs → (x : X) × IsIn x xs × P x
item_from_any P [] h = absurd (Any-nil P h)
item_from_any P (x ∷ xs) h = elim (Any-cons P x xs h) [ inl p ↦ (x, inl refl, p) | inr k ↦ (let found = item_from_any P xs k in (found.0, inr found.1, found.2)) ]

pub any_from_item : {X : Type 0} (P : X → Type 0) (x : X) (xs : List X) → IsIn x xs → P x → Any P xs
any_from_item P x [] h p = absurd h
any_from_item P x (y ∷ ys) (inl is) p = Any-head P y ys (subst P (sym is) p)
any_from_item P x (y ∷ ys) (inr h) p = Any-tail P y ys (any_from_item P x ys h p)

-- an item of the key, by `Any` and among the keys

pub key_IsIn : {X Y : Type 0} (f : X → Y) (y : Y) (xs : List X) → Any (λ x. f x ≡ y) xs → IsIn y (map f xs)
key_IsIn f y [] h = Any-nil (λ x. f x ≡ y) h
key_IsIn f y (x ∷ xs) h = elim (Any-cons (λ z. f z ≡ y) x xs h) [ inl is ↦ inl is | inr k ↦ inr (key_IsIn f y xs k) ]

pub IsIn_key : {X Y : Type 0} (f : X → Y) (y : Y) (xs : List X) → IsIn y (map f xs) → Any (λ x. f x ≡ y) xs
IsIn_key f y [] h = absurd h
IsIn_key f y (x ∷ xs) (inl is) = Any-head (λ z. f z ≡ y) x xs is
IsIn_key f y (x ∷ xs) (inr h) = Any-tail (λ z. f z ≡ y) x xs (IsIn_key f y xs h)

read_at : {X : Type 0} (xs : List X) (k : ℕ) (x : X) → slice_get xs k ≡ Some x → get_or xs k x ≡ x
read_at [] k x e = refl
read_at (z ∷ zs) zero x e = (let f : Some z ≡ Some x = e in cc)
read_at (z ∷ zs) (suc k) x e = read_at zs k x e

pub item_from_all : {X : Type 0} (P : X → Type 0) (xs : List X) → All P xs → (x : X) → IsIn x xs → P x
item_from_all P xs all x h =
    let at : (k : ℕ) × (k < length xs) × (slice_get xs k ≡ Some x) = index_of_item x xs h in
    subst P (read_at xs at.0 x at.2) (all at.0 x at.1)

pub all_from_items : {X : Type 0} (P : X → Type 0) (xs : List X) → ((x : X) → IsIn x xs → P x) → All P xs
all_from_items P xs each k d below = each (get_or xs k d) (item_within xs k d below)

-- ---- a loop that looks for an item

pub none_so_far : {X : Type 0} (P : X → Type 0) (xs : List X) (i : ℕ) (x : X) → i < length xs → x ≡ get_or xs i x → ¬ P x → All (λ y. ¬ P y) (take i xs) → All (λ y. ¬ P y) (take (i + 1) xs)
none_so_far P xs i x below is fails before =
    subst (All (λ y. ¬ P y)) (ap (λ y. take i xs ++ y ∷ []) is ∙ sym (take_more xs i x below)) (All-push (λ y. ¬ P y) (take i xs) x before fails)

pub none_at_all : {X : Type 0} (P : X → Type 0) (xs : List X) (n : ℕ) → length xs ≤ n → All (λ y. ¬ P y) (take n xs) → ¬ Any P xs
none_at_all P xs n past none (k, x, below, is, holds) = subst (All (λ y. ¬ P y)) (take_all n xs past) none k x below (subst P (sym is) holds)

pub some_at_last : {X : Type 0} (P : X → Type 0) (xs : List X) (i : ℕ) (x : X) → i < length xs → x ≡ get_or xs i x → P x → Any P xs
some_at_last P xs i x below is holds = (i, x, below, sym is, holds)
