-- What stands in a list that is filtered, mapped or joined, and lists of places.
use Rattle.std.proofs.Common.{◌≡◌, ◌≢◌, ℕ, ◌≤◌, ◌<◌, zero, suc, List, [], ◌∷◌, ◌++◌, length, get_or, Bool, true, false, cond, eqb, refl, sym, ap, ◌∙◌, subst, arith, ⊎_elim, ◌⊎◌, inl, inr, All, AllPairs, Contains, IsPermutation, map, filter, sum_by}
use Rattle.std.proofs.lemmas.Bool.{cases_lt, both_ways, eqb-true, eq-eqb, false_from_ne_true}
use Rattle.std.proofs.lemmas.List.{get_or-map, length-map}
use Rattle.std.proofs.lemmas.List.Sums.{sum_by_push, sum_by-cons}
use Rattle.std.proofs.lemmas.List.Elements.{All-nil, All-cons, All-head, All-tail, All-append, All-push, All-weaker, Contains-append_left, Contains-push}
use Rattle.std.proofs.lemmas.List.Sorted.{All-permutation, Contains-permutation, sum_by-IsPermutation}
use Rattle.std.proofs.lemmas.List.Kept.{AllPairs-cons}
use Rattle.members_dm.specs.InOrder.{positions_below}
use Rattle.members_dm.proofs.PositionLists.{place_of_item, positions_cover}

module _ {X : Type 0} where
  pub contains_here : (x : X) (xs : List X) → Contains (x ∷ xs) x
  contains_here x xs = (0, omega arith, refl)

  pub contains_later : (y x : X) (xs : List X) → Contains xs x → Contains (y ∷ xs) x
  contains_later y x xs h = (suc h.0, omega (arith, h.1), h.2)

  pub contains_cases : (y x : X) (xs : List X) → Contains (y ∷ xs) x → (y ≡ x) ⊎ Contains xs x
  contains_cases y x xs h = go h.0 h.1 h.2
    where
      go : (k : ℕ) → k < length (y ∷ xs) → get_or (y ∷ xs) k x ≡ x → (y ≡ x) ⊎ Contains xs x
      go zero l e = inl e
      go (suc k) l e = inr (k, omega arith, e)

  pub contains_nothing : (x : X) → Contains [] x → ⊥
  contains_nothing x h = omega (arith, h.1)

  pub Contains-filter : (p : X → Bool) (x : X) (xs : List X) → Contains xs x → p x ≡ true → Contains (filter p xs) x
  Contains-filter p x [] h e = h
  Contains-filter p x (y ∷ ys) h e = go (p y) refl (⊎_elim inl (λ k. inr (Contains-filter p x ys k e)) (contains_cases y x ys h))
    where
      go : (b : Bool) → p y ≡ b → (y ≡ x) ⊎ Contains (filter p ys) x → Contains (cond b (y ∷ filter p ys) (filter p ys)) x
      go true s (inl k) = subst (λ z. Contains (z ∷ filter p ys) x) (sym k) (contains_here x (filter p ys))
      go true s (inr k) = contains_later y x (filter p ys) k
      go false s (inl k) = absurd (both_ways _ s (ap p k ∙ e))
      go false s (inr k) = k

  pub pairs_head : (R : X → X → Type 0) (x : X) (xs : List X) → AllPairs R (x ∷ xs) → All (R x) xs
  pairs_head R x xs h = λ k d l. h 0 (suc k) d (omega arith) (omega arith)

  pub pairs_tail : (R : X → X → Type 0) (x : X) (xs : List X) → AllPairs R (x ∷ xs) → AllPairs R xs
  pairs_tail R x xs h = λ i j d a b. h (suc i) (suc j) d (omega arith) (omega arith)

  pub AllPairs-append : (R : X → X → Type 0) (xs ys : List X) → AllPairs R xs → AllPairs R ys → All (λ x. All (R x) ys) xs → AllPairs R (xs ++ ys)
  AllPairs-append R [] ys h k c = k
  AllPairs-append R (x ∷ xs) ys h k c =
      AllPairs-cons R x (xs ++ ys) (All-append (R x) xs ys (pairs_head R x xs h) (All-head (λ x. All (R x) ys) x xs c))
      (AllPairs-append R xs ys (pairs_tail R x xs h) k (All-tail (λ x. All (R x) ys) x xs c))

  pub All-from_map : {Y : Type 0} (P : Y → Type 0) (f : X → Y) (xs : List X) → All P (map f xs) → All (λ x. P (f x)) xs
  All-from_map P f xs h = λ k d l. subst P (get_or-map f xs k d (f d) l) (h k (f d) (rw length-map l))

pub Contains-map : {X Y : Type 0} (f : X → Y) (x : X) (xs : List X) → Contains xs x → Contains (map f xs) (f x)
Contains-map f x xs h = (h.0, rw length-map h.1, get_or-map f xs h.0 x (f x) h.1 ∙ ap f h.2)

pub Contains-from_map : {X Y : Type 0} (f : X → Y) (y : Y) (xs : List X) → Contains (map f xs) y → (x : X) × Contains xs x × (f x ≡ y)
Contains-from_map f y [] h = absurd (contains_nothing y h)
Contains-from_map f y (x ∷ xs) h = ⊎_elim (λ e. (x, contains_here x xs, e))
    (λ k. let r = Contains-from_map f y xs k in (r.0, contains_later x r.0 xs r.1, r.2)) (contains_cases (f x) y (map f xs) h)

-- ---- the places below n

pub rows_contain : (n : ℕ) (rows : List ℕ) → IsPermutation (positions_below n) rows → (i : ℕ) → i < n → Contains rows i
rows_contain n rows permuted i l = place_of_item i rows (positions_cover n rows permuted i l)
