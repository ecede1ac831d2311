-- Lists of positions: each below n once, in any order.
use Rattle.std.proofs.Common.{◌≡◌, ◌≢◌, ℕ, ◌≤◌, ◌<◌, zero, suc, List, [], ◌∷◌, length, get_or, Bool, true, false, eqb, refl, sym, ap, arith, ⊎_elim, inl, inr, All, AllPairs, IsPermutation, sum_by}
use Rattle.std.proofs.lemmas.Bool.{cases_lt, eqb-true, eq-eqb, false_from_ne_true}
use Rattle.std.proofs.lemmas.List.Sums.{sum_by_push, sum_by-cons}
use Rattle.std.proofs.lemmas.List.Elements.{All-nil, All-cons, All-push, All-weaker}
use Rattle.std.proofs.lemmas.List.Sorted.{All-permutation, sum_by-IsPermutation, IsPermutation-sym}
use Rattle.std.proofs.lemmas.List.Kept.{AllPairs-cons}
use Rattle.members_dm.specs.InOrder.{positions_below}
use Rattle.members_dm.specs.Membership.{IsIn}
use Rattle.members_dm.proofs.AnyLemmas.{all_from_items, item_from_all}
use Rattle.members_dm.proofs.MembershipLemmas.{IsIn-front, IsIn-back}

pub place_of_item : {X : Type 0} (x : X) (xs : List X) → IsIn x xs → (k : ℕ) × (k < length xs) × (get_or xs k x ≡ x)
place_of_item x [] h = absurd h
place_of_item x (y ∷ xs) (inl is) = (0, omega arith, is)
place_of_item x (y ∷ xs) (inr h) = let found = place_of_item x xs h in (suc found.0, omega arith, found.2)

-- ---- the positions below n

abbrev one_if : Bool → ℕ
one_if true = 1
one_if false = 0

how_often : ℕ → List ℕ → ℕ
how_often x xs = sum_by (λ y. one_if (eqb y x)) xs

same_counts : (y x : ℕ) → y ≡ x → one_if (eqb y x) ≡ 1
same_counts y x e = ap one_if (eq-eqb y x e)

other_counts : (y x : ℕ) → (y ≡ x → ⊥) → one_if (eqb y x) ≡ 0
other_counts y x h = ap one_if (false_from_ne_true _ (λ s. h (eqb-true y x s)))

absent : (x : ℕ) (xs : List ℕ) → how_often x xs ≡ 0 → All (λ y. x ≢ y) xs
unfolding how_often
absent x [] e = All-nil (λ y. x ≢ y)
absent x (y ∷ ys) e =
    let more = sum_by-cons (λ z. one_if (eqb z x)) y ys in
    All-cons (λ z. x ≢ z) y ys (λ k. let one = same_counts y x (sym k) in omega (arith, e, more, one)) (absent x ys (omega (arith, e, more)))

apart_from_counts : (xs : List ℕ) → ((x : ℕ) → how_often x xs ≤ 1) → AllPairs (λ a b. a ≢ b) xs
unfolding how_often
apart_from_counts [] h = λ i j d a b. absurd (omega arith)
apart_from_counts (x ∷ xs) h =
    AllPairs-cons (λ a b. a ≢ b) x xs
    (absent x xs (omega (arith, h x, sum_by-cons (λ z. one_if (eqb z x)) x xs, same_counts x x refl)))
    (apart_from_counts xs (λ y. omega (arith, h y, sum_by-cons (λ z. one_if (eqb z y)) x xs)))

at_most_one : (b : Bool) → one_if b ≤ 1
at_most_one true = omega arith
at_most_one false = omega arith

counts_below : (n x : ℕ) → (n ≤ x → how_often x (positions_below n) ≡ 0) × (how_often x (positions_below n) ≤ 1)
unfolding how_often
counts_below zero x = ((λ l. refl), omega arith)
counts_below (suc n) x =
    let more = sum_by_push (λ y. one_if (eqb y x)) (positions_below n) n in
    let before = counts_below n x in
    ⊎_elim
    (λ l. let other = other_counts n x (omega arith) in ((λ k. absurd (omega arith)), omega (arith, more, before.1, other)))
    (λ l.
    let none = before.0 l in (
      (λ k. let other = other_counts n x (omega arith) in omega (arith, more, none, other)),
      omega (arith, more, none, at_most_one (eqb n x)),
    ))
    (cases_lt x n)

all_below : (n : ℕ) → All (λ i. i < n) (positions_below n)
all_below zero = All-nil (λ i. i < 0)
all_below (suc n) = All-push (λ i. i < suc n) (positions_below n) n (All-weaker (λ i. i < n) (λ i. i < suc n) (λ i h. omega arith) (positions_below n) (all_below n)) (omega arith)

each_below : (n i : ℕ) → i < n → IsIn i (positions_below n)
each_below zero i l = absurd (omega arith)
each_below (suc n) i l =
    ⊎_elim
    (λ k. IsIn-front i (positions_below n) (n ∷ []) (each_below n i k))
    (λ k. let e : n ≡ i = omega arith in IsIn-back i (positions_below n) (n ∷ []) (inl e))
    (cases_lt i n)

module _ (n : ℕ) (positions : List ℕ) (permuted : IsPermutation (positions_below n) positions) where
  pub positions_within : All (λ i. i < n) positions
  positions_within = All-permutation (λ i. i < n) (positions_below n) positions permuted (all_below n)

  pub positions_cover : (i : ℕ) → i < n → IsIn i positions
  positions_cover i l =
      item_from_all (λ x. IsIn x positions) (positions_below n)
      (All-permutation (λ x. IsIn x positions) positions (positions_below n) (IsPermutation-sym (positions_below n) positions permuted)
      (all_from_items (λ x. IsIn x positions) positions (λ x h. h))) i (each_below n i l)

  pub positions_apart : AllPairs (λ a b. a ≢ b) positions
  unfolding how_often
  positions_apart = apart_from_counts positions (λ x.
      let e = sum_by-IsPermutation (λ y. one_if (eqb y x)) (positions_below n) positions permuted in
      omega (arith, e, (counts_below n x).1))
