-- The part of a sorted list whose keys are one.
use Rattle.std.proofs.Common.{◌≡◌, ℕ, ◌≤◌, ◌<◌, ◌+◌, ◌-◌, List, length, get_or, take, drop, Bool, true, false, not, refl, sym, ap, ◌∙◌, subst, arith, ⊎_elim, inl, inr, ◌↔◌, Ordering, Less, Equal, Greater, is_lt}
use Rattle.std.specs.Cmp.{IsTotalOrder, IsStrictWeakOrder}
use Rattle.std.specs.Ordering.{is_le, ordering_reverse}
use Rattle.std.specs.List.Sorted.{IsPartitionedBy, IsPartitionPoint}
use Rattle.std.proofs.lemmas.Bool.{both_ways, cases_Bool, cases_lt}
use Rattle.std.proofs.lemmas.List.{get_or-take, get_or-drop, length-take-le, length-drop}
use Rattle.std.proofs.lemmas.List.Sorted.{ranks_by}
use Rattle.members_dm.specs.Membership.{IsIn}
use Rattle.members_dm.proofs.ElementsLemmas.{item_within}
use Rattle.members_dm.proofs.PositionLists.{place_of_item}

le_reversed : (r : Ordering) → is_le (ordering_reverse r) ≡ not (is_lt r)
le_reversed Less = refl
le_reversed Equal = refl
le_reversed Greater = refl

pub lt_le : (r : Ordering) → is_lt r ≡ true → is_le r ≡ true
lt_le Less e = refl
lt_le Equal e = refl
lt_le Greater e = e

pub equal_between : (r : Ordering) → is_lt r ≡ false → is_le r ≡ true → r ≡ Equal
equal_between Less e f = absurd (both_ways _ e refl)
equal_between Equal e f = refl
equal_between Greater e f = absurd (both_ways _ refl f)

not_false : (b : Bool) → not b ≡ true → b ≡ false
not_false true e = cc e
not_false false e = refl

module _ {X K : Type 0} {o : K → K → Ordering} (total : IsTotalOrder o) (key : X → K) (xs : List X)
    (rising : (i j : ℕ) (d : X) → i ≤ j → j < length xs → is_lt (o (key (get_or xs j d)) (key (get_or xs i d))) ≡ false) (k : K) where
  weak : IsStrictWeakOrder (λ (a b : K). is_lt (o a b))
  weak = ranks_by total (λ (a : K). a)

  not_above : (a : K) → is_le (o a k) ≡ not (is_lt (o k a))
  not_above a = ap is_le (total.antisymm a k) ∙ le_reversed (o k a)

  pub before_parted : IsPartitionedBy (λ x. is_lt (o (key x) k)) xs
  before_parted i j d l m e = elim (cases_Bool (is_lt (o (key (get_or xs i d)) k))) [
    | inl t ↦ t
    | inr f ↦ absurd (both_ways _ (weak.chain (key (get_or xs j d)) (key (get_or xs i d)) k (rising i j d l m) f) e)
  ]

  pub not_behind_parted : IsPartitionedBy (λ x. is_le (o (key x) k)) xs
  not_behind_parted i j d l m e =
      not_above (key (get_or xs i d)) ∙ ap not (weak.chain k (key (get_or xs j d)) (key (get_or xs i d)) (not_false _ (sym (not_above (key (get_or xs j d))) ∙ e)) (rising i j d l m))

  module _ (s e : ℕ) (ls : s ≤ length xs) (le : e ≤ length xs)
      (start : IsPartitionPoint (λ x. is_lt (o (key x) k) ≡ true) (λ x. is_lt (o (key x) k) ≡ false) xs s)
      (end : IsPartitionPoint (λ x. is_le (o (key x) k) ≡ true) (λ x. is_le (o (key x) k) ≡ false) xs e) where
    read : (n : ℕ) (d : X) → n < e - s → get_or (take (e - s) (drop s xs)) n d ≡ get_or xs (s + n) d
    read n d l = get_or-take (e - s) (drop s xs) n d l ∙ get_or-drop s xs n d

    many : length (take (e - s) (drop s xs)) ≡ e - s
    many = length-take-le (e - s) (drop s xs) (omega (arith, length-drop s xs))

    pub start_first : (d : X) → s ≤ e
    start_first d = ⊎_elim (λ h. absurd (both_ways _ (end.1 e d (omega arith) (omega arith)) (lt_le _ (start.0 e d (omega arith) h)))) (λ h. h) (cases_lt e s)

    inside : (n : ℕ) (d : X) → s ≤ n → n < e → o (key (get_or xs n d)) k ≡ Equal
    inside n d l m = equal_between _ (start.1 n d l (omega arith)) (end.0 n d (omega arith) m)

    -- what stands at a place of the part stands at a place of the list, and has the key
    pub part_at : (n : ℕ) (d : X) → n < length (take (e - s) (drop s xs)) → (s + n < length xs) × (get_or (take (e - s) (drop s xs)) n d ≡ get_or xs (s + n) d) × (o (key (get_or xs (s + n) d)) k ≡ Equal)
    part_at n d l = (let small : n < e - s = omega (arith, l, many) in (omega (arith, small, le), read n d small, inside (s + n) d (omega arith) (omega (arith, small))))

    pub part_has : (x : X) → IsIn x (take (e - s) (drop s xs)) ↔ (IsIn x xs × (o (key x) k ≡ Equal))
    part_has x = (
      (λ h. let found = place_of_item x (take (e - s) (drop s xs)) h in
          let at = part_at found.0 x found.1 in
          let same : get_or xs (s + found.0) x ≡ x = sym at.1 ∙ found.2 in
          (subst (λ (y : X). IsIn y xs) same (item_within xs (s + found.0) x at.0), subst (λ (y : X). o (key y) k ≡ Equal) same at.2)),
      (λ h. let found = place_of_item x xs h.0 in
          let tie : o (key (get_or xs found.0 x)) k ≡ Equal = ap (λ (y : X). o (key y) k) found.2 ∙ h.1 in
          let low : s ≤ found.0 = ⊎_elim (λ l. absurd (both_ways _ (ap is_lt tie) (start.0 found.0 x (omega arith) l))) (λ l. l) (cases_lt found.0 s) in
          let high : found.0 < e = ⊎_elim (λ l. l) (λ l. absurd (both_ways _ (end.1 found.0 x l found.1) (ap is_le tie))) (cases_lt found.0 e) in
          let small : found.0 - s < e - s = omega arith in
          let same : get_or (take (e - s) (drop s xs)) (found.0 - s) x ≡ x = read (found.0 - s) x small ∙ ap (λ n. get_or xs n x) (omega arith) ∙ found.2 in
          subst (λ (y : X). IsIn y (take (e - s) (drop s xs))) same (item_within (take (e - s) (drop s xs)) (found.0 - s) x (omega (arith, many, small)))),
    )
