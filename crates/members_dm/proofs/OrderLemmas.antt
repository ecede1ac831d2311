-- Items that are found by halving the positions of a list in the order of its items, and items that stand twice.
use Rattle.std.proofs.Common.{◌≡◌, ◌≢◌, ℕ, ◌≤◌, ◌<◌, ◌+◌, ◌-◌, zero, suc, List, [], ◌∷◌, length, get_or, Option, None, Some, Bool, true, false, refl, sym, ap, ◌∙◌, arith, ⊎_elim, inl, inr, ◌⊎◌, Ordering, Less, Equal, Greater, is_lt, nat_cmp, IsSortedBy}
use Rattle.std.specs.Prelude.{slice_get}
use Rattle.std.specs.Cmp.{IsTotalOrder, IsStrictWeakOrder}
use Rattle.std.specs.Cmp.Lexicographic.{options_total}
use Rattle.std.specs.Option.{option_cmp}
use Rattle.std.specs.Ordering.{ordering_then, ordering_reverse, eq_by_cmp, is_eq}
use Rattle.std.specs.List.Sorted.{IsPartitionedBy, IsPartitionPoint}
use Rattle.std.proofs.lemmas.Bool.{both_ways, cases_Bool, cases_lt}
use Rattle.std.proofs.lemmas.Bool.Decides.{nat_tests}
use Rattle.std.proofs.lemmas.Cmp.{nat_cmp_total, on_total, then_total, tied_itself}
use Rattle.std.proofs.lemmas.List.{get_or_default}
use Rattle.std.proofs.lemmas.Option.{slice_get_within}
use Rattle.std.proofs.lemmas.List.Sorted.{ranks_by, sorted_far}
use Rattle.members_dm.specs.Elements.{Repeats}
use Rattle.members_dm.specs.InOrder.{position_cmp, AreRisingBy, AreInOrder, IsFirstPlace, AreSameAt}
use Rattle.members_dm.proofs.ElementsLemmas.{index_of_item, item_at_index}
use Rattle.members_dm.proofs.PositionLists.{place_of_item, positions_cover, positions_apart}

-- ---- items that stand twice

pub repeats_by_places : {X : Type 0} (xs : List X) (i j : ℕ) → i < j → AreSameAt xs i j → Repeats xs
repeats_by_places [] i j l (x, a, b) = absurd (cc)
repeats_by_places (y ∷ xs) zero zero l (x, a, b) = absurd (omega arith)
repeats_by_places (y ∷ xs) zero (suc j) l (x, a, b) = inl (item_at_index y xs j (b ∙ sym a))
repeats_by_places (y ∷ xs) (suc i) zero l (x, a, b) = absurd (omega arith)
repeats_by_places (y ∷ xs) (suc i) (suc j) l (x, a, b) = inr (repeats_by_places xs i j (omega arith) (x, a, b))

pub places_of_repeats : {X : Type 0} (xs : List X) → Repeats xs → (i j : ℕ) × (i < j) × (j < length xs) × AreSameAt xs i j
places_of_repeats [] h = absurd h
places_of_repeats (y ∷ xs) (inl is) = let found = index_of_item y xs is in (0, suc found.0, omega arith, omega arith, (y, refl, found.2))
places_of_repeats (y ∷ xs) (inr h) = let (i, j, l, m, same) = places_of_repeats xs h in (suc i, suc j, omega arith, omega arith, same)

-- ---- orders one after the other

not_lt_first : (a b : Ordering) → is_lt (ordering_then a b) ≡ false → is_lt a ≡ false
not_lt_first Less b e = e
not_lt_first Equal b e = refl
not_lt_first Greater b e = refl

pub not_lt_both : (a : Ordering) → is_lt a ≡ false → is_lt (ordering_reverse a) ≡ false → a ≡ Equal
not_lt_both Less e f = cc e
not_lt_both Equal e f = refl
not_lt_both Greater e f = cc f

not_less : (a b : ℕ) → is_lt (nat_cmp b a) ≡ false → a ≤ b
not_less a b e = grind (arith, nat_tests)

module _ {K : Type 0} {order : K → K → Ordering} (total : IsTotalOrder order) (xs : List K) where
  positions_total : IsTotalOrder (position_cmp order xs)
  positions_total = then_total (on_total (λ (p : ℕ). slice_get xs p) (options_total total)) nat_cmp_total

  pub positions_weak : IsStrictWeakOrder (λ (i j : ℕ). is_lt (position_cmp order xs i j))
  positions_weak = ranks_by positions_total (λ (p : ℕ). p)

  pub rising_from_sort : (positions : List ℕ) → IsSortedBy (λ (i j : ℕ). is_lt (position_cmp order xs i j)) positions → AreRisingBy order xs positions
  rising_from_sort positions sorted = λ i j d l m. sorted_far (λ (i j : ℕ). is_lt (position_cmp order xs i j)) positions_weak positions sorted i j d l m

module _ {K : Type 0} {order : K → K → Ordering} (total : IsTotalOrder order) (ties : (x y : K) → order x y ≡ Equal → x ≡ y) (xs : List K) (positions : List ℕ)
    (sorted : AreInOrder order xs positions) where
  at : ℕ → Option K
  at p = slice_get xs p

  stand : Option K → Option K → Ordering
  stand = option_cmp order

  stand_total : IsTotalOrder (option_cmp order)
  stand_total = options_total total

  chain : (a b c : Option K) → is_lt (option_cmp order a b) ≡ false → is_lt (option_cmp order b c) ≡ false → is_lt (option_cmp order a c) ≡ false
  chain = (ranks_by stand_total (λ (a : Option K). a)).chain

  one_by_ties : (a : Option K) (x : K) → option_cmp order a (Some x) ≡ Equal → a ≡ Some x
  one_by_ties None x e = cc e
  one_by_ties (Some y) x e = ap (λ z. Some z) (ties y x e)

  items_rise : (i j d : ℕ) → i ≤ j → j < length positions → is_lt (option_cmp order (slice_get xs (get_or positions j d)) (slice_get xs (get_or positions i d))) ≡ false
  items_rise i j d l m = not_lt_first _ _ (sorted.rising i j d l m)

  pub parted : (x : K) → IsPartitionedBy (λ p. is_lt (option_cmp order (slice_get xs p) (Some x))) positions
  parted x i j d l m e = elim (cases_Bool (is_lt (option_cmp order (slice_get xs (get_or positions i d)) (Some x)))) [
    | inl t ↦ t
    | inr f ↦ absurd (both_ways _ (chain (slice_get xs (get_or positions j d)) (slice_get xs (get_or positions i d)) (Some x) (items_rise i j d l m) f) e)
  ]

  -- where a position stands among the sorted ones
  stands : (p : ℕ) → p < length xs → (k : ℕ) × (k < length positions) × (get_or positions k p ≡ p)
  stands p l = place_of_item p positions (positions_cover (length xs) positions sorted.permuted p l)

  module _ (x : K) (s : ℕ) (start : IsPartitionPoint (λ p. is_lt (option_cmp order (slice_get xs p) (Some x)) ≡ true) (λ p. is_lt (option_cmp order (slice_get xs p) (Some x)) ≡ false) positions s)
    where
      -- a position of the item stands behind the point
      behind : (p : ℕ) → slice_get xs p ≡ Some x → (k : ℕ) × (k < length positions) × (get_or positions k p ≡ p) × (s ≤ k)
      behind p is =
          let (k, below, here) = stands p (slice_get_within xs p x is) in
          let tie : option_cmp order (slice_get xs (get_or positions k p)) (Some x) ≡ Equal = ap (λ q. option_cmp order (slice_get xs q) (Some x)) here ∙ ap (λ a. option_cmp order a (Some x)) is
          ∙ tied_itself stand_total (Some x) in (
            k,
            below,
            here,
            ⊎_elim (λ l. absurd (both_ways _ (ap is_lt tie) (start.0 k p (omega arith) l))) (λ l. l) (cases_lt k s),
          )

      pub first_here : (p : ℕ) → s < length positions → get_or positions s p ≡ p → slice_get xs p ≡ Some x → IsFirstPlace xs x (Some p)
      first_here p below here is = (
        is,
        (λ q l same.
            let (k, within, there, low) = behind q same in
            let rise : is_lt (position_cmp order xs q p) ≡ false =
            ap (λ (a : ℕ). is_lt (position_cmp order xs a p)) (sym there) ∙ ap (λ (a : ℕ). is_lt (position_cmp order xs (get_or positions k q) a)) (sym (here_at q))
            ∙ sorted.rising s k q low within in
            let tie : option_cmp order (slice_get xs q) (slice_get xs p) ≡ Equal = ap (λ a. option_cmp order a (slice_get xs p)) same ∙ ap (λ a. option_cmp order (Some x) a) is ∙ tied_itself stand_total (Some x) in
            let apart : is_lt (nat_cmp q p) ≡ false = sym (ap (λ r. is_lt (ordering_then r (nat_cmp q p))) tie) ∙ rise in
            let high : p ≤ q = not_less p q apart in
            omega arith),
      )
        where
          here_at : (d : ℕ) → get_or positions s d ≡ p
          here_at d = get_or_default positions s d p below ∙ here

      pub none_behind : length positions ≤ s → IsFirstPlace xs x None
      none_behind past = λ p is. let (k, below, here, low) = behind p is in omega arith

      pub none_here : (p : ℕ) → s < length positions → ((d : ℕ) → get_or positions s d ≡ p) → ¬ (slice_get xs p ≡ Some x) → IsFirstPlace xs x None
      none_here p below here other = λ q same.
          let (k, within, there, low) = behind q same in
          let not_before : is_lt (option_cmp order (slice_get xs p) (Some x)) ≡ false = ap (λ (a : ℕ). is_lt (option_cmp order (slice_get xs a) (Some x))) (sym (here q)) ∙ start.1 s q (omega arith) below in
          let not_behind : is_lt (option_cmp order (Some x) (slice_get xs p)) ≡ false =
          ap (λ a. is_lt (option_cmp order a (slice_get xs p))) (sym same) ∙ ap (λ (a : ℕ). is_lt (option_cmp order (slice_get xs a) (slice_get xs p))) (sym there)
          ∙ ap (λ (a : ℕ). is_lt (option_cmp order (slice_get xs (get_or positions k q)) (slice_get xs a))) (sym (here q)) ∙ items_rise s k q low within in
          other (one_by_ties (slice_get xs p) x
          (not_lt_both _ not_before (ap is_lt (sym (stand_total.antisymm (Some x) (slice_get xs p))) ∙ not_behind)))

  -- ---- neighbours

  pub two_here : (k p q : ℕ) → k + 1 < length positions → ((d : ℕ) → get_or positions k d ≡ p) → ((d : ℕ) → get_or positions (k + 1) d ≡ q) → AreSameAt xs p q → Repeats xs
  two_here k p q below here next same =
      let apart : p ≢ q = λ e. positions_apart (length xs) positions sorted.permuted k (k + 1) 0 (omega arith) below (here 0 ∙ e ∙ sym (next 0)) in
      ⊎_elim (λ l. repeats_by_places xs p q l same)
      (λ l. repeats_by_places xs q p (let one : q ≢ p = λ e. apart (sym e) in omega arith) (same.0, same.2, same.1))
      (cases_lt p q)

  -- the same at a turn of the loop over the places of the second
  pub found_twice : (n p q : ℕ) → 1 ≤ n → n < length positions → p ≡ get_or positions (n - 1) p → q ≡ get_or positions n q → AreSameAt xs p q → Repeats xs
  found_twice n p q low below here next same =
      let one : n - 1 + 1 ≡ n = omega arith in
      two_here (n - 1) p q (omega arith) (λ d. get_or_default positions (n - 1) d p (omega arith) ∙ sym here)
      (λ d. ap (λ k. get_or positions k d) one ∙ get_or_default positions n d q below ∙ sym next) same

  pub none_more : (n p q : ℕ) → 1 ≤ n → n < length positions → p ≡ get_or positions (n - 1) p → q ≡ get_or positions n q → ¬ AreSameAt xs p q
      → ((k d : ℕ) → k + 1 < n → ¬ AreSameAt xs (get_or positions k d) (get_or positions (k + 1) d)) → (k d : ℕ) → k + 1 < n + 1 → ¬ AreSameAt xs (get_or positions k d) (get_or positions (k + 1) d)
  none_more n p q low below here next other before k d l same = ⊎_elim
      (λ m. before k d m same)
      (λ m.
      let last : k ≡ n - 1 = omega arith in
      let one : k + 1 ≡ n = omega arith in
      let first : get_or positions k d ≡ p = ap (λ j. get_or positions j d) last ∙ get_or_default positions (n - 1) d p (omega arith) ∙ sym here in
      let second : get_or positions (k + 1) d ≡ q = ap (λ j. get_or positions j d) one ∙ get_or_default positions n d q below ∙ sym next in
      other (same.0, ap (slice_get xs) (sym first) ∙ same.1, ap (slice_get xs) (sym second) ∙ same.2))
      (cases_lt (k + 1) n)

  apart_by_neighbours : ((k d : ℕ) → k + 1 < length positions → ¬ AreSameAt xs (get_or positions k d) (get_or positions (k + 1) d)) → (a b d : ℕ) → a < b → b < length positions
      → ¬ AreSameAt xs (get_or positions a d) (get_or positions b d)
  apart_by_neighbours none a b d l m (x, is, also) =
      let next = slice_get xs (get_or positions (a + 1) d) in
      let up : is_lt (option_cmp order next (slice_get xs (get_or positions a d))) ≡ false = items_rise a (a + 1) d (omega arith) (omega arith) in
      let on : is_lt (option_cmp order (slice_get xs (get_or positions b d)) next) ≡ false = items_rise (a + 1) b d (omega arith) m in
      let low : is_lt (option_cmp order next (Some x)) ≡ false = ap (λ y. is_lt (option_cmp order next y)) (sym is) ∙ up in
      let high : is_lt (option_cmp order (Some x) next) ≡ false = ap (λ y. is_lt (option_cmp order y next)) (sym also) ∙ on in
      let one : next ≡ Some x = one_by_ties next x (not_lt_both _ low (ap is_lt (sym (stand_total.antisymm (Some x) next)) ∙ high)) in
      none a d (omega arith) (x, is, one)

  pub none_twice : ((k d : ℕ) → k + 1 < length positions → ¬ AreSameAt xs (get_or positions k d) (get_or positions (k + 1) d)) → ¬ Repeats xs
  none_twice none h =
      let (i, j, l, m, (x, is, also)) = places_of_repeats xs h in
      let (a, within, here) = stands i (omega arith) in
      let (b, inside, there) = stands j m in
      go x i j l is also a b within inside here there (cases_lt a b)
    where
      go : (x : K) (i j : ℕ) → i < j → slice_get xs i ≡ Some x → slice_get xs j ≡ Some x → (a b : ℕ) → a < length positions → b < length positions → get_or positions a i ≡ i → get_or positions b j ≡ j
          → (a < b) ⊎ (b ≤ a) → ⊥
      go x i j l is also a b within inside here there (inl low) =
          apart_by_neighbours none a b 0 low inside
          (x, ap (slice_get xs) (get_or_default positions a 0 i within ∙ here) ∙ is, ap (slice_get xs) (get_or_default positions b 0 j inside ∙ there) ∙ also)
      go x i j l is also a b within inside here there (inr high) =
          let apart : a ≢ b = λ e. (let same : i ≡ j = sym here ∙ ap (λ k. get_or positions k i) e ∙ get_or_default positions b i j inside ∙ there in omega arith) in
          apart_by_neighbours none b a 0 (omega arith) within
          (x, ap (slice_get xs) (get_or_default positions b 0 j inside ∙ there) ∙ also, ap (slice_get xs) (get_or_default positions a 0 i within ∙ here) ∙ is)

-- what the laws of `==` and of the order say together
pub ties_from_eq : {K : Type 0} (eq : K → K → Bool) (order : K → K → Ordering) → ((x y : K) → eq x y ≡ eq_by_cmp order x y) → ((x y : K) → (eq x y ≡ true → x ≡ y) × (x ≡ y → eq x y ≡ true))
    → (x y : K) → order x y ≡ Equal → x ≡ y
ties_from_eq eq order matches decides x y e = (decides x y).0 (matches x y ∙ tied (order x y) e)
  where
    tied : (r : Ordering) → r ≡ Equal → is_eq r ≡ true
    tied Less f = cc f
    tied Equal f = refl
    tied Greater f = cc f
