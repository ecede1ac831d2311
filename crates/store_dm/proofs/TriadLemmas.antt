-- The order of triads, and what begins with some numbers.
use Rattle.std.proofs.Common.{◌≡◌, ◌≢◌, ℕ, ◌≤◌, ◌<◌, ◌+◌, ◌-◌, List, length, get_or, take, drop, Bool, true, false, not, ◌&&◌, refl, sym, ap, ◌∙◌, subst, arith, ⊎_elim, ◌⊎◌, inl, inr, AllPairs, Contains, ◌↔◌, IsSorted, Ordering, Less, Equal, Greater, is_eq, nat_cmp, nat_eq}
use Rattle.std.specs.Cmp.{IsTotalOrder, IsEquivalence}
use Rattle.std.specs.Ordering.{ordering_then, eq_by_cmp}
use Rattle.std.specs.List.{dedup}
use Rattle.std.specs.List.Sorted.{IsPartitionedBy, IsPartitionPoint}
use Rattle.std.proofs.lemmas.Bool.Decides.{nat_tests}
use Rattle.std.proofs.lemmas.Bool.{both_ways, cases_Bool, and_parts, eqb-true, cases_lt}
use Rattle.std.proofs.lemmas.Cmp.{nat_cmp_total, on_total, then_total, tied_itself, and_equiv, on_equiv, nat_eq_equiv}
use Rattle.std.proofs.lemmas.List.Kept.{IsStrictlySortedBy-dedup, Contains-dedup, Contains-from_dedup}
use Rattle.std.proofs.lemmas.List.{get_or-take, get_or-drop, length-take-le, length-drop}
use Rattle.std.proofs.lemmas.Map.Keys.{Less-from_sorted}
use Rattle.store_dm.specs.declared.listing.Triad.{Triad}
use Rattle.store_dm.specs.Triads.{triad_cmp, IsRising, Fits, FitsAll, IsPrefix, is_below, is_above}

pub triad_cmp-total : IsTotalOrder triad_cmp
triad_cmp-total = then_total (on_total (λ (t : Triad). t.first) nat_cmp_total) (then_total (on_total (λ (t : Triad). t.second) nat_cmp_total) (on_total (λ (t : Triad). t.third) nat_cmp_total))

-- x comes before y
pub Before : Triad → Triad → Type 0
Before x y = (x.first < y.first) ⊎ ((x.first ≡ y.first) × ((x.second < y.second) ⊎ ((x.second ≡ y.second) × (x.third < y.third))))

nat_less : (a b : ℕ) → nat_cmp a b ≡ Less → a < b
nat_less a b e = grind (arith, nat_tests)

nat_equal : (a b : ℕ) → nat_cmp a b ≡ Equal → a ≡ b
nat_equal a b e = grind (arith, nat_tests)

then_less : (r s : Ordering) → ordering_then r s ≡ Less → (r ≡ Less) ⊎ ((r ≡ Equal) × (s ≡ Less))
then_less Less s e = inl refl
then_less Equal s e = inr (refl, e)
then_less Greater s e = inl e

pub before_from_less : (x y : Triad) → triad_cmp x y ≡ Less → Before x y
unfolding Before
before_from_less x y e = ⊎_elim (λ h. inl (nat_less x.first y.first h))
    (λ h. inr (
      nat_equal x.first y.first h.0,
      ⊎_elim (λ k. inl (nat_less x.second y.second k))
          (λ k. inr (nat_equal x.second y.second k.0, nat_less x.third y.third k.1)) (then_less _ _ h.1),
    ))
    (then_less _ _ e)

pub first_from_before : (x y : Triad) → Before x y → x.first ≤ y.first
unfolding Before
first_from_before x y h = ⊎_elim (λ l. omega arith) (λ k. omega (arith, k.0)) h

-- ---- the tests

pub below_earlier : (from x y : Triad) → Before x y → is_below from y ≡ true → is_below from x ≡ true
unfolding Before
below_earlier from x y h e = grind (arith, nat_tests)

pub above_later : (from x y : Triad) → Before x y → is_above from x ≡ true → is_above from y ≡ true
unfolding Before
above_later from x y h e = grind (arith, nat_tests)

pub not_both : (from x : Triad) → IsPrefix from → is_below from x ≡ true → is_above from x ≡ true → ⊥
not_both from x p e f = grind (arith, nat_tests)

pub fits_first : (from x : Triad) → IsPrefix from → is_below from x ≡ false → is_above from x ≡ false → Fits from.first x.first
fits_first from x p e f = grind (arith, nat_tests)

pub fits_second : (from x : Triad) → IsPrefix from → is_below from x ≡ false → is_above from x ≡ false → Fits from.second x.second
fits_second from x p e f = grind (arith, nat_tests)

pub fits_third : (from x : Triad) → IsPrefix from → is_below from x ≡ false → is_above from x ≡ false → Fits from.third x.third
fits_third from x p e f = grind (arith, nat_tests)

pub fit_not_below : (from x : Triad) → IsPrefix from → FitsAll from x → is_below from x ≡ false
fit_not_below from x p h = grind (arith, nat_tests)

pub fit_not_above : (from x : Triad) → IsPrefix from → FitsAll from x → is_above from x ≡ false
fit_not_above from x p h = grind (arith, nat_tests)

-- ---- a sort without repeats

equal_tests : (a b : ℕ) → nat_eq a b ≡ is_eq (nat_cmp a b)
equal_tests a b = grind (arith, nat_tests)

then_equal : (r s : Ordering) → (is_eq r && is_eq s) ≡ is_eq (ordering_then r s)
then_equal Less s = refl
then_equal Equal s = refl
then_equal Greater s = refl

triad_eq : Triad → Triad → Bool
triad_eq x y = nat_eq x.first y.first && (nat_eq x.second y.second && nat_eq x.third y.third)

triad_ties : (x y : Triad) → triad_eq x y ≡ eq_by_cmp triad_cmp x y
unfolding triad_eq
triad_ties x y = (λ i. equal_tests x.first y.first i && (equal_tests x.second y.second i && equal_tests x.third y.third i))
    ∙ ap (λ b. is_eq (nat_cmp x.first y.first) && b) (then_equal (nat_cmp x.second y.second) (nat_cmp x.third y.third))
    ∙ then_equal (nat_cmp x.first y.first) (ordering_then (nat_cmp x.second y.second) (nat_cmp x.third y.third))

pub rising_from_sort : (xs : List Triad) → IsSorted triad_cmp xs → IsRising (dedup (λ (x y : Triad). nat_eq x.first y.first && (nat_eq x.second y.second && nat_eq x.third y.third)) xs)
unfolding triad_eq
rising_from_sort xs sorted = IsStrictlySortedBy-dedup triad_cmp-total triad_ties xs sorted

-- ---- the range of those that begin with some numbers

module _ (xs : List Triad) (rising : IsRising xs) (from : Triad) where
  less : (i j : ℕ) (d : Triad) → i < j → j < length xs → triad_cmp (get_or xs i d) (get_or xs j d) ≡ Less
  less i j d l m = Less-from_sorted triad_cmp xs i j d rising l m

  in_order : (i j : ℕ) (d : Triad) → i ≤ j → j < length xs → (i ≡ j) ⊎ Before (get_or xs i d) (get_or xs j d)
  in_order i j d l m = ⊎_elim (λ k. inr (before_from_less _ _ (less i j d k m))) (λ k. inl (omega arith)) (cases_lt i j)

  pub below_parted : IsPartitionedBy (is_below from) xs
  below_parted i j d l m e = ⊎_elim (λ k. subst (λ n. is_below from (get_or xs n d) ≡ true) (sym k) e) (λ k. below_earlier from _ _ k e) (in_order i j d l m)

  pub not_above_parted : IsPartitionedBy (λ x. not (is_above from x)) xs
  not_above_parted i j d l m e = elim (cases_Bool (is_above from (get_or xs i d))) [
    | inl a ↦ ⊎_elim (λ k. subst (λ n. not (is_above from (get_or xs n d)) ≡ true) (sym k) e)
        (λ k. absurd (both_ways _ (not_true _ e) (above_later from _ _ k a))) (in_order i j d l m)
    | inr a ↦ ap not a
  ]
    where
      not_true : (b : Bool) → not b ≡ true → b ≡ false
      not_true true e = cc e
      not_true false e = refl

  pub rising_once : AllPairs (λ (x y : Triad). x ≢ y) xs
  rising_once i j d l m e = let h = less i j d l m in
      let k = tied_itself triad_cmp-total (get_or xs j d) in cc (sym h ∙ ap (λ (x : Triad). triad_cmp x (get_or xs j d)) e ∙ k)

  module _ (prefix : IsPrefix from) (s e : ℕ) (ls : s ≤ length xs) (le : e ≤ length xs)
      (start : IsPartitionPoint (λ y. is_below from y ≡ true) (λ y. is_below from y ≡ false) xs s)
      (end : IsPartitionPoint (λ y. not (is_above from y) ≡ true) (λ y. not (is_above from y) ≡ false) xs e) where
    not_false : (b : Bool) → not b ≡ false → b ≡ true
    not_false true e = refl
    not_false false e = cc e

    not_true : (b : Bool) → not b ≡ true → b ≡ false
    not_true true e = cc e
    not_true false e = refl

    pub start_first : s ≤ e
    start_first = ⊎_elim (λ h. absurd (not_both from (get_or xs e from) prefix (start.0 e from (omega arith) h) (not_false _ (end.1 e from (omega arith) (omega arith))))) (λ h. h) (cases_lt e s)

    read : (k : ℕ) (d : Triad) → k < e - s → get_or (take (e - s) (drop s xs)) k d ≡ get_or xs (s + k) d
    read k d l = get_or-take (e - s) (drop s xs) k d l ∙ get_or-drop s xs k d

    many : length (take (e - s) (drop s xs)) ≡ e - s
    many = length-take-le (e - s) (drop s xs) (omega (arith, length-drop s xs))

    inside : (k : ℕ) (d : Triad) → s ≤ k → k < e → FitsAll from (get_or xs k d)
    inside k d l m =
        let b = start.1 k d l (omega arith) in
        let a = not_true _ (end.0 k d (omega arith) m) in
        (fits_first from _ prefix b a, fits_second from _ prefix b a, fits_third from _ prefix b a)

    pub range_exact : (x : Triad) → Contains (take (e - s) (drop s xs)) x ↔ (Contains xs x × FitsAll from x)
    range_exact x = (
      (λ h. let small : h.0 < e - s = omega (arith, h.1, many) in
          let same : get_or xs (s + h.0) x ≡ x = sym (read h.0 x small) ∙ h.2 in
          ((s + h.0, omega (arith, small, le), same), subst (FitsAll from) same (inside (s + h.0) x (omega arith) (omega (arith, small))))),
      (λ h. let low : s ≤ h.0.0 = ⊎_elim (λ l. absurd (both_ways _ (fit_not_below from x prefix h.1) (subst (λ z. is_below from z ≡ true) h.0.2 (start.0 h.0.0 x (omega arith) l)))) (λ l. l) (cases_lt h.0.0 s) in
          let high : h.0.0 < e = ⊎_elim (λ l. l) (λ l. absurd (both_ways _ (fit_not_above from x prefix h.1) (subst (λ z. is_above from z ≡ true) h.0.2 (not_false _ (end.1 h.0.0 x l h.0.1))))) (cases_lt h.0.0 e) in
          let small : h.0.0 - s < e - s = omega arith in
          (h.0.0 - s, omega (arith, many), read (h.0.0 - s) x small ∙ ap (λ n. get_or xs n x) (omega arith) ∙ h.0.2)),
    )

    pub range_once : AllPairs (λ (x y : Triad). x ≢ y) (take (e - s) (drop s xs))
    range_once i j d l m same = rising_once (s + i) (s + j) d (omega arith) (omega (arith, m, many))
        (sym (read i d (omega (arith, m, many))) ∙ same ∙ read j d (omega (arith, m, many)))

triad_same : (x y : Triad) → (nat_eq x.first y.first && (nat_eq x.second y.second && nat_eq x.third y.third)) ≡ true → x ≡ y
triad_same x y e =
    let h = and_parts (nat_eq x.first y.first) (nat_eq x.second y.second && nat_eq x.third y.third) e in
    let k = and_parts (nat_eq x.second y.second) (nat_eq x.third y.third) h.1 in
    λ i. record { first = eqb-true x.first y.first h.0 i; second = eqb-true x.second y.second k.0 i; third = eqb-true x.third y.third k.1 i }

triad_equiv : IsEquivalence (λ (x y : Triad). nat_eq x.first y.first && (nat_eq x.second y.second && nat_eq x.third y.third))
triad_equiv = and_equiv (on_equiv (λ (t : Triad). t.first) nat_eq_equiv) (and_equiv (on_equiv (λ (t : Triad). t.second) nat_eq_equiv) (on_equiv (λ (t : Triad). t.third) nat_eq_equiv))

pub dedup_keeps : (xs : List Triad) (x : Triad) → Contains xs x → Contains (dedup (λ (x y : Triad). nat_eq x.first y.first && (nat_eq x.second y.second && nat_eq x.third y.third)) xs) x
dedup_keeps xs x h = Contains-dedup triad_equiv triad_same xs x h

pub dedup_adds_none : (xs : List Triad) (x : Triad) → Contains (dedup (λ (x y : Triad). nat_eq x.first y.first && (nat_eq x.second y.second && nat_eq x.third y.third)) xs) x → Contains xs x
dedup_adds_none xs x h = Contains-from_dedup (λ (x y : Triad). nat_eq x.first y.first && (nat_eq x.second y.second && nat_eq x.third y.third)) xs x h
