-- Where the runs of triads with one first number begin.
use Rattle.std.proofs.Common.{◌≡◌, ◌≢◌, ℕ, ◌≤◌, ◌<◌, ◌+◌, ◌-◌, List, [], ◌∷◌, ◌++◌, length, get_or, take, drop, sym, ap, ◌∙◌, subst, arith, ⊎_elim, Contains, ◌↔◌, EachIndex, slice_index, Less}
use Rattle.std.specs.List.{AllWithin}
use Rattle.std.proofs.lemmas.Bool.{cases_lt}
use Rattle.std.proofs.lemmas.List.{get_or_default, get_or-take, get_or-drop, get_or_append_left, get_or_push, length-append, length-take-le, length-drop}
use Rattle.std.proofs.lemmas.Map.Keys.{Less-from_sorted, sorted_from_all_adjacent}
use Rattle.store_dm.specs.declared.listing.Triad.{Triad}
use Rattle.store_dm.specs.Triads.{triad_cmp, IsRising, FitsAll}
use Rattle.store_dm.specs.Starts.{StartsAt, AreStarts, IsRun}
use Rattle.store_dm.proofs.TriadLemmas.{triad_cmp-total, before_from_less, first_from_before}

abbrev pub none : Triad
none = record { first = 0; second = 0; third = 0 }

module _ (items : List Triad) (rising : IsRising items) where
  first_rises : (i j : ℕ) (d : Triad) → i ≤ j → j < length items → (get_or items i d).first ≤ (get_or items j d).first
  first_rises i j d l m = ⊎_elim
      (λ k. first_from_before (get_or items i d) (get_or items j d) (before_from_less (get_or items i d) (get_or items j d) (Less-from_sorted triad_cmp items i j d rising k m)))
      (λ k. subst (λ n. (get_or items n d).first ≤ (get_or items j d).first) {x = j} {y = i} (omega arith) (omega arith))
      (cases_lt i j)

  -- ---- making the starts

  pub starts_here : (n i : ℕ) → i < length items → AllWithin (λ (x : Triad). x.first < n) items 0 i → ((d : Triad) → n ≤ (get_or items i d).first) → StartsAt n i items
  starts_here n i l before here = (omega arith, (before, λ k d low high. omega (arith, here d, first_rises i k d low high)))

  pub starts_at_end : (n : ℕ) → AllWithin (λ (x : Triad). x.first < n) items 0 (length items) → StartsAt n (length items) items
  starts_at_end n before = (omega arith, (before, λ k d low high. absurd (omega arith)))

  module _ (new : List ℕ) (i : ℕ) (l : i < length items) (e : Triad) where
    same_first : (d : Triad) → (get_or items i d).first ≡ (get_or items i e).first
    same_first d = ap (λ (x : Triad). x.first) (get_or_default items i d e l)

    pub before_more : (get_or items i e).first < length new → AllWithin (λ (x : Triad). x.first < length new) items 0 (i + 1)
    before_more all k d low high = omega (arith, first_rises k i d (omega arith) l, same_first d, all)

    pub begun_more : (old : List ℕ) → AreStarts old items → AllWithin (λ (x : Triad). x.first < length old) items 0 i →
        EachIndex old (λ n. slice_index new n ≡ slice_index old n) →
        ((n : ℕ) → length old ≤ n → n < length new → (n ≤ (get_or items i e).first) × (slice_index new n ≡ i)) → AreStarts new items
    begun_more old begun before kept added n m = ⊎_elim
        (λ k. subst (λ s. StartsAt n s items) (sym (kept n k)) (begun n k))
        (λ k. let a = added n k m in
        subst (λ s. StartsAt n s items) (sym a.1)
        (starts_here n i l (λ p d low high. omega (arith, before p d low high, k)) (λ d. omega (arith, same_first d, a.0))))
        (cases_lt n (length old))

  pub begun_last : (old : List ℕ) (i : ℕ) → length items ≤ i → AreStarts old items → AllWithin (λ (x : Triad). x.first < length old) items 0 i → AreStarts (old ++ length items ∷ []) items
  begun_last old i all begun before n m = ⊎_elim
      (λ k. subst (λ s. StartsAt n s items) (sym (get_or_append_left old (length items ∷ []) 0 n k)) (begun n k))
      (λ k. let e : length old ≡ n = omega (arith, m, length-append old (length items ∷ []), k) in
      subst (λ s. StartsAt n s items) (sym (get_or_push old (length items) 0 n e))
      (starts_at_end n (λ p d low high. omega (arith, before p d low (omega arith), e))))
      (cases_lt n (length old))

  -- ---- the part of a run

  module _ (n low high : ℕ) (start : StartsAt n low items) (end : StartsAt (n + 1) high items) where
    pub low_first : low ≤ high
    low_first = ⊎_elim (λ k. absurd (omega (arith, start.1.0 high none (omega arith) k, end.1.1 high none (omega arith) (omega (arith, start.0, k))))) (λ k. k) (cases_lt high low)

    read : (k : ℕ) (d : Triad) → k < high - low → get_or (take (high - low) (drop low items)) k d ≡ get_or items (low + k) d
    read k d l = get_or-take (high - low) (drop low items) k d l ∙ get_or-drop low items k d

    many : length (take (high - low) (drop low items)) ≡ high - low
    many = length-take-le (high - low) (drop low items) (omega (arith, end.0, length-drop low items))

    part_rising : IsRising (take (high - low) (drop low items))
    part_rising = sorted_from_all_adjacent triad_cmp-total _ none
        (λ k l. let small : k + 1 < high - low = omega (arith, l, many) in
        subst (λ (x : Triad). triad_cmp x (get_or (take (high - low) (drop low items)) (k + 1) none) ≡ Less) (sym (read k none (omega arith)))
        (subst (λ (y : Triad). triad_cmp (get_or items (low + k) none) y ≡ Less) (sym (read (k + 1) none small))
        (Less-from_sorted triad_cmp items (low + k) (low + (k + 1)) none rising (omega arith) (omega (arith, small, end.0)))))

    part_inside : (x : Triad) → Contains (take (high - low) (drop low items)) x → Contains items x
    part_inside x h =
        let small : h.0 < high - low = omega (arith, h.1, many) in
        (low + h.0, omega (arith, small, end.0), sym (read h.0 x small) ∙ h.2)

    part_whole : (x : Triad) → x.first ≡ n → Contains items x → Contains (take (high - low) (drop low items)) x
    part_whole x e h =
        let is : (get_or items h.0 x).first ≡ n = ap (λ (y : Triad). y.first) h.2 ∙ e in
        let above : low ≤ h.0 = ⊎_elim (λ k. absurd (omega (arith, is, start.1.0 h.0 x (omega arith) k))) (λ k. k) (cases_lt h.0 low) in
        let below : h.0 < high = ⊎_elim (λ k. k) (λ k. absurd (omega (arith, is, end.1.1 h.0 x k h.1))) (cases_lt h.0 high) in
        let small : h.0 - low < high - low = omega arith in
        (h.0 - low, omega (arith, small, many), read (h.0 - low) x small ∙ ap (λ p. get_or items p x) (omega arith) ∙ h.2)

    pub part_run : IsRun n items (take (high - low) (drop low items))
    part_run = record {
      rising = part_rising;
      inside = part_inside;
      whole = part_whole;
    }

-- a search in the run finds what a search in all would
pub run_exact : (from : Triad) (items run found : List Triad) → from.first ≢ 0 → IsRun from.first items run → ((x : Triad) → Contains found x ↔ (Contains run x × FitsAll from x)) →
    (x : Triad) → Contains found x ↔ (Contains items x × FitsAll from x)
run_exact from items run found set is exact x = (
  (λ h. let k = (exact x).0 h in (is.inside x k.0, k.1)),
  (λ h. (exact x).1 (is.whole x (⊎_elim (λ zero. absurd (set zero)) sym h.1.0) h.0, h.1)),
)
