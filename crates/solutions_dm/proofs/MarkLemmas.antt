-- Rows that stand in no pair.
use Rattle.std.proofs.Common.{◌≡◌, ◌≢◌, ℕ, ◌<◌, ◌+◌, List, [], ◌∷◌, ◌++◌, length, take, set, get_or, slice_index, eqb, sym, ap, ◌∙◌, subst, arith, ⊎_elim, inl, inr, All, Contains, ◌↔◌, length-set}
use Rattle.std.proofs.lemmas.Bool.{cases_Bool, both_ways, eqb-true, eq-eqb}
use Rattle.std.proofs.lemmas.List.{get_or-set_same, get_or-set_other, take_more}
use Rattle.std.proofs.lemmas.List.Elements.{Contains-append_left, Contains-push, Contains-push_cases}
use Rattle.solutions_dm.specs.declared.row_pair.RowPair.{RowPair}
use Rattle.solutions_dm.specs.Columns.{number_at}
use Rattle.solutions_dm.specs.Marks.{AreMarked}
use Rattle.solutions_dm.specs.Table.{Table, HasRow}

mark_one : (ps : List RowPair) (n : ℕ) (mask : List ℕ) (p : RowPair) → p.left < n → AreMarked ps n mask → AreMarked (ps ++ p ∷ []) n (set mask p.left 0)
mark_one ps n mask p l h = record {
  long = length-set mask p.left 0 ∙ h.long;
  each = λ i b. elim (cases_Bool (eqb p.left i)) [
    | inl e ↦ let same : p.left ≡ i = eqb-true p.left i e in
        let gone : slice_index (set mask p.left 0) i ≡ 0 = ap (slice_index (set mask p.left 0)) (sym same) ∙ get_or-set_same mask p.left 0 0 (omega (arith, h.long)) in
        ((λ k. absurd (k gone)), (λ k. absurd (k p (Contains-push ps p) same)))
    | inr e ↦ let other : i ≢ p.left = λ s. both_ways _ e (eq-eqb p.left i (sym s)) in
        let kept : slice_index (set mask p.left 0) i ≡ slice_index mask i = get_or-set_other mask p.left i 0 0 other in (
          (λ k q m. ⊎_elim (λ a. (h.each i b).0 (λ z. k (kept ∙ z)) q a) (λ a s. other (sym s ∙ ap (λ (p : RowPair). p.left) (sym a))) (Contains-push_cases ps p q m)),
          (λ k z. (h.each i b).1 (λ q m. k q (Contains-append_left ps (p ∷ []) q m)) (sym kept ∙ z)),
        )
  ];
}

pub marked_more : (ps : List RowPair) (n : ℕ) (mask : List ℕ) (k : ℕ) (d : RowPair) → k < length ps → All (λ (p : RowPair). p.left < n) ps → AreMarked (take k ps) n mask →
    AreMarked (take (k + 1) ps) n (set mask (get_or ps k d).left 0)
marked_more ps n mask k d l all h = subst (λ (qs : List RowPair). AreMarked qs n (set mask (get_or ps k d).left 0)) (sym (take_more ps k d l)) (mark_one (take k ps) n mask (get_or ps k d) (all k d l) h)

pub unmatched_rows : (left s : Table) (ps : List RowPair) (mask : List ℕ) → AreMarked ps left.rows mask → (m : List ℕ → ℕ) →
    HasRow s m ↔ ((i : ℕ) × (i < left.rows) × (slice_index mask i ≢ 0) × ((x : List ℕ) → m x ≡ number_at left.columns i x)) →
    HasRow s m ↔ ((i : ℕ) × (i < left.rows) × ((p : RowPair) → Contains ps p → p.left ≢ i) × ((x : List ℕ) → m x ≡ number_at left.columns i x))
unmatched_rows left s ps mask h m k =
    ((λ r. let a = k.0 r in (a.0, a.1, (h.each a.0 a.1).0 a.2, a.3)), (λ r. k.1 (r.0, r.1, (h.each r.0 r.1).1 r.2, r.3)))
