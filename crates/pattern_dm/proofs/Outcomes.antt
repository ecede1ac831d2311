-- What the operators on rows of numbers give, as mappings to terms.
use Rattle.std.proofs.Common.{◌≡◌, ◌≢◌, ◌<◌, ◌≤◌, ◌⊎◌, ◌↔◌, ℕ, zero, suc, List, [], ◌∷◌, Some, None, Bool, length, slice_get, slice_index, true, false, cond, refl, sym, ap, ◌∙◌, subst, arith, inl, inr, ⊎_elim, Contains}
use Rattle.std.specs.Str.{bytes_eq}
use Rattle.std.proofs.lemmas.Option.{slice_get-get_or, slice_get_within, get_or_from_slice_get}
use Rattle.names_dm.specs.declared.term.Term.{Term}
use Rattle.solutions_dm.specs.declared.row_pair.RowPair.{RowPair}
use Rattle.solutions_dm.specs.declared.selects.Rename.{Rename}
use Rattle.solutions_dm.specs.Columns.{number_at, SameIfBound}
use Rattle.solutions_dm.specs.Differences.{IsLeft}
use Rattle.solutions_dm.specs.Merge.{IsMerge, first_bound}
use Rattle.solutions_dm.specs.Pairs.{IsPair}
use Rattle.solutions_dm.specs.Repeats.{IsDistinct}
use Rattle.solutions_dm.specs.Selects.{selected}
use Rattle.solutions_dm.specs.Table.{Table, HasRow}
use Rattle.store_dm.specs.Terms.{AreOneToOne, term_at}
use Rattle.pattern_dm.specs.declared.pattern.Condition.{Condition}
use Rattle.pattern_dm.specs.Mappings.{Mapping, SameIfBoth, Compatible, union, first_of}
use Rattle.pattern_dm.specs.Masks.{Marks}
use Rattle.pattern_dm.specs.Operators.{Join, Minus, Select, renamed}
use Rattle.pattern_dm.specs.Says.{Says}
use Rattle.pattern_dm.specs.Solved.{mapping_at, HasSolution, AreNumbers, IsOutcome}
use Rattle.pattern_dm.proofs.Bridge.{none_is_zero, to_terms, from_terms, union_at, renamed_at, row_solution, row_within, same_mapping}

-- each row once
pub distinct_outcome : (terms : List Term) (P : Mapping → Type 0) (rows s : Table) → IsDistinct rows s → ((m : Mapping) → HasSolution terms rows m ↔ P m) → AreNumbers terms rows → IsOutcome terms P s
distinct_outcome terms P rows s d exact numbers = record {
  exact = λ m. (
    (λ h. let r = (d.same (number_at s.columns h.0)).0 (h.0, h.1, λ x. refl) in (exact m).0 (row_solution terms rows (number_at s.columns h.0) m r h.2)),
    (λ h. let k = (exact m).1 h in
        let r = (d.same (number_at rows.columns k.0)).1 (k.0, k.1, λ x. refl) in row_solution terms s (number_at rows.columns k.0) m r k.2),
  );
  once = d.once;
  numbers = λ i x l. row_within terms rows (number_at s.columns i) numbers ((d.same (number_at s.columns i)).0 (i, l, λ x. refl)) x;
}

module _ (terms : List Term) (left right : Table) where
  -- ---- the unions of compatible rows

  module _ (merged : Table) (ps : List RowPair) (d : AreOneToOne terms) (ol : AreNumbers terms left) (or_ : AreNumbers terms right)
      (exact : (p : RowPair) → Contains ps p ↔ IsPair left right p) (merge : IsMerge left right ps merged) where
    -- the pair of a row
    pub pair_at : (k : ℕ) → k < merged.rows → (p : RowPair) × (slice_get ps k ≡ Some p) × IsPair left right p
    pair_at k l =
        let x = there ps k (omega (arith, merge.rows)) in
        (x.0, x.1, (exact x.0).0 (k, slice_get_within ps k x.0 x.1, get_or_from_slice_get ps k x.0 x.0 x.1))
      where
        there : (xs : List RowPair) (k : ℕ) → k < length xs → (x : RowPair) × (slice_get xs k ≡ Some x)
        there [] k l = absurd (omega arith)
        there (x ∷ xs) zero l = (x, refl)
        there (x ∷ xs) (suc k) l = there xs k (omega arith)

    -- the row of a pair of compatible mappings
    pub row_of_pair : (i j : ℕ) → i < left.rows → j < right.rows → Compatible (mapping_at terms left i) (mapping_at terms right j) →
        (k : ℕ) × (k < merged.rows) × (slice_get ps k ≡ Some (record { left = i; right = j }))
    row_of_pair i j l m h =
        let p : RowPair = record { left = i; right = j } in
        let k = (exact p).1 (l, m, λ y. from_terms terms d (number_at left.columns i y) (number_at right.columns j y) (ol i y l) (or_ j y m) (h y)) in
        (k.0, omega (arith, k.1, merge.rows), slice_get-get_or ps k.0 p k.1 ∙ ap Some k.2)

    pub pair_compatible : (p : RowPair) → IsPair left right p → Compatible (mapping_at terms left p.left) (mapping_at terms right p.right)
    pair_compatible p h y = to_terms terms (number_at left.columns p.left y) (number_at right.columns p.right y) (h.2 y)

    pub merged_at : (k : ℕ) (p : RowPair) → slice_get ps k ≡ Some p → p.left < left.rows → (x : List ℕ) → mapping_at terms merged k x ≡ union (mapping_at terms left p.left) (mapping_at terms right p.right) x
    merged_at k p e l x = ap (term_at terms) (merge.each k p e x) ∙ union_at terms (number_at left.columns p.left x) (number_at right.columns p.right x) (ol p.left x l)

    first_within : (a b : ℕ) → a ≤ length terms → b ≤ length terms → first_bound a b ≤ length terms
    first_within zero b l k = k
    first_within (suc a) b l k = l

    pub merged_numbers : AreNumbers terms merged
    merged_numbers k x l = let p = pair_at k l in
        subst (λ n. n ≤ length terms) (sym (merge.each k p.0 p.1 x)) (first_within (number_at left.columns p.0.left x) (number_at right.columns p.0.right x) (ol p.0.left x p.2.0) (or_ p.0.right x p.2.1))

    pub join_exact : (m : Mapping) → HasSolution terms merged m ↔ Join (HasSolution terms left) (HasSolution terms right) m
    join_exact m = (
      (λ h. let p = pair_at h.0 h.1 in
          (mapping_at terms left p.0.left, mapping_at terms right p.0.right, (p.0.left, p.2.0, λ y. refl), (p.0.right, p.2.1, λ y. refl), pair_compatible p.0 p.2, (λ y. h.2 y ∙ merged_at h.0 p.0 p.1 p.2.0 y))),
      (λ h. let u = h.2 in let v = h.3 in
          let k = row_of_pair u.0 v.0 u.1 v.1 (λ y. subst (λ o. SameIfBoth o (mapping_at terms right v.0 y)) (u.2 y) (subst (SameIfBoth (h.0 y)) (v.2 y) (h.4 y))) in
          (k.0, k.1, (λ y. h.5 y ∙ (λ q. first_of (u.2 y q) (v.2 y q)) ∙ sym (merged_at k.0 (record { left = u.0; right = v.0 }) k.2 u.1 y)))),
    )

  -- ---- the rows of both

  module _ (s : Table) (rows : (m : List ℕ → ℕ) → HasRow s m ↔ (HasRow left m ⊎ HasRow right m)) where
    pub union_exact : (m : Mapping) → HasSolution terms s m ↔ (HasSolution terms left m ⊎ HasSolution terms right m)
    union_exact m = (
      (λ h. ⊎_elim (λ r. inl (row_solution terms left (number_at s.columns h.0) m r h.2)) (λ r. inr (row_solution terms right (number_at s.columns h.0) m r h.2)) ((rows (number_at s.columns h.0)).0 (h.0, h.1, λ x. refl))),
      (λ h. ⊎_elim (λ k. row_solution terms s (number_at left.columns k.0) m ((rows (number_at left.columns k.0)).1 (inl (k.0, k.1, λ x. refl))) k.2)
          (λ k. row_solution terms s (number_at right.columns k.0) m ((rows (number_at right.columns k.0)).1 (inr (k.0, k.1, λ x. refl))) k.2) h),
    )

    pub union_numbers : AreNumbers terms left → AreNumbers terms right → AreNumbers terms s
    union_numbers ol or_ i x l = ⊎_elim (λ r. row_within terms left (number_at s.columns i) ol r x) (λ r. row_within terms right (number_at s.columns i) or_ r x) ((rows (number_at s.columns i)).0 (i, l, λ x. refl))

  -- ---- the difference

  module _ (s : Table) (d : AreOneToOne terms) (ol : AreNumbers terms left) (or_ : AreNumbers terms right) (rows : (m : List ℕ → ℕ) → HasRow s m ↔ (HasRow left m × IsLeft right m)) where
    apart_terms : (a b : ℕ) → (a ≡ 0) ⊎ (b ≡ 0) → (term_at terms a ≡ None) ⊎ (term_at terms b ≡ None)
    apart_terms a b h = ⊎_elim (λ e. inl (ap (term_at terms) e)) (λ e. inr (ap (term_at terms) e)) h

    apart_numbers : (a b : ℕ) → a ≤ length terms → b ≤ length terms → (term_at terms a ≡ None) ⊎ (term_at terms b ≡ None) → (a ≡ 0) ⊎ (b ≡ 0)
    apart_numbers a b l k h = ⊎_elim (λ e. inl (none_is_zero terms a l e)) (λ e. inr (none_is_zero terms b k e)) h

    pub minus_exact : (m : Mapping) → HasSolution terms s m ↔ Minus (HasSolution terms left) (HasSolution terms right) m
    minus_exact m = (
      (λ h. let n = number_at s.columns h.0 in
          let r = (rows n).0 (h.0, h.1, λ x. refl) in (
            row_solution terms left n m r.0 h.2,
            (λ v k c x.
                let within : (x : List ℕ) → n x ≤ length terms = row_within terms left n ol r.0 in
                let same : (y : List ℕ) → SameIfBound (n y) (number_at right.columns k.0 y) = λ y. from_terms terms d (n y) (number_at right.columns k.0 y) (within y) (or_ k.0 y k.1)
                (subst (λ o. SameIfBoth o (mapping_at terms right k.0 y)) (h.2 y) (subst (SameIfBoth (m y)) (k.2 y) (c y))) in
                ⊎_elim (λ e. inl (h.2 x ∙ e)) (λ e. inr (k.2 x ∙ e)) (apart_terms (n x) (number_at right.columns k.0 x) (r.1 k.0 k.1 same x))),
          )),
      (λ h. let k = h.0 in
          let n = number_at left.columns k.0 in
          row_solution terms s n m ((rows n).1 (
            (k.0, k.1, λ x. refl),
            (λ j l c x. apart_numbers (n x) (number_at right.columns j x) (ol k.0 x k.1) (or_ j x l)
                (⊎_elim (λ e. inl (sym (k.2 x) ∙ e)) (λ e. inr e) (h.1 (mapping_at terms right j) (j, l, λ y. refl) (λ y. subst (λ o. SameIfBoth o (mapping_at terms right j y)) (sym (k.2 y)) (to_terms terms (n y) (number_at right.columns j y) (c y))) x))),
          )) k.2),
    )

    pub minus_numbers : AreNumbers terms s
    minus_numbers i x l = row_within terms left (number_at s.columns i) ol ((rows (number_at s.columns i)).0 (i, l, λ x. refl)).0 x

-- ---- the rows that a mask keeps

module _ (terms : List Term) (rows s : Table) (mask : List ℕ)
    (kept : (m : List ℕ → ℕ) → HasRow s m ↔ ((i : ℕ) × (i < rows.rows) × (slice_index mask i ≢ 0) × ((x : List ℕ) → m x ≡ number_at rows.columns i x))) where
  pub kept_exact : (f : Condition) → Marks rows.rows (λ i. Says f true (mapping_at terms rows i)) mask → (m : Mapping) → HasSolution terms s m ↔ (HasSolution terms rows m × Says f true m)
  kept_exact f marks m = (
    (λ h. let r = (kept (number_at s.columns h.0)).0 (h.0, h.1, λ x. refl) in
        let e : (x : List ℕ) → m x ≡ mapping_at terms rows r.0 x = λ x. h.2 x ∙ ap (term_at terms) (r.3 x) in
        ((r.0, r.1, e), subst (Says f true) (sym (same_mapping m (mapping_at terms rows r.0) e)) ((marks.each r.0 r.1).0 r.2))),
    (λ h. let k = h.0 in
        row_solution terms s (number_at rows.columns k.0) m
        ((kept (number_at rows.columns k.0)).1 (k.0, k.1, (marks.each k.0 k.1).1 (subst (Says f true) (same_mapping m (mapping_at terms rows k.0) k.2) h.1), (λ x. refl))) k.2),
  )

  pub kept_numbers : AreNumbers terms rows → AreNumbers terms s
  kept_numbers o i x l = let r = (kept (number_at s.columns i)).0 (i, l, λ x. refl) in subst (λ n. n ≤ length terms) (sym (r.3 x)) (o r.0 x r.1)

-- ---- the rows under other names

module _ (terms : List Term) (rows s : Table) (rs : List Rename)
    (made : (m : List ℕ → ℕ) → HasRow s m ↔ ((i : ℕ) × (i < rows.rows) × ((x : List ℕ) → m x ≡ selected rs (number_at rows.columns i) x))) where
  pub select_exact : (m : Mapping) → HasSolution terms s m ↔ Select (HasSolution terms rows) rs m
  select_exact m = (
    (λ h. let r = (made (number_at s.columns h.0)).0 (h.0, h.1, λ x. refl) in
        (mapping_at terms rows r.0, (r.0, r.1, λ x. refl), (λ x. h.2 x ∙ ap (term_at terms) (r.2 x) ∙ renamed_at terms rs (number_at rows.columns r.0) x))),
    (λ h. let k = h.1 in
        let n = selected rs (number_at rows.columns k.0) in
        row_solution terms s n m ((made n).1 (k.0, k.1, λ x. refl))
        (λ x. h.2 x ∙ ap (λ u. renamed rs u x) (same_mapping h.0 (mapping_at terms rows k.0) k.2) ∙ sym (renamed_at terms rs (number_at rows.columns k.0) x))),
  )

  selected_within : (n : List ℕ → ℕ) → ((x : List ℕ) → n x ≤ length terms) → (qs : List Rename) (x : List ℕ) → selected qs n x ≤ length terms
  selected_within n h [] x = omega arith
  selected_within n h (q ∷ qs) x = go (bytes_eq q.to x) (selected_within n h qs x)
    where
      go : (b : Bool) → selected qs n x ≤ length terms → cond b (n q.from) (selected qs n x) ≤ length terms
      go true k = h q.from
      go false k = k

  pub select_numbers : AreNumbers terms rows → AreNumbers terms s
  select_numbers o i x l = let r = (made (number_at s.columns i)).0 (i, l, λ x. refl) in
      subst (λ n. n ≤ length terms) (sym (r.2 x)) (selected_within (number_at rows.columns r.0) (λ y. o r.0 y r.1) rs x)
