-- The rows of a left join: the unions of pairs that pass, and the rows of left in no pair that does.
use Rattle.std.proofs.Common.{◌≡◌, ◌≢◌, ◌<◌, ◌≤◌, ◌+◌, ◌⊎◌, ◌↔◌, ◌++◌, ◌∷◌, [], ℕ, List, Some, Bool, true, false, not, cond, ◌==◌, length, get_or, slice_get, slice_index, refl, sym, ap, ◌∙◌, subst, arith, inl, inr, ⊎_elim, Contains, All}
use Rattle.std.proofs.lemmas.Bool.{both_ways, eq-eqb, eqb-true, cases_Bool}
use Rattle.std.proofs.lemmas.Option.{get_or_from_slice_get, slice_get_within}
use Rattle.std.proofs.lemmas.List.Elements.{All-contains_itself, All-weaker, Contains-append_left, Contains-push, Contains-push_cases}
use Rattle.names_dm.specs.declared.term.Term.{Term}
use Rattle.solutions_dm.specs.declared.row_pair.RowPair.{RowPair}
use Rattle.solutions_dm.specs.Columns.{number_at}
use Rattle.solutions_dm.specs.Merge.{IsMerge}
use Rattle.solutions_dm.specs.Pairs.{IsPair}
use Rattle.solutions_dm.specs.Table.{Table, HasRow}
use Rattle.store_dm.specs.Terms.{AreOneToOne, term_at}
use Rattle.pattern_dm.specs.declared.pattern.Condition.{Condition}
use Rattle.pattern_dm.specs.Mappings.{Mapping, SameIfBoth, Compatible, union, first_of}
use Rattle.pattern_dm.specs.Masks.{Marks}
use Rattle.pattern_dm.specs.Operators.{JoinWhere, Unjoined, LeftJoin}
use Rattle.pattern_dm.specs.Passing.{ArePassing}
use Rattle.pattern_dm.specs.Says.{Says}
use Rattle.pattern_dm.specs.Solved.{mapping_at, HasSolution, AreNumbers}
use Rattle.pattern_dm.proofs.Bridge.{row_solution, same_mapping}
use Rattle.pattern_dm.proofs.Outcomes.{pair_at, row_of_pair, pair_compatible, merged_at}

-- ---- the pairs that pass

some_pair : (p q : RowPair) → Some p ≡ Some q → p ≡ q
some_pair p q e = cc e

kept_test : (a : ℕ) (b : Bool) → b ≡ not (a == 0) → (b ≡ true) ↔ (a ≢ 0)
kept_test a b e = (
  (λ h z. both_ways _ (e ∙ ap not (eq-eqb a 0 z)) h),
  (λ n. elim (cases_Bool (a == 0)) [ inl f ↦ absurd (n (eqb-true a 0 f)) | inr f ↦ e ∙ ap not f ]),
)

pub passing_more : (places : List RowPair) (mask : List ℕ) (n : ℕ) (passed : List RowPair) (p : RowPair) (b : Bool) → slice_get places n ≡ Some p → b ≡ not (slice_index mask n == 0) → ArePassing places mask n passed →
    ArePassing places mask (n + 1) (passed ++ cond b (p ∷ []) [])
passing_more places mask n passed p true at e h q = (
  (λ c. ⊎_elim (λ k. let r = (h q).0 k in (r.0, omega (arith, r.1), r.2, r.3)) (λ s. (n, omega arith, at ∙ ap Some s, (kept_test (slice_index mask n) true e).0 refl)) (Contains-push_cases passed p q c)),
  (λ r. go r.0 r.1 r.2 r.3 (cases_Bool (r.0 == n))),
)
  where
    go : (k : ℕ) → k < n + 1 → slice_get places k ≡ Some q → slice_index mask k ≢ 0 → ((k == n) ≡ true) ⊎ ((k == n) ≡ false) → Contains (passed ++ p ∷ []) q
    go k l f m (inl s) = subst (Contains (passed ++ p ∷ [])) (some_pair p q (sym at ∙ ap (slice_get places) (sym (eqb-true k n s)) ∙ f)) (Contains-push passed p)
    go k l f m (inr s) = let ne : k ≢ n = λ z. both_ways _ s (eq-eqb k n z) in Contains-append_left passed (p ∷ []) q ((h q).1 (k, omega arith, f, m))
passing_more places mask n passed p false at e h q = (
  (λ c. let r = (h q).0 (subst (λ (ps : List RowPair). Contains ps q) (append_none passed) c) in (r.0, omega (arith, r.1), r.2, r.3)),
  (λ r. subst (λ (ps : List RowPair). Contains ps q) (sym (append_none passed)) ((h q).1 (r.0, earlier r.0 r.1 r.3, r.2, r.3))),
)
  where
    append_none : (ps : List RowPair) → ps ++ [] ≡ ps
    append_none [] = refl
    append_none (x ∷ xs) = λ i. x ∷ append_none xs i

    earlier : (k : ℕ) → k < n + 1 → slice_index mask k ≢ 0 → k < n
    earlier k l m = let ne : k ≢ n = λ z. both_ways false refl ((kept_test (slice_index mask n) false e).1 (subst (λ j. slice_index mask j ≢ 0) z m)) in omega arith

pub passing_none : (places : List RowPair) (mask : List ℕ) → ArePassing places mask 0 []
passing_none places mask q = ((λ c. absurd (omega (arith, c.1))), (λ r. absurd (omega (arith, r.1))))

-- what all items have
pub all_of : {X : Type 0} (P : X → Type 0) (xs : List X) → ((x : X) → Contains xs x → P x) → All P xs
all_of P xs h = All-weaker (Contains xs) P h xs (All-contains_itself xs)

-- ---- the left join

module _ (terms : List Term) (left right merged kept alone rows : Table) (ps passed : List RowPair) (f : Condition) (mask : List ℕ)
    (d : AreOneToOne terms) (ol : AreNumbers terms left) (or_ : AreNumbers terms right)
    (exact : (p : RowPair) → Contains ps p ↔ IsPair left right p) (merge : IsMerge left right ps merged)
    (marks : Marks merged.rows (λ i. Says f true (mapping_at terms merged i)) mask) (passing : ArePassing ps mask (length ps) passed)
    (kept_is : (m : List ℕ → ℕ) → HasRow kept m ↔ ((i : ℕ) × (i < merged.rows) × (slice_index mask i ≢ 0) × ((x : List ℕ) → m x ≡ number_at merged.columns i x)))
    (alone_is : (m : List ℕ → ℕ) → HasRow alone m ↔ ((i : ℕ) × (i < left.rows) × ((p : RowPair) → Contains passed p → p.left ≢ i) × ((x : List ℕ) → m x ≡ number_at left.columns i x)))
    (rows_are : (m : List ℕ → ℕ) → HasRow rows m ↔ (HasRow kept m ⊎ HasRow alone m)) where
  -- the condition is true on the union of a pair exactly where it is on the row
  pair_says : (k : ℕ) (p : RowPair) → slice_get ps k ≡ Some p → p.left < left.rows → mapping_at terms merged k ≡ union (mapping_at terms left p.left) (mapping_at terms right p.right)
  pair_says k p e l = same_mapping (mapping_at terms merged k) (union (mapping_at terms left p.left) (mapping_at terms right p.right)) (merged_at terms left right merged ps d ol or_ exact merge k p e l)

  kept_back : (m : Mapping) → HasSolution terms kept m → JoinWhere (HasSolution terms left) (HasSolution terms right) f m
  kept_back m h =
      let r = (kept_is (number_at kept.columns h.0)).0 (h.0, h.1, λ x. refl) in
      let p = pair_at terms left right merged ps d ol or_ exact merge r.0 r.1 in (
        mapping_at terms left p.0.left,
        mapping_at terms right p.0.right,
        (p.0.left, p.2.0, λ y. refl),
        (p.0.right, p.2.1, λ y. refl),
        pair_compatible terms left right merged ps d ol or_ exact merge p.0 p.2,
        subst (Says f true) (pair_says r.0 p.0 p.1 p.2.0) ((marks.each r.0 r.1).0 r.2),
        (λ y. h.2 y ∙ ap (term_at terms) (r.3 y) ∙ merged_at terms left right merged ps d ol or_ exact merge r.0 p.0 p.1 p.2.0 y),
      )

  -- the row of two compatible mappings, and that it is kept where the condition is true on their union
  kept_row : (u v : Mapping) (i : ℕ) → i < left.rows → ((x : List ℕ) → u x ≡ mapping_at terms left i x) → (h : HasSolution terms right v) → Compatible u v → Says f true (union u v) →
      (k : ℕ) × (k < merged.rows) × (slice_get ps k ≡ Some (record { left = i; right = h.0 })) × (slice_index mask k ≢ 0)
  kept_row u v i l e h c s =
      let k = row_of_pair terms left right merged ps d ol or_ exact merge i h.0 l h.1 (λ y. subst (λ o. SameIfBoth o (mapping_at terms right h.0 y)) (e y) (subst (SameIfBoth (u y)) (h.2 y) (c y))) in
      (k.0, k.1, k.2, (marks.each k.0 k.1).1 (subst (Says f true) ((λ q. union (same_mapping u (mapping_at terms left i) e q) (same_mapping v (mapping_at terms right h.0) h.2 q)) ∙ sym (pair_says k.0 (record { left = i; right = h.0 }) k.2 l)) s))

  kept_forth : (m : Mapping) → JoinWhere (HasSolution terms left) (HasSolution terms right) f m → HasSolution terms kept m
  kept_forth m h =
      let u = h.2 in
      let v = h.3 in
      let k = kept_row h.0 h.1 u.0 u.1 u.2 v h.4 h.5 in
      row_solution terms kept (number_at merged.columns k.0) m ((kept_is (number_at merged.columns k.0)).1 (k.0, k.1, k.3, λ x. refl))
      (λ y. h.6 y ∙ (λ q. first_of (u.2 y q) (v.2 y q)) ∙ sym (merged_at terms left right merged ps d ol or_ exact merge k.0 (record { left = u.0; right = v.0 }) k.2 u.1 y))

  alone_back : (m : Mapping) → HasSolution terms alone m → Unjoined (HasSolution terms left) (HasSolution terms right) f m
  alone_back m h =
      let r = (alone_is (number_at alone.columns h.0)).0 (h.0, h.1, λ x. refl) in
      let e : (x : List ℕ) → m x ≡ mapping_at terms left r.0 x = λ x. h.2 x ∙ ap (term_at terms) (r.3 x) in (
        (r.0, r.1, e),
        (λ v w c s. let k = kept_row m v r.0 r.1 e w c s in
            r.2 (record { left = r.0; right = w.0 }) ((passing (record { left = r.0; right = w.0 })).1 (k.0, slice_get_within ps k.0 _ k.2, k.2, k.3)) refl),
      )

  alone_forth : (m : Mapping) → Unjoined (HasSolution terms left) (HasSolution terms right) f m → HasSolution terms alone m
  alone_forth m h =
      let i = h.0 in
      row_solution terms alone (number_at left.columns i.0) m
      ((alone_is (number_at left.columns i.0)).1 (
        i.0,
        i.1,
        (λ p c s. let k = (passing p).0 c in
            let l : k.0 < merged.rows = omega (arith, k.1, merge.rows) in
            let q = (exact p).0 (k.0, k.1, slice_at k.0 p k.2) in
            let e : (x : List ℕ) → m x ≡ mapping_at terms left p.left x = λ x. i.2 x ∙ ap (λ j. mapping_at terms left j x) (sym s) in
            h.1 (mapping_at terms right p.right) (p.right, q.1, λ y. refl)
            (λ y. subst (λ o. SameIfBoth o (mapping_at terms right p.right y)) (sym (e y)) (pair_compatible terms left right merged ps d ol or_ exact merge p q y))
            (subst (λ u. Says f true (union u (mapping_at terms right p.right))) (sym (same_mapping m (mapping_at terms left p.left) e))
            (subst (Says f true) (pair_says k.0 p k.2 q.0) ((marks.each k.0 l).0 k.3)))),
        (λ x. refl),
      )) i.2
    where
      slice_at : (k : ℕ) (p : RowPair) → slice_get ps k ≡ Some p → get_or ps k p ≡ p
      slice_at k p e = get_or_from_slice_get ps k p p e

  pub left_join_exact : (m : Mapping) → HasSolution terms rows m ↔ LeftJoin (HasSolution terms left) (HasSolution terms right) f m
  left_join_exact m = (
    (λ h. ⊎_elim (λ r. inl (kept_back m (row_solution terms kept (number_at rows.columns h.0) m r h.2))) (λ r. inr (alone_back m (row_solution terms alone (number_at rows.columns h.0) m r h.2))) ((rows_are (number_at rows.columns h.0)).0 (h.0, h.1, λ x. refl))),
    (λ h. ⊎_elim (λ k. let s = kept_forth m k in row_solution terms rows (number_at kept.columns s.0) m ((rows_are (number_at kept.columns s.0)).1 (inl (s.0, s.1, λ x. refl))) s.2)
        (λ k. let s = alone_forth m k in row_solution terms rows (number_at alone.columns s.0) m ((rows_are (number_at alone.columns s.0)).1 (inr (s.0, s.1, λ x. refl))) s.2) h),
  )

pub alone_numbers : (terms : List Term) (left alone : Table) (passed : List RowPair) →
    ((m : List ℕ → ℕ) → HasRow alone m ↔ ((i : ℕ) × (i < left.rows) × ((p : RowPair) → Contains passed p → p.left ≢ i) × ((x : List ℕ) → m x ≡ number_at left.columns i x))) → AreNumbers terms left → AreNumbers terms alone
alone_numbers terms left alone passed alone_is o i x l = let r = (alone_is (number_at alone.columns i)).0 (i, l, λ x. refl) in subst (λ n. n ≤ length terms) (sym (r.3 x)) (o r.0 x r.1)

pub passed_left : (left right : Table) (ps passed : List RowPair) (mask : List ℕ) → ((p : RowPair) → Contains ps p ↔ IsPair left right p) → ArePassing ps mask (length ps) passed → All (λ (p : RowPair). p.left < left.rows) passed
passed_left left right ps passed mask exact h = all_of (λ (p : RowPair). p.left < left.rows) passed
    (λ p c. let k = (h p).0 c in ((exact p).0 (k.0, k.1, get_or_from_slice_get ps k.0 p p k.2)).0)
