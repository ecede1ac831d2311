-- Lists of variables, and the unions of rows.
use Rattle.std.proofs.Common.{◌≡◌, ◌≢◌, ◌<◌, ◌+◌, ◌⊎◌, ◌↔◌, ℕ, zero, suc, List, [], ◌∷◌, ◌++◌, Some, get_or, length, take, refl, sym, ap, ◌∙◌, subst, arith, inl, inr, ⊎_elim, Any, Contains}
use Rattle.std.specs.Prelude.{slice_get}
use Rattle.std.proofs.lemmas.List.{take_more}
use Rattle.std.proofs.lemmas.Option.{slice_get-get_or, slice_get_within, get_or_from_slice_get}
use Rattle.members_dm.specs.Membership.{IsIn, NoRepeats}
use Rattle.members_dm.proofs.AnyLemmas.{item_from_any}
use Rattle.members_dm.proofs.MembershipLemmas.{IsIn-append, IsIn-back, IsIn-front}
use Rattle.solutions_dm.specs.declared.row_pair.RowPair.{RowPair}
use Rattle.solutions_dm.specs.Columns.{number_at, SameIfBound}
use Rattle.solutions_dm.specs.Merge.{IsMerge, first_bound}
use Rattle.solutions_dm.specs.Pairs.{IsPair}
use Rattle.solutions_dm.specs.Table.{Table, HasRow}
use Rattle.query_rows_dm.specs.Operators.{AreJoined, AreTogether}
use Rattle.query_rows_dm.specs.Relations.{Numbers}
use Rattle.query_rows_dm.specs.declared.relation.Relation.{Relation}

pub in_from_any : (x : List ℕ) (xs : List (List ℕ)) → Any (λ y. y ≡ x) xs → IsIn x xs
in_from_any x xs h = let found = item_from_any (λ (y : List ℕ). y ≡ x) xs h in subst (λ (y : List ℕ). IsIn y xs) found.2 found.1

-- ---- lists of variables, one more at a time

module _ (xs : List (List ℕ)) (k : ℕ) (x : List ℕ) (l : k < length xs) (e : x ≡ get_or xs k x) where
  taken : take (k + 1) xs ≡ take k xs ++ x ∷ []
  taken = take_more xs k x l ∙ ap (λ y. take k xs ++ y ∷ []) (sym e)

  taken_in : (y : List ℕ) → IsIn y (take (k + 1) xs) ↔ (IsIn y (take k xs) ⊎ (x ≡ y))
  taken_in y = subst (λ zs. IsIn y zs ↔ (IsIn y (take k xs) ⊎ (x ≡ y))) (sym taken) (
    (λ h. ⊎_elim inl (λ r. ⊎_elim inr (λ z. absurd z) r) (IsIn-append y (take k xs) (x ∷ []) h)),
    (λ h. ⊎_elim (λ r. IsIn-front y (take k xs) (x ∷ []) r) (λ s. IsIn-back y (take k xs) (x ∷ []) (inl s)) h),
  )

once_push : (xs : List (List ℕ)) (x : List ℕ) → NoRepeats xs → ¬ IsIn x xs → NoRepeats (xs ++ x ∷ [])
once_push [] x once n = ((λ h. h), tt)
once_push (y ∷ ys) x once n = (
  (λ h. ⊎_elim once.0 (λ r. ⊎_elim (λ e. n (inl (sym e))) (λ z. z) r) (IsIn-append y ys (x ∷ []) h)),
  once_push ys x once.1 (λ h. n (inr h)),
)

once_front : (xs : List (List ℕ)) (x : List ℕ) → NoRepeats (xs ++ x ∷ []) → NoRepeats xs × (¬ IsIn x xs)
once_front [] x h = (tt, (λ z. z))
once_front (y ∷ ys) x h =
    let r = once_front ys x h.1 in
    (((λ k. h.0 (IsIn-front y ys (x ∷ []) k)), r.0), (λ k. ⊎_elim (λ e. h.0 (IsIn-back y ys (x ∷ []) (inl (sym e)))) r.1 k))

module _ (left right vars : List (List ℕ)) (k : ℕ) (x : List ℕ) (l : k < length right) (e : x ≡ get_or right k x) (h : AreTogether left (take k right) vars) where
  -- one that left has
  pub together_same : IsIn x left → AreTogether left (take (k + 1) right) vars
  together_same here = record {
    either = λ y. (
      (λ p. ⊎_elim inl (λ r. inr ((taken_in right k x l e y).1 (inl r))) ((h.either y).0 p)),
      (λ p. (h.either y).1 (⊎_elim inl (λ r. ⊎_elim inr (λ s. inl (subst (λ z. IsIn z left) s here)) ((taken_in right k x l e y).0 r)) p)),
    );
    once = λ p q. h.once p (once_front (take k right) x (subst NoRepeats (taken right k x l e) q)).0;
  }

  -- one that left hasn't
  pub together_more : ¬ IsIn x left → AreTogether left (take (k + 1) right) (vars ++ x ∷ [])
  together_more gone = record {
    either = λ y. (
      (λ p. ⊎_elim
          (λ q. ⊎_elim inl (λ r. inr ((taken_in right k x l e y).1 (inl r))) ((h.either y).0 q))
          (λ q. ⊎_elim (λ s. inr ((taken_in right k x l e y).1 (inr s))) (λ z. absurd z) q)
          (IsIn-append y vars (x ∷ []) p)),
      (λ p. ⊎_elim
          (λ q. IsIn-front y vars (x ∷ []) ((h.either y).1 (inl q)))
          (λ q. ⊎_elim (λ r. IsIn-front y vars (x ∷ []) ((h.either y).1 (inr r))) (λ s. IsIn-back y vars (x ∷ []) (inl s)) ((taken_in right k x l e y).0 q))
          p),
    );
    once = λ p q. (let r = once_front (take k right) x (subst NoRepeats (taken right k x l e) q) in
        once_push vars x (h.once p r.0) (λ s. ⊎_elim gone r.1 ((h.either x).0 s)));
  }

module _ (left right vars : List (List ℕ)) (k : ℕ) (x : List ℕ) (l : k < length left) (e : x ≡ get_or left k x) (h : (y : List ℕ) → IsIn y vars ↔ (IsIn y (take k left) × IsIn y right)) where
  pub shared_more : IsIn x right → (y : List ℕ) → IsIn y (vars ++ x ∷ []) ↔ (IsIn y (take (k + 1) left) × IsIn y right)
  shared_more here y = (
    (λ p. ⊎_elim
        (λ q. let r = (h y).0 q in ((taken_in left k x l e y).1 (inl r.0), r.1))
        (λ q. ⊎_elim (λ s. ((taken_in left k x l e y).1 (inr s), subst (λ z. IsIn z right) s here)) (λ z. absurd z) q)
        (IsIn-append y vars (x ∷ []) p)),
    (λ p. ⊎_elim
        (λ q. IsIn-front y vars (x ∷ []) ((h y).1 (q, p.1)))
        (λ s. IsIn-back y vars (x ∷ []) (inl s))
        ((taken_in left k x l e y).0 p.0)),
  )

  pub shared_less : ¬ IsIn x right → (y : List ℕ) → IsIn y vars ↔ (IsIn y (take (k + 1) left) × IsIn y right)
  shared_less gone y = (
    (λ p. let r = (h y).0 p in ((taken_in left k x l e y).1 (inl r.0), r.1)),
    (λ p. ⊎_elim (λ q. (h y).1 (q, p.1)) (λ s. absurd (gone (subst (λ z. IsIn z right) (sym s) p.1))) ((taken_in left k x l e y).0 p.0)),
  )

pub together_none : (left : List (List ℕ)) → AreTogether left [] left
together_none left = record { either = λ x. (inl, (λ p. ⊎_elim (λ q. q) (λ z. absurd z) p)); once = λ p q. p }

-- ---- rows without NULL

module _ (all rows kept : Table) (vars : List (List ℕ)) (k : ℕ) (x : List ℕ) (l : k < length vars) (e : x ≡ get_or vars k x) where
  pub nulls_more : ((m : Numbers) → HasRow rows m ↔ (HasRow all m × ((y : List ℕ) → IsIn y (take k vars) → m y ≢ 1))) → ((m : Numbers) → HasRow kept m ↔ (HasRow rows m × (m x ≢ 1))) →
      (m : Numbers) → HasRow kept m ↔ (HasRow all m × ((y : List ℕ) → IsIn y (take (k + 1) vars) → m y ≢ 1))
  nulls_more h g m = (
    (λ p. let q = (g m).0 p in let r = (h m).0 q.0 in
        (r.0, λ y here. ⊎_elim (λ s. r.1 y s) (λ s. subst (λ z. m z ≢ 1) s q.1) ((taken_in vars k x l e y).0 here))),
    (λ p. (g m).1 ((h m).1 (p.0, λ y here. p.1 y ((taken_in vars k x l e y).1 (inl here))), p.1 x ((taken_in vars k x l e x).1 (inr refl)))),
  )

-- ---- the unions of rows

module _ (left right merged : Table) (ps : List RowPair) (exact : (p : RowPair) → Contains ps p ↔ IsPair left right p) (merge : IsMerge left right ps merged) where
  pair_at : (k : ℕ) → k < merged.rows → (p : RowPair) × (slice_get ps k ≡ Some p) × IsPair left right p
  pair_at k l =
      let x = there ps k (omega (arith, l, merge.rows)) in
      (x.0, x.1, (exact x.0).0 (k, slice_get_within ps k x.0 x.1, get_or_from_slice_get ps k x.0 x.0 x.1))
    where
      there : (xs : List RowPair) (k : ℕ) → k < length xs → (x : RowPair) × (slice_get xs k ≡ Some x)
      there [] k l = absurd (omega arith)
      there (x ∷ xs) zero l = (x, refl)
      there (x ∷ xs) (suc k) l = there xs k (omega arith)

  pub merged_rows : (m : Numbers) → HasRow merged m ↔ ((u v : Numbers) × HasRow left u × HasRow right v × ((x : List ℕ) → SameIfBound (u x) (v x)) × ((x : List ℕ) → m x ≡ first_bound (u x) (v x)))
  merged_rows m = (
    (λ h. let p = pair_at h.0 h.1 in
        (number_at left.columns p.0.left, number_at right.columns p.0.right, (p.0.left, p.2.0, λ x. refl), (p.0.right, p.2.1, λ x. refl), p.2.2, λ x. h.2 x ∙ merge.each h.0 p.0 p.1 x)),
    (λ h. let u = h.2 in
        let v = h.3 in
        let p : RowPair = record { left = u.0; right = v.0 } in
        let k = (exact p).1 (u.1, v.1, λ x. subst (λ a. SameIfBound a (number_at right.columns v.0 x)) (u.2 x) (subst (SameIfBound (h.0 x)) (v.2 x) (h.4 x))) in
        (k.0, omega (arith, k.1, merge.rows), λ x. h.5 x ∙ (λ i. first_bound (u.2 x i) (v.2 x i)) ∙ sym (merge.each k.0 p (slice_get-get_or ps k.0 p k.1 ∙ ap Some k.2) x))),
  )

-- ---- a join by its steps

module _ (left right r : Relation) (common : List (List ℕ)) (kept : Table)
    (shared : (x : List ℕ) → IsIn x common ↔ (IsIn x left.attributes × IsIn x right.attributes))
    (there : (m : Numbers) → HasRow kept m ↔ (HasRow left.rows m × ((x : List ℕ) → IsIn x common → m x ≢ 1)))
    (rows : (m : Numbers) → HasRow r.rows m ↔ ((u v : Numbers) × HasRow kept u × HasRow right.rows v × ((x : List ℕ) → SameIfBound (u x) (v x)) × ((x : List ℕ) → m x ≡ first_bound (u x) (v x)))) where
  pub joined_by_steps : AreTogether left.attributes right.attributes r.attributes → AreJoined left right r
  joined_by_steps attributes = record {
    attributes = attributes;
    rows = λ m. (
      (λ h. let p = (rows m).0 h in
          let q = (there p.0).0 p.2 in
          (p.0, p.1, q.0, p.3, record { there = λ x hl hr. q.1 x ((shared x).1 (hl, hr)); same = p.4 }, p.5)),
      (λ h. (rows m).1 (h.0, h.1, (there h.0).1 (h.2, λ x here. (let b = (shared x).0 here in h.4.there x b.0 b.1)), h.3, h.4.same, h.5)),
    );
  }
