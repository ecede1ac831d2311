-- The operators on the solutions of the parts give those of the pattern.
use Rattle.std.proofs.Common.{◌≡◌, ◌⊎◌, ◌↔◌, ℕ, List, None, true, refl, ap, ◌∙◌, arith, inl, inr, ⊎_elim}
use denote.Hole.Carrier.{hidden}
use Rattle.names_dm.specs.declared.term.Term.{Term}
use Rattle.solutions_dm.specs.declared.selects.Rename.{Rename}
use Rattle.solutions_dm.specs.Columns.{number_at}
use Rattle.solutions_dm.specs.Table.{Table, HasRow}
use Rattle.store_dm.specs.Graphs.{GraphValue, HasTriple}
use Rattle.store_dm.specs.Terms.{AreOneToOne, term_at}
use Rattle.pattern_dm.specs.declared.pattern.Condition.{Condition}
use Rattle.pattern_dm.specs.declared.pattern.Pattern.{Pattern}
use Rattle.pattern_dm.specs.declared.pattern.Pattern.TheVariants as patterns
use Rattle.pattern_dm.specs.declared.pattern.Pattern.TheBlock.{shape-the_row-Pattern-0, hidden-the_row-Pattern-0}
use Rattle.pattern_dm.specs.Mappings.{Mapping}
use Rattle.pattern_dm.specs.Operators.{Join, LeftJoin, Minus, Select}
use Rattle.pattern_dm.specs.Says.{Says}
use Rattle.pattern_dm.specs.Solution.{Solution}
use Rattle.pattern_dm.specs.Solved.{AreNumbers, AreSolutions, HasSolution, IsOutcome, IsSolved}
use Rattle.pattern_dm.proofs.Bridge.{row_solution, same_number}

pub outcome_as : (terms : List Term) (P Q : Mapping → Type 0) (s : Table) → ((m : Mapping) → P m ↔ Q m) → IsOutcome terms P s → IsOutcome terms Q s
outcome_as terms P Q s e h = record { exact = λ m. ((λ k. (e m).0 ((h.exact m).0 k)), (λ k. (h.exact m).1 ((e m).1 k))); once = h.once; numbers = h.numbers }

-- one row that binds nothing
module _ (terms : List Term) (s : Table) (row : (m : List ℕ → ℕ) → HasRow s m ↔ ((x : List ℕ) → m x ≡ 0)) where
  pub unit_exact : (m : Mapping) → HasSolution terms s m ↔ ((x : List ℕ) → m x ≡ None)
  unit_exact m = (
    (λ h x. h.2 x ∙ ap (term_at terms) ((row (number_at s.columns h.0)).0 (h.0, h.1, λ x. refl) x)),
    (λ h. row_solution terms s (λ _. 0) m ((row (λ _. 0)).1 (λ x. refl)) h),
  )

  pub unit_numbers : AreNumbers terms s
  unit_numbers i x l = let e = (row (number_at s.columns i)).0 (i, l, λ x. refl) x in omega (arith, e)

module _ (P Q R S : Mapping → Type 0) (e : (m : Mapping) → P m ↔ R m) (f : (m : Mapping) → Q m ↔ S m) where
  join_as : (m : Mapping) → Join P Q m ↔ Join R S m
  join_as m = ((λ h. (h.0, h.1, (e h.0).0 h.2, (f h.1).0 h.3, h.4, h.5)), (λ h. (h.0, h.1, (e h.0).1 h.2, (f h.1).1 h.3, h.4, h.5)))

  left_as : (c : Condition) (m : Mapping) → LeftJoin P Q c m ↔ LeftJoin R S c m
  left_as c m = (
    (λ h. ⊎_elim (λ k. inl (k.0, k.1, (e k.0).0 k.2, (f k.1).0 k.3, k.4, k.5, k.6)) (λ k. inr ((e m).0 k.0, (λ v w. k.1 v ((f v).1 w)))) h),
    (λ h. ⊎_elim (λ k. inl (k.0, k.1, (e k.0).1 k.2, (f k.1).1 k.3, k.4, k.5, k.6)) (λ k. inr ((e m).1 k.0, (λ v w. k.1 v ((f v).0 w)))) h),
  )

  either_as : (m : Mapping) → (P m ⊎ Q m) ↔ (R m ⊎ S m)
  either_as m = ((λ h. ⊎_elim (λ k. inl ((e m).0 k)) (λ k. inr ((f m).0 k)) h), (λ h. ⊎_elim (λ k. inl ((e m).1 k)) (λ k. inr ((f m).1 k)) h))

  minus_as : (m : Mapping) → Minus P Q m ↔ Minus R S m
  minus_as m = ((λ h. ((e m).0 h.0, (λ v k. h.1 v ((f v).1 k)))), (λ h. ((e m).1 h.0, (λ v k. h.1 v ((f v).0 k)))))

select_as : (P R : Mapping → Type 0) → ((m : Mapping) → P m ↔ R m) → (rs : List Rename) (m : Mapping) → Select P rs m ↔ Select R rs m
select_as P R e rs m = ((λ h. (h.0, (e h.0).0 h.1, h.2)), (λ h. (h.0, (e h.0).1 h.1, h.2)))

module _ (g : GraphValue) (p q : Pattern) (left right s : Table) (hp : IsSolved g p left) (hq : IsSolved g q right) where
  pub and_solved : IsOutcome g.terms (Join (HasSolution g.terms left) (HasSolution g.terms right)) s → IsSolved g (patterns.And p q) s
  unfolding shape-the_row-Pattern-0 hidden-the_row-Pattern-0 hidden
  and_solved h = outcome_as g.terms (Join (HasSolution g.terms left) (HasSolution g.terms right)) (Join (Solution (HasTriple g) p) (Solution (HasTriple g) q)) s
      (join_as (HasSolution g.terms left) (HasSolution g.terms right) (Solution (HasTriple g) p) (Solution (HasTriple g) q) hp.exact hq.exact) h

  pub left_solved : (c : Condition) → IsOutcome g.terms (LeftJoin (HasSolution g.terms left) (HasSolution g.terms right) c) s → IsSolved g (patterns.LeftJoin p q c) s
  unfolding shape-the_row-Pattern-0 hidden-the_row-Pattern-0 hidden
  left_solved c h = outcome_as g.terms (LeftJoin (HasSolution g.terms left) (HasSolution g.terms right) c) (LeftJoin (Solution (HasTriple g) p) (Solution (HasTriple g) q) c) s
      (left_as (HasSolution g.terms left) (HasSolution g.terms right) (Solution (HasTriple g) p) (Solution (HasTriple g) q) hp.exact hq.exact c) h

  pub union_solved : IsOutcome g.terms (λ m. HasSolution g.terms left m ⊎ HasSolution g.terms right m) s → IsSolved g (patterns.Union p q) s
  unfolding shape-the_row-Pattern-0 hidden-the_row-Pattern-0 hidden
  union_solved h = outcome_as g.terms (λ m. HasSolution g.terms left m ⊎ HasSolution g.terms right m) (λ m. Solution (HasTriple g) p m ⊎ Solution (HasTriple g) q m) s
      (either_as (HasSolution g.terms left) (HasSolution g.terms right) (Solution (HasTriple g) p) (Solution (HasTriple g) q) hp.exact hq.exact) h

  pub minus_solved : IsOutcome g.terms (Minus (HasSolution g.terms left) (HasSolution g.terms right)) s → IsSolved g (patterns.Minus p q) s
  unfolding shape-the_row-Pattern-0 hidden-the_row-Pattern-0 hidden
  minus_solved h = outcome_as g.terms (Minus (HasSolution g.terms left) (HasSolution g.terms right)) (Minus (Solution (HasTriple g) p) (Solution (HasTriple g) q)) s
      (minus_as (HasSolution g.terms left) (HasSolution g.terms right) (Solution (HasTriple g) p) (Solution (HasTriple g) q) hp.exact hq.exact) h

module _ (g : GraphValue) (p : Pattern) (rows s : Table) (hp : IsSolved g p rows) where
  pub filter_solved : (c : Condition) → IsOutcome g.terms (λ m. HasSolution g.terms rows m × Says c true m) s → IsSolved g (patterns.Filter p c) s
  unfolding shape-the_row-Pattern-0 hidden-the_row-Pattern-0 hidden
  filter_solved c h = outcome_as g.terms (λ m. HasSolution g.terms rows m × Says c true m) (λ m. Solution (HasTriple g) p m × Says c true m) s
      (λ m. ((λ k. ((hp.exact m).0 k.0, k.1)), (λ k. ((hp.exact m).1 k.0, k.1)))) h

  pub select_solved : (rs : List Rename) → IsOutcome g.terms (Select (HasSolution g.terms rows) rs) s → IsSolved g (patterns.Select p rs) s
  unfolding shape-the_row-Pattern-0 hidden-the_row-Pattern-0 hidden
  select_solved rs h = outcome_as g.terms (Select (HasSolution g.terms rows) rs) (Select (Solution (HasTriple g) p) rs) s
      (select_as (HasSolution g.terms rows) (Solution (HasTriple g) p) hp.exact rs) h

-- rows that are one mapping have the same numbers
pub solutions_once : (g : GraphValue) (p : Pattern) (s : Table) → AreOneToOne g.terms → IsSolved g p s → AreSolutions g p s
solutions_once g p s d h = record {
  exact = h.exact;
  once = λ i j l k e. h.once i j l k (λ x. same_number g.terms d (number_at s.columns i x) (number_at s.columns j x) (h.numbers i x (omega arith)) (h.numbers j x k) (e x));
  numbers = h.numbers;
}
