-- A pattern has the same solutions over the same triples.
use Rattle.std.proofs.Common.{List, subst, inl, inr, ⊎_elim}
use Rattle.std.specs.Prelude.{◌↔◌, Contains}
use Rattle.members_dm.specs.Membership.{IsIn}
use Rattle.members_dm.proofs.ElementsLemmas.{item_within}
use Rattle.members_dm.proofs.PositionLists.{place_of_item}
use Rattle.names_dm.specs.Statements.{Statement}
use Rattle.pattern_dm.specs.Mappings.{Mapping}
use Rattle.pattern_dm.specs.Solution.{Solution}
use Rattle.pattern_dm.specs.declared.pattern.Pattern.{Pattern, end_of-Pattern, more_of-Pattern}
use Rattle.pattern_dm.specs.declared.pattern.Pattern.TheVariants.{Empty, Triple, And', LeftJoin', Union', Minus', Filter', Select'}
use Rattle.pattern_lines_dm.specs.Lines.{StandsIn}

module _ (g h : Statement → Type 0) (same : (t : Statement) → g t ↔ h t) where
  pub solution_along : (p : Pattern) (m : Mapping) → Solution g p m ↔ Solution h p m
  solution_along Empty m = ((λ k. k), (λ k. k))
  solution_along (Triple s p o) m = ((λ k. (k.0, (same k.0).0 k.1, k.2, k.3)), (λ k. (k.0, (same k.0).1 k.1, k.2, k.3)))
  solution_along (And' a (more_of-Pattern p end_of-Pattern) b (more_of-Pattern q end_of-Pattern)) m = (
    (λ k. (k.0, k.1, (solution_along p k.0).0 k.2, (solution_along q k.1).0 k.3, k.4, k.5)),
    (λ k. (k.0, k.1, (solution_along p k.0).1 k.2, (solution_along q k.1).1 k.3, k.4, k.5)),
  )
  solution_along (LeftJoin' a (more_of-Pattern p end_of-Pattern) b (more_of-Pattern q end_of-Pattern) f) m = (
    ⊎_elim
        (λ k. inl (k.0, k.1, (solution_along p k.0).0 k.2, (solution_along q k.1).0 k.3, k.4, k.5, k.6))
        (λ k. inr ((solution_along p m).0 k.0, (λ v w. k.1 v ((solution_along q v).1 w)))),
    ⊎_elim
        (λ k. inl (k.0, k.1, (solution_along p k.0).1 k.2, (solution_along q k.1).1 k.3, k.4, k.5, k.6))
        (λ k. inr ((solution_along p m).1 k.0, (λ v w. k.1 v ((solution_along q v).0 w)))),
  )
  solution_along (Union' a (more_of-Pattern p end_of-Pattern) b (more_of-Pattern q end_of-Pattern)) m = (
    ⊎_elim (λ k. inl ((solution_along p m).0 k)) (λ k. inr ((solution_along q m).0 k)),
    ⊎_elim (λ k. inl ((solution_along p m).1 k)) (λ k. inr ((solution_along q m).1 k)),
  )
  solution_along (Minus' a (more_of-Pattern p end_of-Pattern) b (more_of-Pattern q end_of-Pattern)) m = (
    (λ k. ((solution_along p m).0 k.0, (λ v w. k.1 v ((solution_along q v).1 w)))),
    (λ k. ((solution_along p m).1 k.0, (λ v w. k.1 v ((solution_along q v).0 w)))),
  )
  solution_along (Filter' a (more_of-Pattern p end_of-Pattern) f) m = ((λ k. ((solution_along p m).0 k.0, k.1)), (λ k. ((solution_along p m).1 k.0, k.1)))
  solution_along (Select' a (more_of-Pattern p end_of-Pattern) rs) m = (
    (λ k. (k.0, (solution_along p k.0).0 k.1, k.2)),
    (λ k. (k.0, (solution_along p k.0).1 k.1, k.2)),
  )

-- what a list contains stands in it
pub contains_stands : (triples : List Statement) (t : Statement) → Contains triples t ↔ StandsIn triples t
contains_stands triples t = ((λ h. subst (λ (x : Statement). IsIn x triples) h.2 (item_within triples h.0 t h.1)), (λ h. place_of_item t triples h))
