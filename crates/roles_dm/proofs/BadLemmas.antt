-- The first bad triple, after a pass.
use Rattle.std.proofs.Common.{◌≡◌, ◌<◌, ◌≤◌, ◌+◌, ℕ, suc, List, Option, None, Some, true, false, refl, sym, ◌∙◌, subst, inl, inr, arith, length, IsTrue, not}
use Rattle.std.proofs.lemmas.Bool.{cases_lt}
use Rattle.std.proofs.lemmas.Option.{slice_get_within}
use Rattle.names_dm.specs.declared.term.Term.{Term}
use Rattle.names_dm.specs.declared.term.Term.TheVariants as term
use Rattle.names_dm.specs.Statements.{Statement, is_literal}
use Rattle.facts_dm.specs.Facts.{Node, blank, iri, node_term}
use Rattle.facts_dm.specs.Meanings.{NamingLaws}
use Rattle.store_dm.specs.Graphs.{GraphValue}
use Rattle.layouts_dm.specs.Outcomes.{Applies, Cause, NoKeyValue, Passes, TwoTables, TwoValues, Unexplained}
use Rattle.layouts_dm.proofs.Outcomes as outcome
use Rattle.roles_dm.specs.Bad.{TellsFirstBad, cause_of}
use Rattle.roles_dm.specs.Columned.{AreColumned}
use Rattle.roles_dm.specs.Judging.{IsSeen, TellsCause}
use Rattle.roles_dm.specs.Seen.{AreValued, Judges, first_object}
use Rattle.roles_dm.specs.declared.bad.Seen.{Seen}
use Rattle.roles_dm.specs.declared.cause.Cause.{Cause as TheCause}
use Rattle.roles_dm.specs.declared.role.Role.{Role}

-- a subject is a node
pub subject_node : (y : Term) → IsTrue (not (is_literal y)) → (m : Node) × (y ≡ node_term m)
subject_node (term.Iri i) e = (iri i, refl)
subject_node (term.Blank b) e = (blank b, refl)
subject_node (term.Literal l) e = absurd (let q : false ≡ true = e in cc)

module _ (base : List ℕ) (g : GraphValue) (rs : List Role) (G : List Statement) where
  pub tells : (i : ℕ) (seen : Seen) (found : Option TheCause) → AreColumned rs seen.columned → Judges base g rs G i seen.firsts seen.valued found → TellsCause base g rs G i seen found
  tells i seen None columned h = (h.0, record { columned = columned; firsts = h.1; valued = h.2 })
  tells i seen (Some cause) columned h = h

  -- ---- the pass

  abbrev pub HasPassed : ℕ → Seen → Type 0
  HasPassed i seen = ((j : ℕ) → j < i → Passes base G j) × IsSeen base g rs G i seen

  pub none_passed : (seen : Seen) → AreColumned rs seen.columned → ((s p : ℕ) → first_object seen.firsts s p ≡ None) → AreValued g rs seen.valued → HasPassed 0 seen
  none_passed seen columned none valued = (
    (λ j l. absurd (omega (arith, l))),
    record {
      columned = columned;
      firsts = record {
        told = λ n e. absurd (let f : None ≡ Some n.object = sym (none n.subject n.predicate) ∙ e in cc);
        kept = λ j y n l. absurd (omega (arith, l));
      };
      valued = valued;
    },
  )

  pub one_more_passed : (i : ℕ) (old new : Seen) → HasPassed i old → TellsCause base g rs G i new None → HasPassed (i + 1) new
  one_more_passed i old new passed h =
      let next : suc i ≡ i + 1 = omega arith in (
        (λ j l. elim (cases_lt j i) [ inl a ↦ passed.0 j a | inr b ↦ (let e : i ≡ j = omega (arith, l, b) in subst (Passes base G) e h.0) ]),
        subst (λ k. IsSeen base g rs G k new) next h.1,
      )

  module _ (laws : NamingLaws base) where
    applies_within : (i : ℕ) (cause : Cause) → Applies base G i cause → i < length G
    applies_within i Unexplained h = slice_get_within G i h.0 h.1
    applies_within i TwoValues h = slice_get_within G i _ h.9
    applies_within i TwoTables h = slice_get_within G i _ h.7
    applies_within i NoKeyValue h = slice_get_within G i _ h.6

    pub none_bad : (i : ℕ) (seen : Seen) → length G ≤ i → HasPassed i seen → TellsFirstBad base G None
    none_bad i seen past passed j cause h =
        let below = applies_within j cause h in
        outcome.passes_not base laws G j (passed.0 j (omega (arith, below, past))) cause h

    pub one_bad : (i place : ℕ) (seen : Seen) (cause : TheCause) → place ≡ suc i → HasPassed i seen → Applies base G i (cause_of cause) → TellsFirstBad base G (Some (record { place = place; cause = cause }))
    one_bad i place seen cause is passed h = (i, is, outcome.first_bad base laws G i (cause_of cause) passed.0 h)
