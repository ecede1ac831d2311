-- Whether a triple passes, by what it says.
use Rattle.std.proofs.Common.{◌≡◌, ◌<◌, ℕ, List, Option, None, Some, Bool, true, false, sym, ap, ◌∙◌, subst, cond, MatchOption}
use Rattle.std.specs.Prelude.{slice_get}
use Rattle.names_dm.specs.Statements.{Statement}
use Rattle.facts_dm.specs.Facts.{a_cell, a_mark, a_node, rel_link}
use Rattle.store_dm.specs.Graphs.{GraphValue}
use Rattle.layouts_dm.specs.Outcomes.{Applies, Passes}
use Rattle.roles_dm.specs.Bad.{cause_of}
use Rattle.roles_dm.specs.Findings.{Finds, IsTripleOf}
use Rattle.roles_dm.specs.Seen.{AreFirsts, AreValued, HasCounted, Judges, NotesObject}
use Rattle.roles_dm.specs.declared.cause.Cause.{Cause}
use Rattle.roles_dm.specs.declared.cause.Cause.TheVariants as cause
use Rattle.roles_dm.specs.declared.finding.Finding.TheVariants as finding
use Rattle.roles_dm.specs.declared.numbered.Numbered.{Numbered}
use Rattle.roles_dm.specs.declared.role.Role.{Role}
use Rattle.roles_dm.specs.declared.seen.Firsts.{Firsts}
use Rattle.roles_dm.specs.declared.seen.Valued.{Valued}
use Rattle.roles_dm.specs.declared.words.Words.{Words}
use Rattle.roles_dm.proofs.CountLemmas.{mark_bad, mark_passes, pair_bad, pair_passes}
use Rattle.roles_dm.proofs.FirstLemmas.{agreed, disagreed, free_says_none, link_says_none, noted, one_class, one_value, skipped, two_tables, two_values}
use Rattle.roles_dm.proofs.Passing.{applies_unexplained, passes_plain}

module _ (base : List ℕ) (g : GraphValue) (w : Words) (rs : List Role) (G : List Statement) (x : Statement) (n : Numbered) (t : IsTripleOf base g w rs G x n) (i : ℕ) (at : slice_get G i ≡ Some x) where
  pub judge_unexplained : (firsts : Firsts) (valued : Valued) → Finds base g G x finding.Unexplained → Judges base g rs G i firsts valued (Some cause.Unexplained)
  judge_unexplained firsts valued none = applies_unexplained base t.laws G i x at none

  module _ (before : (j : ℕ) → j < i → Passes base G j) (old : Firsts) (firsts : AreFirsts base g G i old) (looked : Valued) (valued : AreValued g rs looked) where
    pub judge_free : Finds base g G x finding.Free → Judges base g rs G i old looked None
    judge_free h = (
      passes_plain base t.laws G i h.0 h.1 (at ∙ ap Some h.2.0) h.2.1,
      skipped base g w rs G x n t i at old old firsts (free_says_none base g w rs G x n t i at h.0 h.1 h.2.0),
      valued,
    )

    module _ (new : Firsts) where
      pub judge_class : Finds base g G x finding.Class → (told : Bool) → NotesObject old new n told → (found : Option Cause) → found ≡ cond told None (Some cause.TwoTables) → Judges base g rs G i new looked found
      judge_class h true notes found e =
          let a = agreed old new n notes in
          subst (Judges base g rs G i new looked) (sym e) (
            one_class base g w rs G x n t i at old new firsts a h.0 h.1 h.2.0 h.2.1,
            noted base g w rs G x n t i at old new firsts a (a_node h.0 h.1, tt, h.2.0),
            valued,
          )
      judge_class h false notes found e =
          let first = disagreed old new n notes in
          subst (Judges base g rs G i new looked) (sym e) (two_tables base g w rs G x n t i at before old firsts first.0 first.1 first.2 h.0 h.1 h.2.0 h.2.1)

      pub judge_value : Finds base g G x finding.Value → (told : Bool) → NotesObject old new n told → (found : Option Cause) → found ≡ cond told None (Some cause.TwoValues) → Judges base g rs G i new looked found
      judge_value h true notes found e =
          let a = agreed old new n notes in
          subst (Judges base g rs G i new looked) (sym e) (
            one_value base g w rs G x n t i at old new firsts a h.0 h.1 h.2 h.3.0 h.3.1,
            noted base g w rs G x n t i at old new firsts a (a_cell h.0 h.1 h.2, tt, h.3.0),
            valued,
          )
      judge_value h false notes found e =
          let first = disagreed old new n notes in
          subst (Judges base g rs G i new looked) (sym e) (two_values base g w rs G x n t i at before old firsts first.0 first.1 first.2 h.0 h.1 h.2 h.3.0 h.3.1)

    module _ (now : Valued) where
      pub judge_mark : Finds base g G x finding.Mark → (found : Option Cause) → MatchOption found (HasCounted g rs n.subject w.rdf_type × AreValued g rs now) (λ c. (c ≡ cause.Unexplained) × (¬ HasCounted g rs n.subject w.rdf_type)) → Judges base g rs G i old now found
      judge_mark h None k = (
        mark_passes base g w rs G x n t i at h.0 h.1 k.0,
        skipped base g w rs G x n t i at old old firsts (free_says_none base g w rs G x n t i at (a_mark h.0) tt h.1),
        k.1,
      )
      judge_mark h (Some c) k = subst (λ c. Applies base G i (cause_of c)) (sym k.0) (mark_bad base g w rs G x n t i at h.0 h.1 k.1)

      pub judge_pair : (left right : ℕ) → Finds base g G x (finding.Pair left right) → (found : Option Cause) → MatchOption found (HasCounted g rs n.subject left × HasCounted g rs n.object right × AreValued g rs now) (λ c. (c ≡ cause.NoKeyValue) × (¬ (HasCounted g rs n.subject left × HasCounted g rs n.object right))) → Judges base g rs G i old now found
      judge_pair left right p None k = (
        pair_passes base g w rs G x n t i at left right p k.0 k.1,
        skipped base g w rs G x n t i at old old firsts (link_says_none base g w rs G x n t i at p.node p.other (rel_link p.relation) p.explained.0),
        k.2,
      )
      judge_pair left right p (Some c) k = subst (λ c. Applies base G i (cause_of c)) (sym k.0) (pair_bad base g w rs G x n t i at left right p k.1)
