use Rattle.std.proofs.Common.{◌≡◌, ◌<◌, ℕ, List, Option, Some, IsTrue, not, subst, sym}
use Rattle.std.specs.Prelude.{slice_get}
use Rattle.std.proofs.lemmas.Result.{IfOk-weaker}
use Rattle.members_dm.proofs.ElementsLemmas.{item_at_index}
use Rattle.names_dm.specs.declared.term.Term.{Term}
use Rattle.names_dm.specs.Statements.{Statement, is_literal}
use Rattle.facts_dm.specs.Meanings.{NamingLaws}
use Rattle.layouts_dm.specs.Outcomes.{Passes}
use Rattle.roles_dm.specs.Findings.{Finds, IsTripleOf}
use Rattle.roles_dm.specs.Judging.{IsSeen, TellsCause}
use Rattle.roles_dm.specs.Numbered.{AreNumbersOf}
use Rattle.roles_dm.specs.Roles.{IsRead}
use Rattle.roles_dm.specs.Seen.{AreFirsts, AreValued, Judges}
use Rattle.roles_dm.specs.declared.bad.Seen.{Seen}
use Rattle.roles_dm.specs.declared.cause.Cause.{Cause}
use Rattle.roles_dm.proofs.BadLemmas.{subject_node, tells}
use Rattle.roles_dm.proofs.bad.cause_at.Goals as goal

pub returns : goal.returns
returns c =
    let seen : Seen = record { columned = c.args.seen.now.columned; firsts = c.judged.new.firsts; valued = c.judged.new.valued } in
    IfOk-weaker c.judged.result
    (λ (found : Option Cause). (base : List ℕ) (G : List Statement) (i : ℕ) (x : Statement) → IsTripleOf base c.args.graph.now c.args.words.now c.args.roles.now G x c.args.numbers → slice_get G i ≡ Some x → ((j : ℕ) → j < i → Passes base G j)
    → AreFirsts base c.args.graph.now G i c.args.seen.now.firsts → AreValued c.args.graph.now c.args.roles.now c.args.seen.now.valued → Finds base c.args.graph.now G x c.in_ok-said.said → Judges base c.args.graph.now c.args.roles.now G i c.judged.new.firsts c.judged.new.valued found)
    (λ (found : Option Cause). (base : List ℕ) (G : List Statement) (i : ℕ) → NamingLaws base → IsRead base c.args.graph.now c.args.words.now c.args.roles.now G → slice_get G i ≡ Some c.args.triple.now → AreNumbersOf c.args.graph.now c.args.triple.now c.args.numbers → ((j : ℕ) → j < i → Passes base G j)
    → IsSeen base c.args.graph.now c.args.roles.now G i c.args.seen.now → TellsCause base c.args.graph.now c.args.roles.now G i seen found)
    (λ found told base G i laws read at numbers before old.
    let x : Statement = c.args.triple.now in
    let t : IsTripleOf base c.args.graph.now c.args.words.now c.args.roles.now G x c.args.numbers = record {
      laws = laws;
      read = read;
      there = item_at_index x G i at;
      numbers = numbers;
      node = subject_node x.subject (subst (λ (y : Term). IsTrue (not (is_literal y))) c.subject-subject.ensures.subject c.subject-subject.ensures.node);
    } in
    tells base c.args.graph.now c.args.roles.now G i seen found old.columned (told base G i x t at before old.firsts old.valued (c.in_ok-said.ensures base G x t old.columned (sym c.object.ensures))))
    c.judged.ensures
