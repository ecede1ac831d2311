use Rattle.std.proofs.Common.{◌≡◌, ◌<◌, ℕ, List, Bool, MatchOption, None, Option, Some, cond, subst}
use Rattle.std.specs.Prelude.{slice_get}
use Rattle.std.proofs.lemmas.Result.{IfOk-weaker}
use Rattle.names_dm.specs.Statements.{Statement}
use Rattle.layouts_dm.specs.Outcomes.{Passes}
use Rattle.roles_dm.specs.Findings.{Finds, IsTripleOf}
use Rattle.roles_dm.specs.Seen.{AreFirsts, AreValued, HasCounted, Judges, NotesObject}
use Rattle.roles_dm.specs.declared.cause.Cause.{Cause}
use Rattle.roles_dm.specs.declared.cause.Cause.TheVariants as cause
use Rattle.roles_dm.proofs.JudgeLemmas.{judge_class, judge_free, judge_mark, judge_pair, judge_unexplained, judge_value}
use Rattle.roles_dm.proofs.bad.judged.Goals as goal

pub returns-in-Unexplained : goal.returns-in-Unexplained
returns-in-Unexplained c base G i x t at before firsts valued finds =
    judge_unexplained base c.args.graph.now c.args.words.now c.args.roles.now G x c.args.numbers t i at c.args.firsts.now c.args.valued.now (subst (Finds base c.args.graph.now G x) c.in-Unexplained.is finds)

pub returns-in-Free : goal.returns-in-Free
returns-in-Free c base G i x t at before firsts valued finds =
    judge_free base c.args.graph.now c.args.words.now c.args.roles.now G x c.args.numbers t i at before c.args.firsts.now firsts c.args.valued.now valued (subst (Finds base c.args.graph.now G x) c.in-Free.is finds)

pub returns-in-Class : goal.returns-in-Class
returns-in-Class c = IfOk-weaker c.object_cause.result
    (λ (found : Option Cause). (told : Bool) × NotesObject c.args.firsts.now c.object_cause.new.firsts c.args.numbers told × (found ≡ cond told None (Some cause.TwoTables)))
    (λ (found : Option Cause). (base : List ℕ) (G : List Statement) (i : ℕ) (x : Statement) → IsTripleOf base c.args.graph.now c.args.words.now c.args.roles.now G x c.args.numbers → slice_get G i ≡ Some x → ((j : ℕ) → j < i → Passes base G j)
    → AreFirsts base c.args.graph.now G i c.args.firsts.now → AreValued c.args.graph.now c.args.roles.now c.args.valued.now → Finds base c.args.graph.now G x c.args.said → Judges base c.args.graph.now c.args.roles.now G i c.object_cause.new.firsts c.args.valued.now found)
    (λ found k base G i x t at before firsts valued finds.
    judge_class base c.args.graph.now c.args.words.now c.args.roles.now G x c.args.numbers t i at before c.args.firsts.now firsts c.args.valued.now valued c.object_cause.new.firsts (subst (Finds base c.args.graph.now G x) c.in-Class.is finds) k.0 k.1 found k.2)
    c.object_cause.ensures

pub returns-in-Value : goal.returns-in-Value
returns-in-Value c = IfOk-weaker c.object_cause-in-Value.result
    (λ (found : Option Cause). (told : Bool) × NotesObject c.args.firsts.now c.object_cause-in-Value.new.firsts c.args.numbers told × (found ≡ cond told None (Some cause.TwoValues)))
    (λ (found : Option Cause). (base : List ℕ) (G : List Statement) (i : ℕ) (x : Statement) → IsTripleOf base c.args.graph.now c.args.words.now c.args.roles.now G x c.args.numbers → slice_get G i ≡ Some x → ((j : ℕ) → j < i → Passes base G j)
    → AreFirsts base c.args.graph.now G i c.args.firsts.now → AreValued c.args.graph.now c.args.roles.now c.args.valued.now → Finds base c.args.graph.now G x c.args.said → Judges base c.args.graph.now c.args.roles.now G i c.object_cause-in-Value.new.firsts c.args.valued.now found)
    (λ found k base G i x t at before firsts valued finds.
    judge_value base c.args.graph.now c.args.words.now c.args.roles.now G x c.args.numbers t i at before c.args.firsts.now firsts c.args.valued.now valued c.object_cause-in-Value.new.firsts (subst (Finds base c.args.graph.now G x) c.in-Value.is finds) k.0 k.1 found k.2)
    c.object_cause-in-Value.ensures

pub returns-in-Mark : goal.returns-in-Mark
returns-in-Mark c = IfOk-weaker c.mark_cause.result
    (λ (found : Option Cause). AreValued c.args.graph.now c.args.roles.now c.args.valued.now → MatchOption found (HasCounted c.args.graph.now c.args.roles.now c.args.numbers.subject c.args.words.now.rdf_type × AreValued c.args.graph.now c.args.roles.now c.mark_cause.new.valued)
    (λ (a : Cause). (a ≡ cause.Unexplained) × (¬ HasCounted c.args.graph.now c.args.roles.now c.args.numbers.subject c.args.words.now.rdf_type)))
    (λ (found : Option Cause). (base : List ℕ) (G : List Statement) (i : ℕ) (x : Statement) → IsTripleOf base c.args.graph.now c.args.words.now c.args.roles.now G x c.args.numbers → slice_get G i ≡ Some x → ((j : ℕ) → j < i → Passes base G j)
    → AreFirsts base c.args.graph.now G i c.args.firsts.now → AreValued c.args.graph.now c.args.roles.now c.args.valued.now → Finds base c.args.graph.now G x c.args.said → Judges base c.args.graph.now c.args.roles.now G i c.args.firsts.now c.mark_cause.new.valued found)
    (λ found k base G i x t at before firsts valued finds.
    judge_mark base c.args.graph.now c.args.words.now c.args.roles.now G x c.args.numbers t i at before c.args.firsts.now firsts c.args.valued.now valued c.mark_cause.new.valued (subst (Finds base c.args.graph.now G x) c.in-Mark.is finds) found (k valued))
    c.mark_cause.ensures

pub returns-in-Pair : goal.returns-in-Pair
returns-in-Pair c = IfOk-weaker c.pair_cause.result
    (λ (found : Option Cause). AreValued c.args.graph.now c.args.roles.now c.args.valued.now
    → MatchOption found (HasCounted c.args.graph.now c.args.roles.now c.args.numbers.subject c.in-Pair.left × HasCounted c.args.graph.now c.args.roles.now c.args.numbers.object c.in-Pair.right × AreValued c.args.graph.now c.args.roles.now c.pair_cause.new.valued)
    (λ (a : Cause). (a ≡ cause.NoKeyValue) × (¬ (HasCounted c.args.graph.now c.args.roles.now c.args.numbers.subject c.in-Pair.left × HasCounted c.args.graph.now c.args.roles.now c.args.numbers.object c.in-Pair.right))))
    (λ (found : Option Cause). (base : List ℕ) (G : List Statement) (i : ℕ) (x : Statement) → IsTripleOf base c.args.graph.now c.args.words.now c.args.roles.now G x c.args.numbers → slice_get G i ≡ Some x → ((j : ℕ) → j < i → Passes base G j)
    → AreFirsts base c.args.graph.now G i c.args.firsts.now → AreValued c.args.graph.now c.args.roles.now c.args.valued.now → Finds base c.args.graph.now G x c.args.said → Judges base c.args.graph.now c.args.roles.now G i c.args.firsts.now c.pair_cause.new.valued found)
    (λ found k base G i x t at before firsts valued finds.
    judge_pair base c.args.graph.now c.args.words.now c.args.roles.now G x c.args.numbers t i at before c.args.firsts.now firsts c.args.valued.now valued c.pair_cause.new.valued c.in-Pair.left c.in-Pair.right (subst (Finds base c.args.graph.now G x) c.in-Pair.is finds) found (k valued))
    c.pair_cause.ensures
