use Rattle.std.proofs.Common.{◌≡◌, ℕ, List, sym}
use Rattle.std.proofs.lemmas.Result.{IfOk-weaker}
use Rattle.names_dm.specs.declared.term.Term.TheVariants as term
use Rattle.names_dm.specs.Statements.{Statement}
use Rattle.roles_dm.specs.Findings.{Finds, IsPlainProperty, IsTripleOf}
use Rattle.roles_dm.specs.Roles.{IsRole}
use Rattle.roles_dm.specs.declared.finding.Finding.{Finding}
use Rattle.roles_dm.specs.declared.role.Role.{Role}
use Rattle.roles_dm.proofs.FindingLemmas.{no_role, predicate_at, role_is}
use Rattle.roles_dm.proofs.finding.plain_finding.Goals as goal

pub returns-in-Some : goal.returns-in-Some
returns-in-Some c = IfOk-weaker c.property_finding.result
    (λ (f : Finding). (base : List ℕ) (rs : List Role) (G : List Statement) (x : Statement) → IsTripleOf base c.args.graph.now c.args.words.now rs G x c.args.numbers → x.object ≡ c.args.object.now → IsRole base c.args.graph.now G (term.Iri x.predicate) c.in-Some.predicate.now → IsPlainProperty x → Finds base c.args.graph.now G x f)
    (λ (f : Finding). (base : List ℕ) (G : List Statement) (x : Statement) → IsTripleOf base c.args.graph.now c.args.words.now c.args.roles.now G x c.args.numbers → x.object ≡ c.args.object.now → IsPlainProperty x → Finds base c.args.graph.now G x f)
    (λ f told base G x t o plain.
    told base c.args.roles.now G x t o
    (role_is base c.args.graph.now c.args.words.now c.args.roles.now G t.read c.args.numbers.predicate (term.Iri x.predicate) c.in-Some.predicate.now (predicate_at base c.args.graph.now c.args.words.now c.args.roles.now G x c.args.numbers t) (sym c.in-Some.ensures)) plain)
    c.property_finding.ensures

pub returns-in-None : goal.returns-in-None
returns-in-None c base G x t o plain = absurd (no_role base c.args.graph.now c.args.words.now c.args.roles.now G t.read c.args.numbers.predicate (term.Iri x.predicate) (predicate_at base c.args.graph.now c.args.words.now c.args.roles.now G x c.args.numbers t) (sym c.in-None.ensures))
