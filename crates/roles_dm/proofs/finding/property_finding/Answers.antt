use Rattle.std.proofs.Common.{◌≡◌, ℕ, List, subst}
use Rattle.std.proofs.lemmas.Result.{IfOk-weaker}
use Rattle.names_dm.specs.declared.term.Term.TheVariants as term
use Rattle.names_dm.specs.Statements.{Statement}
use Rattle.roles_dm.specs.Findings.{Finds, IsPlainProperty, IsTripleOf}
use Rattle.roles_dm.specs.Roles.{IsColumnRole, IsRole}
use Rattle.roles_dm.specs.declared.finding.Finding.{Finding}
use Rattle.roles_dm.specs.declared.role.Role.{Role}
use Rattle.roles_dm.proofs.FindingLemmas.{property_class, property_none}
use Rattle.roles_dm.proofs.finding.property_finding.Goals as goal

pub returns-in-Column : goal.returns-in-Column
returns-in-Column c = IfOk-weaker c.value_finding.result
    (λ (f : Finding). (base : List ℕ) (rs : List Role) (G : List Statement) (x : Statement) → IsTripleOf base c.args.graph.now c.args.words.now rs G x c.args.numbers → x.object ≡ c.args.object.now → IsColumnRole base c.args.graph.now G (term.Iri x.predicate) c.in-Column.column → Finds base c.args.graph.now G x f)
    (λ (f : Finding). (base : List ℕ) (rs : List Role) (G : List Statement) (x : Statement) → IsTripleOf base c.args.graph.now c.args.words.now rs G x c.args.numbers → x.object ≡ c.args.object.now → IsRole base c.args.graph.now G (term.Iri x.predicate) c.args.predicate.now → IsPlainProperty x → Finds base c.args.graph.now G x f)
    (λ f told base rs G x t o h plain. told base rs G x t o (subst (IsRole base c.args.graph.now G (term.Iri x.predicate)) c.in-Column.is h))
    c.value_finding.ensures

pub returns-in-Link : goal.returns-in-Link
returns-in-Link c base rs G x t o h plain = c.pair_finding.ensures base rs G x t o (subst (IsRole base c.args.graph.now G (term.Iri x.predicate)) c.in-Link.is h)

pub returns-in-Class : goal.returns-in-Class
returns-in-Class c base rs G x t o h plain = property_class base c.args.graph.now c.args.words.now rs G x c.args.numbers t plain c.in-Class.field-0 (subst (IsRole base c.args.graph.now G (term.Iri x.predicate)) c.in-Class.is h)

pub returns-in-Nothing : goal.returns-in-Nothing
returns-in-Nothing c base rs G x t o h plain = property_none base c.args.graph.now c.args.words.now rs G x c.args.numbers t plain (subst (IsRole base c.args.graph.now G (term.Iri x.predicate)) c.in-Nothing.is h)
