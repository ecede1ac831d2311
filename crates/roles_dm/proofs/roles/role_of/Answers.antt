use Rattle.std.proofs.Common.{◌≡◌, List, None, Some, subst}
use Rattle.std.proofs.lemmas.Result.{IfOk-weaker}
use Rattle.names_dm.specs.Statements.{Statement}
use Rattle.names_dm.specs.declared.term.Term.{Term}
use Rattle.store_dm.specs.Terms.{term_at}
use Rattle.roles_dm.specs.Numbers.{AreDatatypes, AreWords, IsGraphOf}
use Rattle.roles_dm.specs.Relations.{AreRelations}
use Rattle.roles_dm.specs.Roles.{IsRole, TellsClass}
use Rattle.roles_dm.specs.declared.role.Role.{Role}
use Rattle.roles_dm.proofs.roles.role_of.Goals as goal

pub returns-in-Some : goal.returns-in-Some
returns-in-Some c G x is words datatypes relations at = subst (TellsClass c.args.base.now G x) c.in-Some.is (c.in_ok-table.ensures G x is words at)

pub returns-in-None : goal.returns-in-None
returns-in-None c = IfOk-weaker c.property_role.result
    (λ (role : Role). (G : List Statement) (x : Term) → IsGraphOf c.args.graph.now G → AreWords c.args.graph.now c.args.words.now → AreDatatypes c.args.graph.now c.args.datatypes.now → AreRelations c.args.base.now c.args.graph.now G c.args.relations.now → term_at c.args.graph.now.terms c.args.number ≡ Some x → TellsClass c.args.base.now G x None → IsRole c.args.base.now c.args.graph.now G x role)
    (λ (role : Role). (G : List Statement) (x : Term) → IsGraphOf c.args.graph.now G → AreWords c.args.graph.now c.args.words.now → AreDatatypes c.args.graph.now c.args.datatypes.now → AreRelations c.args.base.now c.args.graph.now G c.args.relations.now → term_at c.args.graph.now.terms c.args.number ≡ Some x → IsRole c.args.base.now c.args.graph.now G x role)
    (λ role told G x is words datatypes relations at. told G x is words datatypes relations at (subst (TellsClass c.args.base.now G x) c.in-None.is (c.in_ok-table.ensures G x is words at)))
    c.property_role.ensures
