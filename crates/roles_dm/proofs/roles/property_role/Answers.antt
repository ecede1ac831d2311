use Rattle.std.proofs.Common.{◌≡◌, List, None, Some, subst}
use Rattle.std.proofs.lemmas.Result.{IfOk-weaker}
use Rattle.names_dm.specs.Statements.{Statement}
use Rattle.names_dm.specs.declared.term.Term.{Term}
use Rattle.store_dm.specs.Terms.{term_at}
use Rattle.roles_dm.specs.Numbers.{AreDatatypes, AreWords, IsGraphOf}
use Rattle.roles_dm.specs.Relations.{AreRelations}
use Rattle.roles_dm.specs.Roles.{IsRole, TellsClass, TellsColumn}
use Rattle.roles_dm.specs.declared.role.Role.{Role}
use Rattle.roles_dm.proofs.roles.property_role.Goals as goal

pub returns-in-Some : goal.returns-in-Some
returns-in-Some c G x is words datatypes relations at no_class = subst (TellsColumn c.args.base.now c.args.graph.now G x) c.in-Some.is (c.in_ok-column.ensures G x is words datatypes at)

pub returns-in-None : goal.returns-in-None
returns-in-None c = IfOk-weaker c.link_role.result
    (λ (role : Role). (G : List Statement) (x : Term) → IsGraphOf c.args.graph.now G → AreWords c.args.graph.now c.args.words.now → AreDatatypes c.args.graph.now c.args.datatypes.now → AreRelations c.args.base.now c.args.graph.now G c.args.relations.now → term_at c.args.graph.now.terms c.args.number ≡ Some x → TellsClass c.args.base.now G x None → TellsColumn c.args.base.now c.args.graph.now G x None → IsRole c.args.base.now c.args.graph.now G x role)
    (λ (role : Role). (G : List Statement) (x : Term) → IsGraphOf c.args.graph.now G → AreWords c.args.graph.now c.args.words.now → AreDatatypes c.args.graph.now c.args.datatypes.now → AreRelations c.args.base.now c.args.graph.now G c.args.relations.now → term_at c.args.graph.now.terms c.args.number ≡ Some x → TellsClass c.args.base.now G x None → IsRole c.args.base.now c.args.graph.now G x role)
    (λ role told G x is words datatypes relations at no_class. told G x is words datatypes relations at no_class (subst (TellsColumn c.args.base.now c.args.graph.now G x) c.in-None.is (c.in_ok-column.ensures G x is words datatypes at)))
    c.link_role.ensures
