use Rattle.std.proofs.Common.{◌≡◌, List, Some, Option, subst}
use Rattle.std.proofs.lemmas.Result.{IfOk-weaker}
use Rattle.names_dm.specs.Statements.{Statement}
use Rattle.names_dm.specs.declared.term.Term.{Term}
use Rattle.store_dm.specs.Terms.{term_at}
use Rattle.roles_dm.specs.Links.{TellsLink, TellsReference, TellsRelation}
use Rattle.roles_dm.specs.Numbers.{AreDatatypes, AreWords, IsGraphOf}
use Rattle.roles_dm.specs.Relations.{AreRelations}
use Rattle.roles_dm.specs.declared.role.LinkRole.{LinkRole}
use Rattle.roles_dm.proofs.ColumnLemmas.{fails}
use Rattle.roles_dm.proofs.LinkLemmas.{merged, unstated}
use Rattle.roles_dm.proofs.links.link_of.Goals as goal

pub returns-then-not-has : goal.returns-then-not-has
returns-then-not-has c G x is words datatypes relations at = unstated c.args.base.now c.naming_laws.ensures c.args.graph.now G is c.args.words.now words x c.args.number at (fails c.has.result c.has.ensures c.if-not-has.true)

pub returns-in-Some : goal.returns-in-Some
returns-in-Some c G x is words datatypes relations at = subst (TellsReference c.args.base.now c.args.graph.now G x) c.in-Some.is (c.in_ok-role.ensures G x is words datatypes at)

pub returns-in-None : goal.returns-in-None
returns-in-None c = IfOk-weaker c.relation_of.result
    (λ (found : Option LinkRole). (G : List Statement) (x : Term) → IsGraphOf c.args.graph.now G → AreWords c.args.graph.now c.args.words.now → AreDatatypes c.args.graph.now c.args.datatypes.now → AreRelations c.args.base.now c.args.graph.now G c.args.relations.now → term_at c.args.graph.now.terms c.args.number ≡ Some x → TellsRelation c.args.base.now c.args.graph.now G x found)
    (λ (found : Option LinkRole). (G : List Statement) (x : Term) → IsGraphOf c.args.graph.now G → AreWords c.args.graph.now c.args.words.now → AreDatatypes c.args.graph.now c.args.datatypes.now → AreRelations c.args.base.now c.args.graph.now G c.args.relations.now → term_at c.args.graph.now.terms c.args.number ≡ Some x → TellsLink c.args.base.now c.args.graph.now G x found)
    (λ found told G x is words datatypes relations at.
    merged c.args.base.now c.naming_laws.ensures c.args.graph.now G is c.args.words.now words x c.args.number at found (subst (TellsReference c.args.base.now c.args.graph.now G x) c.in-None.is (c.in_ok-role.ensures G x is words datatypes at)) (told G x is words datatypes relations at))
    c.relation_of.ensures
