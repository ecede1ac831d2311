use Rattle.std.proofs.Common.{subst}
use Rattle.roles_dm.specs.Naming.{NamesRelation}
use Rattle.roles_dm.proofs.ColumnLemmas.{fails}
use Rattle.roles_dm.proofs.LinkLemmas.{stated, unnamed_relation, unstated_relation}
use Rattle.roles_dm.proofs.relations.stated_relation.Goals as goal

pub returns-then-not-has : goal.returns-then-not-has
returns-then-not-has c G is words = unstated_relation c.args.base.now c.naming_laws.ensures c.args.graph.now G is c.args.words.now words c.args.number (fails c.has.result c.has.ensures c.if-not-has.true)

pub returns-in-Some : goal.returns-in-Some
returns-in-Some c G is words =
    let told = subst (NamesRelation c.args.base.now c.term_of.result.now) c.in-Some.is c.in_ok-name.ensures in
    stated c.args.base.now c.naming_laws.ensures c.args.graph.now G is c.args.words.now words c.term_of.result.now c.args.number c.term_of.ensures c.in-Some.name told.1 (c.has.ensures.0 c.if-not-has.false) told

pub returns-in-None : goal.returns-in-None
returns-in-None c G is words = unnamed_relation c.args.base.now c.naming_laws.ensures c.args.graph.now G is c.term_of.result.now c.args.number c.term_of.ensures (subst (NamesRelation c.args.base.now c.term_of.result.now) c.in-None.is c.in_ok-name.ensures)
