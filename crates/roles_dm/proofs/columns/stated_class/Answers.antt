use Rattle.std.proofs.Common.{subst}
use Rattle.roles_dm.specs.Roles.{TellsClassNumber}
use Rattle.roles_dm.proofs.ColumnLemmas.{domain_told, fails, no_domain}
use Rattle.roles_dm.proofs.columns.stated_class.Goals as goal

pub returns-in-None : goal.returns-in-None
returns-in-None c G is words at h = (subst (TellsClassNumber c.args.base.now c.args.graph.now G c.args.name.now.table) c.in-None.is (c.in_ok-class_number.ensures G is words)) h.0

pub returns-then-has : goal.returns-then-has
returns-then-has c G is words at =
    let told = subst (TellsClassNumber c.args.base.now c.args.graph.now G c.args.name.now.table) c.in-Some.is (c.in_ok-class_number.ensures G is words) in
    domain_told c.args.base.now c.args.graph.now G is c.args.words.now words c.args.name.now c.args.number c.in-Some.class at told.0 told.1 (c.has.ensures.0 c.if-has.true)

pub returns-else-has : goal.returns-else-has
returns-else-has c G is words at =
    let told = subst (TellsClassNumber c.args.base.now c.args.graph.now G c.args.name.now.table) c.in-Some.is (c.in_ok-class_number.ensures G is words) in
    no_domain c.args.base.now c.args.graph.now G is c.args.words.now words c.args.name.now c.args.number c.in-Some.class at told.0 (fails c.has.result c.has.ensures c.if-has.false)
