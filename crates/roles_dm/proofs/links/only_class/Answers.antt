use Rattle.std.proofs.Common.{subst}
use Rattle.roles_dm.specs.Roles.{TellsClass}
use Rattle.roles_dm.proofs.LinkLemmas.{class_there, no_class_there, no_only_class, object_there, object_within}
use Rattle.roles_dm.proofs.links.only_class.Goals as goal

pub returns-in_default : goal.returns-in_default
returns-in_default c G i p is words at b = no_only_class c.args.base.now c.naming_laws.ensures c.args.graph.now G is i p c.args.number c.args.property at b c.in_default.ensures

pub class_of-requires-clause-high : goal.class_of-requires-clause-high
class_of-requires-clause-high c = object_within c.args.graph.now c.len-count.ensures.lawful c.args.number c.args.property c.in-Some.object c.in-Some.ensures

pub returns-in-None : goal.returns-in-None
returns-in-None c G i p is words at b =
    let y = object_there c.args.graph.now c.len-count.ensures.lawful c.args.number c.args.property c.in-Some.object c.in-Some.ensures in
    no_class_there c.args.base.now c.naming_laws.ensures c.args.graph.now G is i p c.args.number c.args.property at b c.in-Some.object y.0 c.in-Some.ensures y.1
    (subst (TellsClass c.args.base.now G y.0) c.in-None.is (c.in_ok-class_of.ensures G y.0 is words y.1))

pub returns-in-Some-2 : goal.returns-in-Some-2
returns-in-Some-2 c G i p is words at b =
    let y = object_there c.args.graph.now c.len-count.ensures.lawful c.args.number c.args.property c.in-Some.object c.in-Some.ensures in
    class_there c.args.base.now c.naming_laws.ensures c.args.graph.now G is i p c.args.number c.args.property at b c.in-Some.object y.0 c.in-Some-2.table c.in-Some.ensures y.1
    (subst (TellsClass c.args.base.now G y.0) c.in-Some-2.is (c.in_ok-class_of.ensures G y.0 is words y.1))
