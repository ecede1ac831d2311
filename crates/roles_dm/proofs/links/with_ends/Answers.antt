use Rattle.std.proofs.Common.{subst, refl}
use Rattle.roles_dm.specs.Links.{TellsColumnNumber}
use Rattle.roles_dm.proofs.links.with_ends.Goals as goal

pub returns-in_default : goal.returns-in_default
returns-in_default c G is words datatypes h = (subst (TellsColumnNumber c.args.base.now c.args.graph.now G c.args.from.1 c.args.name.left_target) c.in_default.is (c.in_ok-left.ensures G is words datatypes)) h.0

pub returns-in_default-2 : goal.returns-in_default-2
returns-in_default-2 c G is words datatypes h = (subst (TellsColumnNumber c.args.base.now c.args.graph.now G c.args.to.1 c.args.name.right_target) c.in_default-2.is (c.in_ok-right.ensures G is words datatypes)) h.1

pub returns : goal.returns
returns c G is words datatypes =
    let left = subst (TellsColumnNumber c.args.base.now c.args.graph.now G c.args.from.1 c.args.name.left_target) c.in-Some.is (c.in_ok-left.ensures G is words datatypes) in
    let right = subst (TellsColumnNumber c.args.base.now c.args.graph.now G c.args.to.1 c.args.name.right_target) c.in-Some-2.is (c.in_ok-right.ensures G is words datatypes) in
    record { name = refl; from_is = refl; to_is = refl; left = left.0; right = right.0; ends = (left.1, right.1) }
