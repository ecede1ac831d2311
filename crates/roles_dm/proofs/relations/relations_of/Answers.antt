use Rattle.std.proofs.Common.{◌≡◌, ◌+◌, arith, length, subst, suc}
use Rattle.roles_dm.specs.Relations.{AreRelationsBelow}
use Rattle.roles_dm.proofs.relations.relations_of.Goals as goal

pub loop-before-preserved : goal.loop-before-preserved
loop-before-preserved c G is words =
    let next : suc c.loop-before.before ≡ c.loop-before.before + 1 = omega arith in
    let below = subst (λ n. AreRelationsBelow c.args.base.now c.args.graph.now G n c.loop-before.relations) next (c.loop-before.invariant G is words) in
    c.in_ok-note.ensures c.args.base.now G c.args.graph.now c.naming_laws.ensures below (c.in_ok-found.ensures G is words)

pub returns : goal.returns
returns c G is words =
    let all : c.loop-before.before ≡ length c.args.graph.now.terms = omega (arith, c.loop-before-test.false, c.loop-before.auto.before-end, c.in_ok-before-end.ensures) in
    subst (λ n. AreRelationsBelow c.args.base.now c.args.graph.now G (suc n) c.loop-before.relations) all (c.loop-before.invariant G is words)
