use Rattle.std.proofs.Common.{◌≡◌, ◌+◌, ◌∙◌, ◌∷◌, [], ap, arith, length, length-append, subst, suc, sym}
use Rattle.roles_dm.specs.Roles.{HaveRoles}
use Rattle.roles_dm.proofs.RoleLemmas.{no_roles, one_more_role}
use Rattle.roles_dm.proofs.roles.roles_of.Goals as goal

pub loop-before-init : goal.loop-before-init
loop-before-init c = (
  ap length c.new-roles.ensures,
  (λ G is words datatypes. subst (HaveRoles c.args.base.now c.args.graph.now G) (sym c.new-roles.ensures) (no_roles c.args.base.now c.args.graph.now G)),
)

pub loop-before-preserved : goal.loop-before-preserved
loop-before-preserved c =
    let count = c.loop-before.invariant.0 in
    let pushed : length c.push.new.self ≡ length c.loop-before.roles + 1 = ap length c.in_ok-push.ensures.ok ∙ length-append c.loop-before.roles (c.in_ok-role.role ∷ []) in
    let number : c.loop-before.before + 1 ≡ suc (length c.loop-before.roles) = omega (arith, count) in (
      omega (arith, pushed, count),
      (λ G is words datatypes. one_more_role c.args.base.now c.args.graph.now G c.loop-before.roles c.push.new.self c.in_ok-role.role (c.loop-before.before + 1) c.in_ok-push.ensures.ok number
          (λ x at. c.in_ok-role.ensures G x is words datatypes (c.in_ok-relations.ensures G is words) at) (c.loop-before.invariant.1 G is words datatypes)),
    )

pub returns : goal.returns
returns c G is words datatypes = record {
  count = omega (arith, c.loop-before.invariant.0, c.loop-before-test.false, c.loop-before.auto.before-end, c.in_ok-before-end.ensures);
  each = c.loop-before.invariant.1 G is words datatypes;
}
