use Rattle.std.proofs.Common.{◌≡◌, ◌∙◌, List, All, refl, subst, sym}
use Rattle.std.specs.Prelude.{Any}
use Rattle.std.proofs.lemmas.Bool.{false≢true}
use Rattle.members_dm.specs.Membership.{IsIn}
use Rattle.members_dm.proofs.AnyLemmas.{none_at_all, none_so_far, some_at_last}
use Rattle.schema_dm.specs.Naming.{Name}
use Rattle.algebra_dm.proofs.name_lists.lacks_some.Goals as goal

pub loop-name-preserved : goal.loop-name-preserved
loop-name-preserved c =
    none_so_far (λ (a : Name). ¬ IsIn a c.args.others.now) c.as_slice-name-items.result.now c.loop-name.name-index c.name-item.result c.loop-name-test.true c.name-item.is
    (λ n. n (subst (λ (ys : List Name). IsIn c.name-item.result ys) c.in_ok-index.ensures (c.holds.ensures.0 c.if-not-holds.false))) c.loop-name.invariant

pub returns-then-not-holds : goal.returns-then-not-holds
returns-then-not-holds c = (
  (λ h. subst (Any (λ (a : Name). ¬ IsIn a c.args.others.now)) c.as_slice-name-items.ensures
      (some_at_last (λ (a : Name). ¬ IsIn a c.args.others.now) c.as_slice-name-items.result.now c.loop-name.name-index c.name-item.result c.loop-name-test.true c.name-item.is
      (λ is. false≢true (sym c.if-not-holds.true ∙ c.holds.ensures.1 (subst (λ (ys : List Name). IsIn c.name-item.result ys) (sym c.in_ok-index.ensures) is))))),
  (λ any. refl),
)

pub returns : goal.returns
returns c = (
  (λ h. absurd (false≢true h)),
  (λ any. absurd (none_at_all (λ (a : Name). ¬ IsIn a c.args.others.now) c.as_slice-name-items.result.now c.loop-name.name-index c.loop-name-test.false c.loop-name.invariant
      (subst (Any (λ (a : Name). ¬ IsIn a c.args.others.now)) (sym c.as_slice-name-items.ensures) any))),
)
