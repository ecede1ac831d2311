use Rattle.std.proofs.Common.{◌≡◌, ◌∙◌, ◌↔◌, true, false, sym, subst, refl, IsTrue}
use Rattle.value_dm.specs.Equality.{numbers_decide}
use Rattle.layouts_dm.specs.Layouts.{IsGoodName}
use Rattle.roles_dm.specs.Roles.{TellsClassNumber}
use Rattle.roles_dm.proofs.ColumnLemmas.{fails}
use Rattle.roles_dm.proofs.links.is_sole.Goals as goal

nay : {P : Type 0} → ¬ P → IsTrue false ↔ P
nay none = ((λ e. absurd (let f : false ≡ true = e in cc)), (λ p. absurd (none p)))

pub returns-then-eq : goal.returns-then-eq
returns-then-eq c G is words relations s = nay (λ h. h.two ((numbers_decide c.args.name.now.left c.args.name.now.right).0 (sym c.if-eq.ensures)))

pub returns-then-not-is_alone : goal.returns-then-not-is_alone
returns-then-not-is_alone c G is words relations s = nay (λ h. fails c.is_alone.result (c.is_alone.ensures c.args.base.now G c.args.graph.now c.naming_laws.ensures relations s) c.if-not-is_alone.true h.alone)

pub returns-in-Some : goal.returns-in-Some
returns-in-Some c G is words relations s =
    let told = subst (TellsClassNumber c.args.base.now c.args.graph.now G c.args.name.now.table) c.in-Some.is (c.in_ok-class_number.ensures G is words) in
    nay (λ h. h.no_class (told.1, subst IsGoodName s.of_table s.good.0))

pub returns-in-None : goal.returns-in-None
returns-in-None c G is words relations s =
    let none = subst (TellsClassNumber c.args.base.now c.args.graph.now G c.args.name.now.table) c.in-None.is (c.in_ok-class_number.ensures G is words) in (
      (λ _. record {
        two = λ e. let f : false ≡ true = c.if-eq.ensures ∙ (numbers_decide c.args.name.now.left c.args.name.now.right).1 e in cc;
        alone = (c.is_alone.ensures c.args.base.now G c.args.graph.now c.naming_laws.ensures relations s).0 c.if-not-is_alone.false;
        no_class = λ k. none k.0;
      }),
      (λ _. refl),
    )
