use Rattle.std.proofs.Common.{rules, ◌≡◌, ◌↔◌, IsTrue, Any, subst, refl}
use Rattle.members_dm.specs.Membership.{IsIn}
use Rattle.members_dm.proofs.AnyLemmas.{any_from_item, item_from_any}
use Rattle.schema_dm.specs.Naming.{Name}
use Rattle.algebra_dm.proofs.name_lists.has.Goals as goal

pub returns : goal.returns
returns c =
    let name = c.args.name.now in
    let names = c.args.names.now in
    let some : IsTrue c.any.result ↔ Any (λ (other : Name). other ≡ c.args.name.now) c.args.names.now = search rules in (
      (λ h. let found = item_from_any (λ (other : Name). other ≡ name) names (some.0 h) in subst (λ (a : Name). IsIn a names) found.2 found.1),
      (λ h. some.1 (any_from_item (λ (other : Name). other ≡ name) name names h refl)),
    )
