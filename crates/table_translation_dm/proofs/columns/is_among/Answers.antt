use Rattle.std.proofs.Common.{rules, ◌≡◌, ◌↔◌, ℕ, IsTrue, Any, subst, refl}
use Rattle.members_dm.specs.Membership.{IsIn}
use Rattle.members_dm.proofs.AnyLemmas.{any_from_item, item_from_any}
use Rattle.table_translation_dm.proofs.columns.is_among.Goals as goal

pub returns : goal.returns
returns c =
    let place = c.args.place in
    let places = c.args.places.now in
    let some : IsTrue c.any.result ↔ Any (λ (other : ℕ). other ≡ c.args.place) c.args.places.now = search rules in (
      (λ h. let found = item_from_any (λ (other : ℕ). other ≡ place) places (some.0 h) in subst (λ (a : ℕ). IsIn a places) {x = found.0} found.2 found.1),
      (λ h. some.1 (any_from_item (λ (other : ℕ). other ≡ place) place places h refl)),
    )
