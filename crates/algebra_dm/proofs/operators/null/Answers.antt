use Rattle.std.proofs.Common.{◌≡◌, ◌≢◌, ◌∙◌, ◌⊎◌, List, [], sym, ap, subst, inl, inr}
use Rattle.std.specs.Prelude.{Any}
use Rattle.std.proofs.lemmas.Bool.{false≢true}
use Rattle.members_dm.specs.Elements.{Repeats}
use Rattle.members_dm.specs.Membership.{IsIn}
use Rattle.schema_dm.specs.Naming.{Name, column_names}
use Rattle.algebra_dm.specs.Certain.{IsCertainColumn}
use Rattle.algebra_dm.proofs.RisingLemmas.{lists_along, lists_items}
use Rattle.algebra_dm.proofs.ToldLemmas.{no_causes, own_list, told_narrow}
use Rattle.algebra_dm.proofs.operators.null.Goals as goal

pub returns : goal.returns
returns c =
    let name = c.args.name.now in
    told_narrow ⊥ ⊥ ⊥ ⊥ (λ a. name ≡ a) (λ a. ⊥) _ c.narrow.result c.narrow.ensures no_causes
    (lists_along _ (λ a. name ≡ a) (λ a. ((λ h. elim h [ inl none ↦ absurd (subst (IsIn a) c.new-none.ensures none) | inr is ↦ is ]), (λ is. inr is))) c.in_ok-attributes.attributes c.in_ok-attributes.ensures)
    (rw c.new-none.ensures (record { rising = tt; exact = λ a. ((λ h. h), (λ h. h)) }))
