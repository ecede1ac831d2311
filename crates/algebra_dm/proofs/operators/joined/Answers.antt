use Rattle.std.proofs.Common.{◌≡◌, ◌≢◌, ◌∙◌, ◌⊎◌, List, [], sym, ap, subst, inl, inr}
use Rattle.std.specs.Prelude.{Any}
use Rattle.std.proofs.lemmas.Bool.{false≢true}
use Rattle.members_dm.specs.Elements.{Repeats}
use Rattle.members_dm.specs.Membership.{IsIn}
use Rattle.schema_dm.specs.Naming.{Name, column_names}
use Rattle.algebra_dm.specs.Certain.{IsCertainColumn}
use Rattle.algebra_dm.proofs.RisingLemmas.{lists_along, lists_items}
use Rattle.algebra_dm.proofs.ToldLemmas.{no_causes, own_list, told_narrow}
use Rattle.algebra_dm.proofs.operators.joined.Goals as goal

pub returns : goal.returns
returns c =
    let left = c.args.left in
    let right = c.args.right in
    told_narrow ⊥ ⊥ ⊥ ⊥ (λ a. IsIn a left.attributes ⊎ IsIn a right.attributes)
    (λ a. (IsIn a left.certain ⊎ IsIn a right.certain) ⊎ (IsIn a left.attributes × IsIn a right.attributes)) _ c.narrow.result c.narrow.ensures no_causes
    c.in_ok-attributes.ensures
    (lists_along _ (λ a. (IsIn a left.certain ⊎ IsIn a right.certain) ⊎ (IsIn a left.attributes × IsIn a right.attributes)) (λ a. (
      (λ h. elim h [ inl k ↦ inl ((c.in_ok-either.ensures.exact a).0 k) | inr k ↦ inr ((c.in_ok-common.ensures.exact a).0 k) ]),
      (λ h. elim h [ inl k ↦ inl ((c.in_ok-either.ensures.exact a).1 k) | inr k ↦ inr ((c.in_ok-common.ensures.exact a).1 k) ]),
    )) c.in_ok-certain.certain c.in_ok-certain.ensures)
