use Rattle.std.proofs.Common.{◌≡◌, ◌≢◌, ◌∙◌, ◌⊎◌, List, [], sym, ap, subst, inl, inr}
use Rattle.std.specs.Prelude.{Any}
use Rattle.std.proofs.lemmas.Bool.{false≢true}
use Rattle.members_dm.specs.Elements.{Repeats}
use Rattle.members_dm.specs.Membership.{IsIn}
use Rattle.schema_dm.specs.Naming.{Name, column_names}
use Rattle.algebra_dm.specs.Certain.{IsCertainColumn}
use Rattle.algebra_dm.proofs.RisingLemmas.{lists_along, lists_items}
use Rattle.algebra_dm.proofs.ToldLemmas.{no_causes, own_list, told_narrow}
use Rattle.algebra_dm.proofs.operators.with_new_name.Goals as goal

pub returns-then-not-has : goal.returns-then-not-has
returns-then-not-has c = ((λ h. false≢true (sym c.if-not-has.true ∙ c.has.ensures.1 h)), (λ h. h))

pub returns : goal.returns
returns c =
    let from = c.args.from.now in
    let to = c.args.to.now in
    let part = c.args.part in
    let there = c.has.ensures.0 c.if-not-has.false in
    told_narrow ⊥ (¬ IsIn from part.attributes) (IsIn to part.attributes) ⊥ (λ a. (to ≡ a) ⊎ (IsIn a part.attributes × (from ≢ a) × (to ≢ a)))
    (λ a. ((to ≡ a) × IsIn from part.certain) ⊎ (IsIn a part.certain × (from ≢ a) × (to ≢ a))) _ c.narrow.result c.narrow.ensures
    (record { nothing = λ h. h; lacks = λ n. n there; takes = λ h. false≢true (sym c.if-has.false ∙ c.has-2.ensures.1 h); unlike = λ h. h })
    (lists_along _ (λ a. (to ≡ a) ⊎ (IsIn a part.attributes × (from ≢ a) × (to ≢ a))) (λ a. (
      (λ h. elim h [ inl k ↦ inl k.0 | inr k ↦ inr k ]),
      (λ h. elim h [ inl e ↦ inl (e, there) | inr k ↦ inr k ]),
    )) c.in_ok-attributes.attributes c.in_ok-attributes.ensures)
    c.in_ok-certain.ensures
