use Rattle.std.proofs.Common.{◌≡◌, ◌≢◌, ◌∙◌, ◌⊎◌, List, [], sym, ap, subst, inl, inr}
use Rattle.std.specs.Prelude.{Any}
use Rattle.std.proofs.lemmas.Bool.{false≢true}
use Rattle.members_dm.specs.Elements.{Repeats}
use Rattle.members_dm.specs.Membership.{IsIn}
use Rattle.schema_dm.specs.Naming.{Name, column_names}
use Rattle.algebra_dm.specs.Certain.{IsCertainColumn}
use Rattle.algebra_dm.proofs.RisingLemmas.{lists_along, lists_items}
use Rattle.algebra_dm.proofs.ToldLemmas.{no_causes, own_list, told_narrow}
use Rattle.algebra_dm.proofs.operators.united.Goals as goal

pub returns-then-not-same : goal.returns-then-not-same
returns-then-not-same c = ((λ e. false≢true (sym c.if-not-same.true ∙ c.same.ensures.1 e)), (λ h. h), (λ h. h), (λ h. h))

pub returns : goal.returns
returns c =
    let left = c.args.left in
    let right = c.args.right in
    told_narrow ⊥ ⊥ ⊥ (left.attributes ≢ right.attributes) (λ a. IsIn a left.attributes) (λ a. IsIn a left.certain × IsIn a right.certain) _ c.narrow.result c.narrow.ensures
    (record { nothing = λ h. h; lacks = λ h. h; takes = λ h. h; unlike = λ n. n (c.same.ensures.0 c.if-not-same.false) }) (own_list left.attributes c.requires.0) c.in_ok-certain.ensures
