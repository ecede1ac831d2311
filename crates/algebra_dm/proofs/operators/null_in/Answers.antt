use Rattle.std.proofs.Common.{◌≡◌, ◌≢◌, ◌∙◌, ◌⊎◌, List, [], sym, ap, subst, inl, inr}
use Rattle.std.specs.Prelude.{Any}
use Rattle.std.proofs.lemmas.Bool.{false≢true}
use Rattle.members_dm.specs.Elements.{Repeats}
use Rattle.members_dm.specs.Membership.{IsIn}
use Rattle.schema_dm.specs.Naming.{Name, column_names}
use Rattle.algebra_dm.specs.Certain.{IsCertainColumn}
use Rattle.algebra_dm.proofs.RisingLemmas.{lists_along, lists_items}
use Rattle.algebra_dm.proofs.ToldLemmas.{no_causes, own_list, told_narrow}
use Rattle.algebra_dm.proofs.operators.null_in.Goals as goal

pub returns-then-not-has : goal.returns-then-not-has
returns-then-not-has c = ((λ h. false≢true (sym c.if-not-has.true ∙ c.has.ensures.1 h)), (λ h. h))

pub returns : goal.returns
returns c =
    let name = c.args.name.now in
    let part = c.args.part in
    told_narrow ⊥ (¬ IsIn name part.attributes) ⊥ ⊥ (λ a. IsIn a part.attributes) (λ a. IsIn a part.certain) part c.narrow.result c.narrow.ensures
    (record { nothing = λ h. h; lacks = λ n. n (c.has.ensures.0 c.if-not-has.false); takes = λ h. h; unlike = λ h. h }) (own_list part.attributes c.requires.0) (own_list part.certain c.requires.1)
