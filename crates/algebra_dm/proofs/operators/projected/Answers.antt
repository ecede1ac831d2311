use Rattle.std.proofs.Common.{◌≡◌, ◌≢◌, ◌∙◌, ◌⊎◌, List, [], length, sym, ap, subst, inl, inr}
use Rattle.std.specs.Prelude.{Any}
use Rattle.std.proofs.lemmas.Bool.{false≢true}
use Rattle.members_dm.specs.Elements.{Repeats}
use Rattle.members_dm.specs.Membership.{IsIn}
use Rattle.schema_dm.specs.Naming.{Name, column_names}
use Rattle.algebra_dm.specs.Certain.{IsCertainColumn}
use Rattle.algebra_dm.proofs.RisingLemmas.{lists_along, lists_items}
use Rattle.algebra_dm.proofs.ToldLemmas.{no_causes, own_list, told_narrow}
use Rattle.algebra_dm.proofs.operators.projected.Goals as goal

pub returns : goal.returns
returns c =
    let names = c.args.names.now in
    let part = c.args.part in
    told_narrow (names ≡ []) (Any (λ a. ¬ IsIn a part.attributes) names) (Repeats names) ⊥ (λ a. IsIn a names) (λ a. IsIn a part.certain × IsIn a names) _ c.narrow.result c.narrow.ensures
    (record {
      nothing = λ e. c.if-len-eq0.false (c.len.ensures ∙ ap (λ (ns : List Name). length ns) e);
      lacks = λ h. false≢true (sym c.if-branch.false ∙ c.in_ok-lacks_some.ensures.1 h);
      takes = λ h. false≢true (sym c.if-branch-2.false ∙ c.in_ok-repeats.ensures.1 h);
      unlike = λ h. h;
    })
    (rw (c.into_vec.ensures, c.in_ok-copy.ensures) at c.rising-attributes.ensures) c.in_ok-certain.ensures
