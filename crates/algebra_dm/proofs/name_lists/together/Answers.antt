use Rattle.std.proofs.Common.{◌≡◌, ◌∙◌, ◌⊎◌, ◌↔◌, List, ◌++◌, ap, subst, sym}
use Rattle.std.proofs.lemmas.List.{take_all}
use Rattle.members_dm.specs.Membership.{IsIn}
use Rattle.schema_dm.specs.Naming.{Name}
use Rattle.algebra_dm.proofs.RisingLemmas.{append_iff, lists_items}
use Rattle.algebra_dm.proofs.name_lists.together.Goals as goal

pub returns : goal.returns
returns c =
    let names = c.args.names.now in
    let more = c.args.more.now in
    let all : c.loop-name.all.items ≡ names ++ more =
    c.loop-name.invariant ∙ ap (λ (xs : List Name). names ++ xs) (take_all c.loop-name.name-index c.as_slice-name-items.result.now c.loop-name-test.false ∙ c.as_slice-name-items.ensures) in
    lists_items (λ a. IsIn a names ⊎ IsIn a more) c.loop-name.all.items c.rising.result
    (λ a. subst (λ (xs : List Name). IsIn a xs ↔ (IsIn a names ⊎ IsIn a more)) (sym all) (append_iff names more a)) c.rising.ensures
