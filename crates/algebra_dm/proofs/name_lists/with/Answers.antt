use Rattle.std.proofs.Common.{◌≡◌, ◌∙◌, ◌⊎◌, ◌↔◌, List, [], ◌∷◌, ◌++◌, subst, sym}
use Rattle.members_dm.specs.Membership.{IsIn}
use Rattle.schema_dm.specs.Naming.{Name}
use Rattle.algebra_dm.proofs.RisingLemmas.{lists_items, push_iff}
use Rattle.algebra_dm.proofs.name_lists.with.Goals as goal

pub returns : goal.returns
returns c =
    let names = c.args.names.now in
    let name = c.args.name.now in
    let all : c.push.new.self.items ≡ names ++ name ∷ [] = c.in_ok-push.ensures.items ∙ (λ i. (c.into_vec-all.ensures ∙ c.in_ok-copy.ensures) i ++ c.in_ok-copy-2.ensures i ∷ []) in
    lists_items (λ a. IsIn a names ⊎ (name ≡ a)) c.push.new.self.items c.rising.result
    (λ a. subst (λ (xs : List Name). IsIn a xs ↔ (IsIn a names ⊎ (name ≡ a))) (sym all) (push_iff names name a)) c.rising.ensures
