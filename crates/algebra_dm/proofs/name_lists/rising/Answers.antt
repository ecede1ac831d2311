use Rattle.std.proofs.Common.{◌∙◌, List, subst, sym}
use Rattle.std.proofs.lemmas.List.Filters.{dedup_is}
use Rattle.members_dm.specs.Membership.{IsIn}
use Rattle.schema_dm.specs.Naming.{Name, same_name}
use Rattle.algebra_dm.specs.Attributes.{Lists}
use Rattle.algebra_dm.proofs.RisingLemmas.{lists_sorted}
use Rattle.algebra_dm.proofs.name_lists.rising.Goals as goal

pub returns : goal.returns
returns c =
    let xs = c.args.names.items in
    let ys = c.sort_unstable.new.self.items in
    subst (λ (zs : List Name). Lists (λ a. IsIn a xs) zs) (sym (c.from_vec.ensures ∙ dedup_is same_name ys _ c.dedup.ensures.filtered))
    (lists_sorted xs ys c.sort_unstable.ensures.permutation c.sort_unstable.ensures.sorted)
