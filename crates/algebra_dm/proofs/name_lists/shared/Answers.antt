use Rattle.members_dm.specs.Membership.{IsIn}
use Rattle.algebra_dm.proofs.RisingLemmas.{lists_items}
use Rattle.algebra_dm.proofs.name_lists.shared.Goals as goal

pub returns : goal.returns
returns c = lists_items (λ a. IsIn a c.args.names.now × IsIn a c.args.others.now) _ _ (rw (c.in_ok-index.ensures, c.as_slice.ensures) at c.in_ok-kept.ensures) c.rising.ensures
