use Rattle.std.proofs.lemmas.Result.{IfOk-weaker}
use Rattle.std.proofs.Common.{List}
use Rattle.members_dm.specs.Membership.{IsIn}
use Rattle.schema_dm.specs.Naming.{Name}
use Rattle.algebra_dm.specs.Attributes.{HasAttribute, Lists}
use Rattle.algebra_dm.proofs.RisingLemmas.{lists_along}
use Rattle.translate_dm.proofs.operators.common_names.Goals as goal

pub returns : goal.returns
returns c =
    let tables = c.args.context.now.schema.now in
    let left = c.in_ok-left.left.attributes in
    let right = c.in_ok-right.right.attributes in
    IfOk-weaker c.shared.result (λ (ns : List Name). Lists (λ a. IsIn a left × IsIn a right) ns) (λ (ns : List Name). Lists (λ a. HasAttribute tables c.args.left.now a × HasAttribute tables c.args.right.now a) ns)
    (λ ns h. lists_along (λ a. IsIn a left × IsIn a right) (λ a. HasAttribute tables c.args.left.now a × HasAttribute tables c.args.right.now a)
    (λ a. (
      (λ i. ((c.in_ok-left.ensures.attributes.exact a).0 i.0, (c.in_ok-right.ensures.attributes.exact a).0 i.1)),
      (λ i. ((c.in_ok-left.ensures.attributes.exact a).1 i.0, (c.in_ok-right.ensures.attributes.exact a).1 i.1)),
    )) ns h)
    c.shared.ensures
