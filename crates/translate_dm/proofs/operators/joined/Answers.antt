use Rattle.std.proofs.Common.{◌≡◌, ◌∙◌, List, [], ap}
use Rattle.std.proofs.lemmas.Result.{IfOk-weaker}
use Rattle.schema_dm.specs.Naming.{Name}
use Rattle.pattern_dm.specs.declared.pattern.Pattern.{Pattern}
use Rattle.keeping_dm.specs.Guards.{joined}
use Rattle.translate_dm.specs.Steps.{IsJoined}
use Rattle.translate_dm.proofs.CertainLemmas.{attribute_named}
use Rattle.translate_dm.proofs.operators.joined.Goals as goal

pub joined-requires : goal.joined-requires
joined-requires c = rw c.as_slice.ensures (λ i. attribute_named c.args.context.now.schema.now c.requires.ready.schema c.args.left_query.now c.requires.left ((c.in_ok-common.ensures.exact []).0 i).0)

pub returns : goal.returns
returns c =
    let left = c.args.left in
    let right = c.args.right in
    let common = c.in_ok-common.common in
    IfOk-weaker c.joined.result (λ (p : Pattern). p ≡ joined c.as_slice.result.now left right) (IsJoined c.args.context.now.schema.now c.args.left_query.now c.args.right_query.now left right)
    (λ p e. (common, c.in_ok-common.ensures, e ∙ ap (λ (ns : List Name). joined ns left right) c.as_slice.ensures)) c.joined.ensures
