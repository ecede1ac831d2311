use Rattle.std.proofs.Common.{◌≡◌, ◌∙◌}
use Rattle.std.proofs.lemmas.Result.{IfOk-weaker}
use Rattle.pattern_dm.specs.declared.pattern.Pattern.{Pattern}
use Rattle.pattern_dm.specs.declared.pattern.Pattern.TheVariants as patterns
use Rattle.keeping_dm.specs.Guards.{joined}
use Rattle.pattern_parts_dm.proofs.joins.joined.Goals as goal

pub returns : goal.returns
returns c =
    IfOk-weaker c.both.result (λ (p : Pattern). p ≡ patterns.And c.in_ok-left.left c.in_ok-right.right) (λ (p : Pattern). p ≡ joined c.args.common.now c.args.left c.args.right)
    (λ p e. e ∙ (λ i. patterns.And (c.in_ok-left.ensures i) (c.in_ok-right.ensures i))) c.both.ensures
