use Rattle.std.proofs.Common.{◌≡◌, ◌∙◌, List, ℕ, ap}
use Rattle.std.proofs.lemmas.Result.{IfOk-weaker}
use Rattle.pattern_dm.specs.declared.pattern.Condition.TheVariants as conditions
use Rattle.pattern_dm.specs.declared.pattern.Pattern.{Pattern}
use Rattle.pattern_dm.specs.declared.pattern.Pattern.TheVariants as patterns
use Rattle.keeping_dm.specs.Guards.{marker}
use Rattle.pattern_parts_dm.proofs.differences.unmarked.Goals as goal

pub returns : goal.returns
returns c =
    let lacking : c.into_inner.result ≡ conditions.Not (conditions.Bound marker) = c.into_inner.ensures ∙ c.in_ok-condition.ensures ∙ ap (λ (v : List ℕ). conditions.Not (conditions.Bound v)) c.in_ok-marker.ensures in
    IfOk-weaker c.filter.result (λ (p : Pattern). p ≡ patterns.Filter c.args.part c.into_inner.result) (λ (p : Pattern). p ≡ patterns.Filter c.args.part (conditions.Not (conditions.Bound marker)))
    (λ p e. e ∙ ap (patterns.Filter c.args.part) lacking) c.filter.ensures
