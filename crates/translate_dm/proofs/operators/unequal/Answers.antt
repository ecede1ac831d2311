use Rattle.std.proofs.Common.{◌≡◌, ◌∙◌, ap}
use Rattle.std.proofs.lemmas.Result.{IfOk-weaker}
use Rattle.value_dm.specs.Lawful.{IsLawful}
use Rattle.pattern_dm.specs.declared.pattern.Condition.{Condition}
use Rattle.pattern_dm.specs.declared.pattern.Pattern.{Pattern}
use Rattle.pattern_dm.specs.declared.pattern.Pattern.TheVariants as patterns
use Rattle.keeping_dm.specs.Guards.{is_other_value}
use Rattle.translate_dm.proofs.operators.unequal.Goals as goal

pub returns : goal.returns
returns c =
    let part = c.args.part in
    IfOk-weaker c.filter.result (λ (p : Pattern). p ≡ patterns.Filter part c.in_ok-condition.condition)
    (λ (p : Pattern). (p ≡ patterns.Filter part (is_other_value c.args.name.now c.args.value.now)) × IsLawful c.args.value.now)
    (λ p e. (e ∙ ap (λ (f : Condition). patterns.Filter part f) c.in_ok-condition.ensures.made, c.in_ok-condition.ensures.lawful)) c.filter.ensures
