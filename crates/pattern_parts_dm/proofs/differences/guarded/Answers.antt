use Rattle.std.proofs.Common.{◌≡◌, ◌∙◌, ap}
use Rattle.std.proofs.lemmas.Result.{IfOk-weaker}
use Rattle.pattern_dm.specs.declared.pattern.Condition.TheVariants as conditions
use Rattle.pattern_dm.specs.declared.pattern.Pattern.{Pattern}
use Rattle.pattern_dm.specs.declared.pattern.Pattern.TheVariants as patterns
use Rattle.keeping_dm.specs.Guards.{guarded, marker, same_names}
use Rattle.pattern_parts_dm.proofs.differences.guarded.Goals as goal

pub returns : goal.returns
returns c =
    let names = c.args.names.now in
    IfOk-weaker c.projected.result (λ (p : Pattern). p ≡ patterns.Select c.in_ok-left_over.left_over (same_names names)) (λ (p : Pattern). p ≡ guarded names c.args.class.now c.args.left c.args.right)
    (λ p e. e ∙ ap (λ (q : Pattern). patterns.Select q (same_names names)) (c.in_ok-left_over.ensures ∙ ap (λ (q : Pattern). patterns.Filter q (conditions.Not (conditions.Bound marker))) c.in_ok-tried.ensures)) c.projected.ensures
