use Rattle.std.proofs.Common.{◌≡◌, ◌∙◌, sym, inl, inr}
use Rattle.std.proofs.lemmas.Bool.{false≢true}
use Rattle.std.proofs.lemmas.Result.{IfOk-weaker}
use Rattle.pattern_dm.specs.declared.pattern.Pattern.{Pattern}
use Rattle.pattern_dm.specs.declared.pattern.Pattern.TheVariants as patterns
use Rattle.translate_dm.specs.Steps.{IsGuarded}
use Rattle.translate_dm.specs.Translation.{IsDifference}
use Rattle.translate_dm.proofs.operators.subtracted.Goals as goal

pub returns-then-are_certain : goal.returns-then-are_certain
returns-then-are_certain c =
    let at = c.args.context.now in
    let left = c.args.left in
    let right = c.args.right in
    IfOk-weaker c.minus.result (λ (p : Pattern). p ≡ patterns.Minus left right) (IsDifference at.mode at.base.now at.schema.now c.args.left_query.now c.args.right_query.now left right)
    (λ p e. inl (c.in_ok-are_certain.ensures.0 c.if-are_certain.true, e)) c.minus.ensures

pub returns : goal.returns
returns c =
    let at = c.args.context.now in
    let left = c.args.left in
    let right = c.args.right in
    IfOk-weaker c.guarded.result (IsGuarded at.schema.now c.args.left_query.now at.class.now left right) (IsDifference at.mode at.base.now at.schema.now c.args.left_query.now c.args.right_query.now left right)
    (λ p k. inr ((λ all. false≢true (sym c.if-are_certain.false ∙ c.in_ok-are_certain.ensures.1 all)), (k.0, at.class.now, k.1, c.requires.ready.marker, k.2))) c.guarded.ensures
