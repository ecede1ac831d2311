use Rattle.std.proofs.Common.{◌≡◌, ◌∙◌}
use Rattle.std.proofs.lemmas.Result.{IfOk-weaker}
use Rattle.pattern_dm.specs.declared.pattern.Pattern.{Pattern}
use Rattle.pattern_dm.specs.declared.pattern.Pattern.TheVariants as patterns
use Rattle.table_patterns_dm.specs.TablePatterns.{key_triple, second_variable}
use Rattle.table_translation_dm.proofs.relations.with_right.Goals as goal

pub returns : goal.returns
returns c =
    let tables = c.args.tables.now in
    let key = c.args.key.now in
    let attribute = c.args.attribute.now in
    IfOk-weaker c.both.result (λ (p : Pattern). p ≡ patterns.And c.args.pair c.in_ok-right.right) (λ (p : Pattern). p ≡ patterns.And c.args.pair (key_triple c.args.base.now second_variable tables key attribute))
    (λ p e. e ∙ (λ i. patterns.And c.args.pair ((c.in_ok-right.ensures ∙ (λ j. key_triple c.args.base.now (c.in_ok-second.ensures j) tables key attribute)) i))) c.both.ensures
