use Rattle.std.proofs.Common.{◌≡◌, ◌∙◌}
use Rattle.std.proofs.lemmas.Result.{IfOk-weaker}
use Rattle.pattern_dm.specs.declared.pattern.Pattern.{Pattern}
use Rattle.pattern_dm.specs.declared.pattern.Pattern.TheVariants as patterns
use Rattle.table_patterns_dm.specs.TablePatterns.{key_triple, row_variable}
use Rattle.table_translation_dm.proofs.relations.with_left.Goals as goal

pub returns : goal.returns
returns c =
    let tables = c.args.tables.now in
    let key = c.args.key.now in
    let attribute = c.args.attribute.now in
    IfOk-weaker c.both.result (λ (p : Pattern). p ≡ patterns.And c.args.link c.in_ok-left.left) (λ (p : Pattern). p ≡ patterns.And c.args.link (key_triple c.args.base.now row_variable tables key attribute))
    (λ p e. e ∙ (λ i. patterns.And c.args.link ((c.in_ok-left.ensures ∙ (λ j. key_triple c.args.base.now (c.in_ok-row.ensures j) tables key attribute)) i))) c.both.ensures
