use Rattle.std.proofs.Common.{◌≡◌, ◌∙◌}
use Rattle.std.proofs.lemmas.Result.{IfOk-weaker}
use Rattle.pattern_dm.specs.declared.pattern.Pattern.{Pattern}
use Rattle.table_patterns_dm.specs.TablePatterns.{key_triple, value_triple}
use Rattle.table_translation_dm.proofs.relations.key_triple.Goals as goal

pub returns : goal.returns
returns c =
    let base = c.args.base.now in
    let node = c.args.node in
    let attribute = c.args.attribute.now in
    IfOk-weaker c.value_triple.result (λ (p : Pattern). p ≡ value_triple base node c.table_at-target.result.now.name c.in_ok-column.column attribute)
    (λ (p : Pattern). p ≡ key_triple base node c.args.tables.now c.args.key.now attribute)
    (λ p e. e ∙ (λ i. value_triple base node (c.table_at-target.ensures i).name (c.in_ok-column.ensures i) attribute)) c.value_triple.ensures
