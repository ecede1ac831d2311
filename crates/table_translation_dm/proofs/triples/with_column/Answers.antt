use Rattle.std.proofs.Common.{◌≡◌, ◌∙◌, ap}
use Rattle.std.proofs.lemmas.Result.{IfOk-weaker}
use Rattle.pattern_dm.specs.declared.pattern.Pattern.{Pattern}
use Rattle.pattern_dm.specs.declared.pattern.Pattern.TheVariants as patterns
use Rattle.table_patterns_dm.specs.TablePatterns.{column_triple}
use Rattle.table_translation_dm.proofs.triples.with_column.Goals as goal

pub returns : goal.returns
returns c =
    IfOk-weaker c.both.result (λ (p : Pattern). p ≡ patterns.And c.args.all c.in_ok-triple.triple) (λ (p : Pattern). p ≡ patterns.And c.args.all (column_triple c.args.base.now c.args.table.now c.args.column.now))
    (λ p e. e ∙ ap (λ (q : Pattern). patterns.And c.args.all q) c.in_ok-triple.ensures) c.both.ensures
