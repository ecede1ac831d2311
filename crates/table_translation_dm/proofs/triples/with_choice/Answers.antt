use Rattle.std.proofs.Common.{◌≡◌, ◌∙◌, ap}
use Rattle.std.proofs.lemmas.Result.{IfOk-weaker}
use Rattle.pattern_dm.specs.declared.pattern.Condition.TheVariants as conditions
use Rattle.pattern_dm.specs.declared.pattern.Pattern.{Pattern}
use Rattle.pattern_dm.specs.declared.pattern.Pattern.TheVariants as patterns
use Rattle.table_patterns_dm.specs.TablePatterns.{column_triple}
use Rattle.table_translation_dm.proofs.triples.with_choice.Goals as goal

pub returns : goal.returns
returns c =
    IfOk-weaker c.left_join.result (λ (p : Pattern). p ≡ patterns.LeftJoin c.args.all c.in_ok-triple.triple conditions.True)
    (λ (p : Pattern). p ≡ patterns.LeftJoin c.args.all (column_triple c.args.base.now c.args.table.now c.args.column.now) conditions.True)
    (λ p e. e ∙ ap (λ (q : Pattern). patterns.LeftJoin c.args.all q conditions.True) c.in_ok-triple.ensures) c.left_join.ensures
