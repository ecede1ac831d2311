use Rattle.std.proofs.Common.{◌≡◌, ◌∙◌, List, ℕ, ap}
use Rattle.std.proofs.lemmas.Result.{IfOk-weaker}
use Rattle.pattern_dm.specs.declared.pattern.Pattern.{Pattern}
use Rattle.table_patterns_dm.specs.TablePatterns.{column_triple, value_triple}
use Rattle.table_translation_dm.proofs.triples.column_triple.Goals as goal

pub returns : goal.returns
returns c =
    let base = c.args.base.now in
    let table = c.args.table.now in
    let column = c.args.column.now in
    IfOk-weaker c.value_triple.result (λ (p : Pattern). p ≡ value_triple base c.in_ok-row.row table column column) (λ (p : Pattern). p ≡ column_triple base table column)
    (λ p e. e ∙ ap (λ (v : List ℕ). value_triple base v table column column) c.in_ok-row.ensures) c.value_triple.ensures
