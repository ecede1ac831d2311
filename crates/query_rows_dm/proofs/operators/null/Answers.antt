use Rattle.std.proofs.Common.{◌≡◌, ◌++◌, ◌∷◌, [], List, ap, ◌∙◌}
use Rattle.names_dm.specs.Variables.{variable_of}
use Rattle.solutions_dm.specs.declared.columns.Column.{Column}
use Rattle.query_rows_dm.proofs.StepLemmas.{null_row}
use Rattle.query_rows_dm.proofs.operators.null.Goals as goal

pub returns : goal.returns
returns c =
    let v = variable_of c.args.name.now in
    let attributes : c.push.new.self ≡ v ∷ [] = c.in_ok-push.ensures.ok ∙ (λ i. c.new-attributes.ensures i ++ (c.in_ok-copy.ensures ∙ c.in_ok-var.ensures.text) i ∷ []) in
    let numbers : c.push-2.new.self ≡ 1 ∷ [] = c.in_ok-push-2.ensures.ok ∙ (λ i. c.new-numbers.ensures i ++ 1 ∷ []) in
    let columns : c.push-3.new.self ≡ record { name = v; numbers = 1 ∷ [] } ∷ [] = c.in_ok-push-3.ensures.ok ∙ (λ i. c.new-columns.ensures i ++ record { name = c.in_ok-var.ensures.text i; numbers = numbers i } ∷ []) in
    null_row c.args.name.now c.push.new.self c.of_columns.result c.in_ok-var.ensures.owned attributes (c.of_columns.ensures ∙ ap (λ (cs : List Column). record { columns = cs; rows = 1 }) columns)
