use Rattle.std.proofs.Common.{◌≡◌, ◌∙◌, ◌-◌, List, ℕ, ap, drop, length, sym, take}
use Rattle.std.proofs.lemmas.Result.{IfOk-weaker}
use Rattle.solutions_dm.proofs.ColumnLemmas.{opened}
use Rattle.pattern_dm.specs.declared.pattern.Condition.{Condition}
use Rattle.keeping_dm.specs.Guards.{and_same_cells, are_same_cells}
use Rattle.pattern_parts_dm.proofs.TextLemmas.{first_named, rest_named}
use Rattle.pattern_parts_dm.proofs.differences.are_same_cells.Goals as goal

pub is_same_cell-requires : goal.is_same_cell-requires
is_same_cell-requires c = first_named c.args.names.now c.first-item.result c.in-len1-up.len_at_least c.first-item.is c.requires

pub and_same_cells-requires : goal.and_same_cells-requires
and_same_cells-requires c = rest_named c.args.names.now c.first-item.result c.in-len1-up.len_at_least c.first-item.is c.requires

pub returns-in_ok-same-in-len1-up : goal.returns-in_ok-same-in-len1-up
returns-in_ok-same-in-len1-up c =
    let names = c.args.names.now in
    let rest : List (List ℕ) = take (length names - 1) (drop 1 names) in
    IfOk-weaker c.and_same_cells.result (λ (f : Condition). f ≡ and_same_cells c.in_ok-same-in-len1-up.same rest) (λ (f : Condition). f ≡ are_same_cells names)
    (λ f e. e ∙ ap (λ (g : Condition). and_same_cells g rest) c.in_ok-same-in-len1-up.ensures ∙ sym (ap are_same_cells (opened c.first-item.result names c.in-len1-up.len_at_least c.first-item.is)))
    c.and_same_cells.ensures
