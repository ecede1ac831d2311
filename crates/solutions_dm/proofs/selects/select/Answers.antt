use Rattle.std.proofs.Common.{◌≡◌, ◌<◌, ◌↔◌, ℕ, List, map, ap, ◌∙◌, subst, sym}
use Rattle.solutions_dm.specs.declared.columns.Column.{Column}
use Rattle.solutions_dm.specs.Columns.{number_at}
use Rattle.solutions_dm.specs.Selects.{selected, selected_column}
use Rattle.solutions_dm.specs.Table.{Table, IsTable, HasRow}
use Rattle.solutions_dm.proofs.SelectLemmas.{selected_table, selected_rows}
use Rattle.solutions_dm.proofs.selects.select.Goals as goal

pub invariant_of-result : goal.invariant_of-result
invariant_of-result c =
    let t = c.args.rows.now in
    subst (λ (n : ℕ). IsTable (record { columns = c.in_ok-made.made; rows = n })) (sym c.len-count.ensures)
    (subst (λ (cs : List Column). IsTable (record { columns = cs; rows = t.rows })) (sym (c.in_ok-made.ensures ∙ ap (map (selected_column t)) c.as_slice.ensures))
    (selected_table t c.args.columns.now c.requires))

pub returns : goal.returns
returns c = λ m.
    let t = c.args.rows.now in
    let Says : Table → Type 0 = λ s. HasRow s m ↔ ((i : ℕ) × (i < t.rows) × ((x : List ℕ) → m x ≡ selected c.args.columns.now (number_at t.columns i) x)) in
    subst (λ (n : ℕ). Says (record { columns = c.in_ok-made.made; rows = n })) (sym c.len-count.ensures)
    (subst (λ (cs : List Column). Says (record { columns = cs; rows = t.rows })) (sym (c.in_ok-made.ensures ∙ ap (map (selected_column t)) c.as_slice.ensures))
    (selected_rows t c.args.columns.now m))
