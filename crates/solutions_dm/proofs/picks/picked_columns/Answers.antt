use Rattle.std.proofs.Common.{◌≡◌, ℕ, All, List, length, ap, subst, sym, arith}
use Rattle.solutions_dm.specs.declared.columns.Column.{Column}
use Rattle.solutions_dm.specs.Table.{Table}
use Rattle.solutions_dm.proofs.PickLemmas.{column_filled}
use Rattle.solutions_dm.proofs.picks.picked_columns.Goals as goal

pub picked_numbers-requires : goal.picked_numbers-requires
picked_numbers-requires c = λ k d l.
    let n = c.rows.inside.rows in
    let filled : All (λ (x : Column). length x.numbers ≡ n) c.as_slice-column-items.result.now =
    subst (λ (xs : List Column). All (λ (x : Column). length x.numbers ≡ n) xs) (sym c.as_slice-column-items.ensures) (column_filled c.rows.inside.columns n c.rows.invariant.filled) in
    let long : length c.column-item.result.numbers ≡ n =
    subst (λ (x : Column). length x.numbers ≡ n) (sym c.column-item.is) (filled c.loop-column.column-index c.column-item.result (omega arith)) in
    let same : length c.as_slice.result.now ≡ length c.column-item.result.numbers = ap (λ (xs : List ℕ). length xs) c.as_slice.ensures in
    let rows : n ≡ c.args.rows.now.rows = ap (λ (t : Table). t.rows) c.rows.view_is in
    omega (arith, c.requires k d l, long, same, rows)
