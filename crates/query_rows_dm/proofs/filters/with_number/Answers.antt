use Rattle.std.proofs.Common.{◌≡◌, ◌≢◌, ◌<◌, ◌↔◌, ℕ, List, slice_index, subst, sym}
use Rattle.std.proofs.lemmas.Result.{IfOk-weaker}
use Rattle.solutions_dm.specs.Columns.{number_at}
use Rattle.solutions_dm.specs.Table.{Table, HasRow}
use Rattle.query_rows_dm.specs.Operators.{Marks}
use Rattle.query_rows_dm.proofs.FilterLemmas.{kept_rows}
use Rattle.query_rows_dm.proofs.filters.with_number.Goals as goal

pub returns : goal.returns
returns c =
    let rows = c.args.rows.now in
    let x = c.args.var.now in
    let mask = c.as_slice.result.now in
    IfOk-weaker c.keep.result (λ (s : Table). (m : List ℕ → ℕ) → HasRow s m ↔ ((i : ℕ) × (i < rows.rows) × (slice_index mask i ≢ 0) × ((y : List ℕ) → m y ≡ number_at rows.columns i y)))
    (λ (s : Table). (m : List ℕ → ℕ) → HasRow s m ↔ (HasRow rows m × (m x ≡ c.args.id)))
    (λ s h. kept_rows rows s x (λ n. n ≡ c.args.id) mask (subst (Marks rows.rows (λ i. number_at rows.columns i x ≡ c.args.id)) (sym c.as_slice.ensures.value) c.in_ok-mask.ensures) h)
    c.keep.ensures
