use Rattle.std.proofs.Common.{◌≡◌, ◌≢◌, ◌<◌, ◌↔◌, ℕ, List, Contains, slice_index, subst, sym}
use Rattle.std.proofs.lemmas.Result.{IfOk-weaker}
use Rattle.solutions_dm.specs.declared.row_pair.RowPair.{RowPair}
use Rattle.solutions_dm.specs.Columns.{number_at}
use Rattle.solutions_dm.specs.Marks.{AreMarked}
use Rattle.solutions_dm.specs.Table.{HasRow}
use Rattle.solutions_dm.proofs.MarkLemmas.{unmatched_rows}
use Rattle.solutions_dm.proofs.marks.unmatched.Goals as goal

pub returns : goal.returns
returns c =
    let n = c.args.left.now.rows in
    let marked : AreMarked c.args.pairs.now n c.as_slice-2.result.now =
    subst (λ (mask : List ℕ). AreMarked c.args.pairs.now n mask) (sym c.as_slice-2.ensures.value)
    (subst (λ (n : ℕ). AreMarked c.args.pairs.now n c.in_ok-mask.mask.items) c.len.ensures
    (subst (λ (ps : List RowPair). AreMarked ps c.len.result c.in_ok-mask.mask.items) c.as_slice.ensures c.in_ok-mask.ensures)) in
    IfOk-weaker c.keep.result
    (λ s. (m : List ℕ → ℕ) → HasRow s m ↔ ((i : ℕ) × (i < n) × (slice_index c.as_slice-2.result.now i ≢ 0) × ((x : List ℕ) → m x ≡ number_at c.args.left.now.columns i x)))
    (λ s. (m : List ℕ → ℕ) → HasRow s m ↔ ((i : ℕ) × (i < n) × ((p : RowPair) → Contains c.args.pairs.now p → p.left ≢ i) × ((x : List ℕ) → m x ≡ number_at c.args.left.now.columns i x)))
    (λ s h m. unmatched_rows c.args.left.now s c.args.pairs.now c.as_slice-2.result.now marked m (h m)) c.keep.ensures
