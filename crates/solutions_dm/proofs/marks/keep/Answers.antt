use Rattle.std.proofs.Common.{◌≡◌, ◌≢◌, ◌<◌, ◌==◌, ◌↔◌, ℕ, All, List, filter, not, slice_index, ap, subst, sym, ◌∙◌}
use Rattle.std.proofs.lemmas.Result.{IfOk-weaker}
use Rattle.std.proofs.lemmas.List.Sorted.{IsPermutation-refl}
use Rattle.solutions_dm.specs.Columns.{number_at}
use Rattle.solutions_dm.specs.Picks.{IsPicked}
use Rattle.solutions_dm.specs.Table.{HasRow}
use Rattle.members_dm.specs.InOrder.{positions_below}
use Rattle.solutions_dm.proofs.PickLemmas.{sifted_within, kept_rows}
use Rattle.solutions_dm.proofs.marks.keep.Goals as goal

pub picked-requires : goal.picked-requires
picked-requires c =
    let n = c.args.rows.now.rows in
    subst (λ (ps : List ℕ). All (λ i. i < n) ps) (sym (c.as_slice.ensures.value ∙ c.in_ok-places.ensures ∙ ap (λ n. filter (λ (i : ℕ). not (slice_index c.args.mask.now i == 0)) (positions_below n)) c.requires))
    (sifted_within n (positions_below n) (IsPermutation-refl (positions_below n)) (λ (i : ℕ). not (slice_index c.args.mask.now i == 0)))

pub returns : goal.returns
returns c = IfOk-weaker c.picked.result (λ s. IsPicked c.args.rows.now c.as_slice.result.now s)
    (λ s. (m : List ℕ → ℕ) → HasRow s m ↔ ((i : ℕ) × (i < c.args.rows.now.rows) × (slice_index c.args.mask.now i ≢ 0) × ((x : List ℕ) → m x ≡ number_at c.args.rows.now.columns i x)))
    (λ s h m. kept_rows c.args.rows.now s c.args.mask.now c.as_slice.result.now (IsPermutation-refl (positions_below c.args.rows.now.rows))
    (c.as_slice.ensures.value ∙ c.in_ok-places.ensures ∙ ap (λ n. filter (λ (i : ℕ). not (slice_index c.args.mask.now i == 0)) (positions_below n)) c.requires) h m)
    c.picked.ensures
