use Rattle.std.proofs.Common.{◌<◌, ◌↔◌, ℕ, All, List, not, subst, sym, ◌∙◌}
use Rattle.std.specs.List.{list_any}
use Rattle.std.proofs.lemmas.Result.{IfOk-weaker}
use Rattle.solutions_dm.specs.declared.keys.Keyed.{Keyed}
use Rattle.solutions_dm.specs.Keys.{rows_of}
use Rattle.solutions_dm.specs.Differences.{IsLeft, blocks, unblocked}
use Rattle.solutions_dm.specs.Picks.{IsPicked}
use Rattle.solutions_dm.specs.Table.{HasRow}
use Rattle.solutions_dm.proofs.PickLemmas.{sifted_within, minus_rows}
use Rattle.solutions_dm.proofs.differences.minus.Goals as goal

pub picked-requires : goal.picked-requires
picked-requires c =
    let left = c.args.left.now in
    let right = c.args.right.now in
    let places : List Keyed → List Keyed → List ℕ = λ l r. unblocked left.columns right.columns (rows_of l) (rows_of r) in
    let rights = rows_of c.in_ok-right_rows.right_rows.items in
    subst (λ (ps : List ℕ). All (λ i. i < left.rows) ps) (sym (c.as_slice-6.ensures.value ∙ c.in_ok-kept.ensures ∙ (λ q. places (c.as_slice-4.ensures.value q) (c.as_slice-5.ensures.value q))))
    (sifted_within left.rows (rows_of c.in_ok-left_rows.left_rows.items) c.in_ok-left_rows.ensures.permuted (λ (i : ℕ). not (list_any (λ j. blocks left.columns i right.columns j) rights)))

pub returns : goal.returns
returns c =
    let left = c.args.left.now in
    let right = c.args.right.now in
    let places : List Keyed → List Keyed → List ℕ = λ l r. unblocked left.columns right.columns (rows_of l) (rows_of r) in
    IfOk-weaker c.picked.result (λ s. IsPicked left c.as_slice-6.result.now s) (λ s. (m : List ℕ → ℕ) → HasRow s m ↔ (HasRow left m × IsLeft right m))
    (λ s h m. minus_rows left right s (rows_of c.in_ok-left_rows.left_rows.items) (rows_of c.in_ok-right_rows.right_rows.items) c.as_slice-6.result.now
    c.in_ok-left_rows.ensures.permuted c.in_ok-right_rows.ensures.permuted c.in_ok-names.ensures.apart
    (c.as_slice-6.ensures.value ∙ c.in_ok-kept.ensures ∙ (λ q. places (c.as_slice-4.ensures.value q) (c.as_slice-5.ensures.value q))) h m)
    c.picked.ensures
