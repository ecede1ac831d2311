use Rattle.std.proofs.Common.{◌≡◌, ℕ, List, length, subst, ◌∙◌}
use Rattle.std.proofs.lemmas.Result.{IfOk-weaker}
use Rattle.solutions_dm.specs.declared.keys.Keyed.{Keyed}
use Rattle.solutions_dm.specs.Keys.{IsKeyed, key_at}
use Rattle.solutions_dm.specs.Picks.{IsPicked}
use Rattle.solutions_dm.specs.Columns.{names_of}
use Rattle.solutions_dm.specs.Repeats.{IsDistinct, AreOfEach}
use Rattle.solutions_dm.proofs.RepeatLemmas.{distinct_rows}
use Rattle.solutions_dm.proofs.repeats.distinct.Goals as goal

pub returns : goal.returns
returns c =
    let rows = c.args.rows.now in
    let ks = c.in_ok-keyed.keyed.items in
    let kept = c.in_ok-kept.kept.items in
    let names : c.as_slice.result.now ≡ names_of rows.columns = c.as_slice.ensures ∙ c.in_ok-names.ensures.names in
    let other : c.as_slice-2.result.now ≡ names_of rows.columns = c.as_slice-2.ensures ∙ c.in_ok-names.ensures.names in
    let keyed : IsKeyed (key_at rows.columns (names_of rows.columns)) rows.rows ks = subst (λ (ns : List (List ℕ)). IsKeyed (key_at rows.columns ns) rows.rows ks) names c.in_ok-keyed.ensures in
    let each : AreOfEach (key_at rows.columns (names_of rows.columns)) rows.rows ks (length ks) kept =
    subst (λ (l : List Keyed). AreOfEach (key_at rows.columns (names_of rows.columns)) rows.rows l (length l) kept) c.as_slice-3.ensures.value
    (subst (λ (ns : List (List ℕ)). AreOfEach (key_at rows.columns ns) rows.rows c.as_slice-3.result.now (length c.as_slice-3.result.now) kept) other c.in_ok-kept.ensures) in
    IfOk-weaker c.picked.result (λ s. IsPicked rows c.as_slice-4.result.now s) (λ s. IsDistinct rows s)
    (λ s h. distinct_rows rows s ks kept keyed each (subst (λ ps. IsPicked rows ps s) c.as_slice-4.ensures.value h)) c.picked.ensures
