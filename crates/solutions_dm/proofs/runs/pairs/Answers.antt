use Rattle.std.proofs.Common.{◌≡◌, ◌≢◌, ◌<◌, All, AllPairs, Contains, ◌↔◌, subst, sym, ◌∙◌, List}
use Rattle.std.proofs.lemmas.Result.{IfOk-weaker}
use Rattle.solutions_dm.specs.declared.keys.Keyed.{Keyed}
use Rattle.solutions_dm.specs.declared.row_pair.RowPair.{RowPair}
use Rattle.solutions_dm.specs.Keys.{rows_of}
use Rattle.solutions_dm.specs.Merge.{AreInRange}
use Rattle.solutions_dm.specs.Pairs.{IsPair, joined}
use Rattle.solutions_dm.proofs.RunLemmas.{exact, once, in_range, lefts_in_range}
use Rattle.solutions_dm.proofs.runs.pairs.Goals as goal

pub returns-clause-exact : goal.returns-clause-exact
returns-clause-exact c =
    let ls = c.in_ok-left_rows.left_rows.items in
    let rs = c.in_ok-right_rows.right_rows.items in
    let the_pairs : List Keyed → List Keyed → List RowPair = λ l r. joined c.args.left.now.columns c.args.right.now.columns (rows_of l) (rows_of r) in
    IfOk-weaker c.merged_runs.result (λ ps. ps ≡ the_pairs c.as_slice-4.result.now c.as_slice-5.result.now)
    (λ ps. (p : RowPair) → Contains ps p ↔ IsPair c.args.left.now c.args.right.now p)
    (λ ps e p. subst (λ (qs : List RowPair). Contains qs p ↔ IsPair c.args.left.now c.args.right.now p)
    (sym (e ∙ (λ i. the_pairs (c.as_slice-4.ensures.value i) (c.as_slice-5.ensures.value i))))
    (exact c.args.left.now c.args.right.now (rows_of ls) (rows_of rs) c.in_ok-left_rows.ensures.permuted c.in_ok-right_rows.ensures.permuted c.in_ok-names.ensures.apart p))
    c.merged_runs.ensures

pub returns-clause-once : goal.returns-clause-once
returns-clause-once c =
    let ls = c.in_ok-left_rows.left_rows.items in
    let rs = c.in_ok-right_rows.right_rows.items in
    let the_pairs : List Keyed → List Keyed → List RowPair = λ l r. joined c.args.left.now.columns c.args.right.now.columns (rows_of l) (rows_of r) in
    IfOk-weaker c.merged_runs.result (λ ps. ps ≡ the_pairs c.as_slice-4.result.now c.as_slice-5.result.now)
    (λ ps. AllPairs {X = RowPair} (λ p q. p ≢ q) ps)
    (λ ps e. subst (λ (qs : List RowPair). AllPairs {X = RowPair} (λ p q. p ≢ q) qs)
    (sym (e ∙ (λ i. the_pairs (c.as_slice-4.ensures.value i) (c.as_slice-5.ensures.value i))))
    (once c.args.left.now c.args.right.now (rows_of ls) (rows_of rs) c.in_ok-left_rows.ensures.permuted c.in_ok-right_rows.ensures.permuted))
    c.merged_runs.ensures

pub returns-clause-left_rows : goal.returns-clause-left_rows
returns-clause-left_rows c =
    let ls = c.in_ok-left_rows.left_rows.items in
    let rs = c.in_ok-right_rows.right_rows.items in
    let the_pairs : List Keyed → List Keyed → List RowPair = λ l r. joined c.args.left.now.columns c.args.right.now.columns (rows_of l) (rows_of r) in
    IfOk-weaker c.merged_runs.result (λ ps. ps ≡ the_pairs c.as_slice-4.result.now c.as_slice-5.result.now)
    (λ (ps : List RowPair). All (λ (p : RowPair). p.left < c.args.left.now.rows) ps)
    (λ ps e. subst (λ (ps : List RowPair). All (λ (p : RowPair). p.left < c.args.left.now.rows) ps)
    (sym (e ∙ (λ i. the_pairs (c.as_slice-4.ensures.value i) (c.as_slice-5.ensures.value i))))
    (lefts_in_range c.args.left.now c.args.right.now (rows_of ls) (rows_of rs) c.in_ok-left_rows.ensures.permuted c.in_ok-right_rows.ensures.permuted))
    c.merged_runs.ensures

pub returns-clause-in_range : goal.returns-clause-in_range
returns-clause-in_range c =
    let ls = c.in_ok-left_rows.left_rows.items in
    let rs = c.in_ok-right_rows.right_rows.items in
    let the_pairs : List Keyed → List Keyed → List RowPair = λ l r. joined c.args.left.now.columns c.args.right.now.columns (rows_of l) (rows_of r) in
    IfOk-weaker c.merged_runs.result (λ ps. ps ≡ the_pairs c.as_slice-4.result.now c.as_slice-5.result.now)
    (λ (ps : List RowPair). AreInRange c.args.left.now c.args.right.now ps)
    (λ ps e. subst (λ (ps : List RowPair). AreInRange c.args.left.now c.args.right.now ps)
    (sym (e ∙ (λ i. the_pairs (c.as_slice-4.ensures.value i) (c.as_slice-5.ensures.value i))))
    (in_range c.args.left.now c.args.right.now (rows_of ls) (rows_of rs) c.in_ok-left_rows.ensures.permuted c.in_ok-right_rows.ensures.permuted))
    c.merged_runs.ensures
