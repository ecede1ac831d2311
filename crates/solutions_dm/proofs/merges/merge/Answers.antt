use Rattle.std.proofs.Common.{ℕ, List, length, ◌≡◌, ◌∙◌, subst, sym}
use Rattle.solutions_dm.specs.declared.columns.Column.{Column}
use Rattle.solutions_dm.specs.Joint.{built, joint}
use Rattle.solutions_dm.specs.Merge.{IsMerge, merged}
use Rattle.solutions_dm.specs.Table.{IsTable}
use Rattle.solutions_dm.proofs.MergeLemmas.{merge_is, merge_table}
use Rattle.solutions_dm.proofs.merges.merge.Goals as goal

pub invariant_of-result : goal.invariant_of-result
invariant_of-result c =
    let l = c.args.left.now in
    let r = c.args.right.now in
    let ps = c.args.pairs.now in
    let columns : c.in_ok-columns.columns ≡ built (merged l r ps) (joint l.columns r.columns) =
    c.in_ok-columns.ensures ∙ (λ q. built (merged l r (c.as_slice.ensures q)) ((c.as_slice-2.ensures ∙ c.in_ok-names.ensures.names) q)) in
    subst (λ (n : ℕ). IsTable (record { columns = c.in_ok-columns.columns; rows = n })) (sym c.len.ensures)
    (subst (λ (cs : List Column). IsTable (record { columns = cs; rows = length ps })) (sym columns)
    (merge_table l r ps c.in_ok-names.ensures.left c.in_ok-names.ensures.right))

pub returns : goal.returns
returns c =
    let l = c.args.left.now in
    let r = c.args.right.now in
    let ps = c.args.pairs.now in
    let columns : c.in_ok-columns.columns ≡ built (merged l r ps) (joint l.columns r.columns) =
    c.in_ok-columns.ensures ∙ (λ q. built (merged l r (c.as_slice.ensures q)) ((c.as_slice-2.ensures ∙ c.in_ok-names.ensures.names) q)) in
    subst (λ (n : ℕ). IsMerge l r ps (record { columns = c.in_ok-columns.columns; rows = n })) (sym c.len.ensures)
    (subst (λ (cs : List Column). IsMerge l r ps (record { columns = cs; rows = length ps })) (sym columns) (merge_is l r ps))
