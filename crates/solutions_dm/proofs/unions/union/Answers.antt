use Rattle.std.proofs.Common.{ℕ, List, ◌≡◌, ◌+◌, ◌⊎◌, ◌↔◌, ◌∙◌, subst, sym}
use Rattle.solutions_dm.specs.declared.columns.Column.{Column}
use Rattle.solutions_dm.specs.Joint.{built, joint, stacked}
use Rattle.solutions_dm.specs.Table.{IsTable, HasRow}
use Rattle.solutions_dm.proofs.UnionLemmas.{union_rows, union_table}
use Rattle.solutions_dm.proofs.unions.union.Goals as goal

pub invariant_of-result : goal.invariant_of-result
invariant_of-result c =
    let l = c.args.left.now in
    let r = c.args.right.now in
    let rows : c.in-Some.rows ≡ l.rows + r.rows = c.in-Some.ensures.1 ∙ (λ q. (c.left.view_is q).rows + (c.right.view_is q).rows) in
    let columns : c.in_ok-columns.columns ≡ built (stacked l r) (joint l.columns r.columns) =
    c.in_ok-columns.ensures ∙ (λ q. built (stacked l r) ((c.as_slice.ensures ∙ c.in_ok-names.ensures.names) q)) in
    subst (λ (cs : List Column). IsTable (record { columns = cs; rows = c.in-Some.rows })) (sym columns)
    (union_table l r c.in-Some.rows rows c.in_ok-names.ensures.left c.in_ok-names.ensures.right)

pub returns : goal.returns
returns c = λ m.
    let l = c.args.left.now in
    let r = c.args.right.now in
    let rows : c.in-Some.rows ≡ l.rows + r.rows = c.in-Some.ensures.1 ∙ (λ q. (c.left.view_is q).rows + (c.right.view_is q).rows) in
    let columns : c.in_ok-columns.columns ≡ built (stacked l r) (joint l.columns r.columns) =
    c.in_ok-columns.ensures ∙ (λ q. built (stacked l r) ((c.as_slice.ensures ∙ c.in_ok-names.ensures.names) q)) in
    subst (λ (cs : List Column). HasRow (record { columns = cs; rows = c.in-Some.rows }) m ↔ (HasRow l m ⊎ HasRow r m)) (sym columns)
    (union_rows l r c.in-Some.rows rows m)
