use Rattle.std.proofs.Common.{sym, subst}
use Rattle.std.proofs.lemmas.Result.{err_from_is_err_and}
use Rattle.algebra_dm.specs.Checking.{IsAnswer, IsNodeAnswer}
use Rattle.algebra_dm.specs.declared.query.Query.{Query}
use Rattle.algebra_dm.proofs.NodeLemmas.{eq_node, ne_node, is_null_node, not_null_node, project_node, rename_node, join_node, union_node, diff_node, null_node}
use Rattle.algebra_dm.proofs.TreeLemmas.{leaf_answer, part_fails, part_holds, left_fails, right_fails, parts_hold, null_leaf, table_leaf}
use Rattle.algebra_dm.proofs.TreeLemmas.{eq_part, ne_part, is_null_part, not_null_part, project_part, rename_part, join_parts, union_parts, diff_parts}
use Rattle.algebra_dm.proofs.known.+examine.Goals as goal

pub returns-in-Table : goal.returns-in-Table
returns-in-Table t c =
    subst (λ (q : Query). IsAnswer c.args.mode c.args.tables.now q c.table.result) (sym c.in-Table.is) (table_leaf c.args.mode c.args.tables.now c.in-Table.name c.table.result c.table.ensures)

pub returns-in-Null : goal.returns-in-Null
returns-in-Null t c =
    subst (λ (q : Query). IsAnswer c.args.mode c.args.tables.now q c.null.result) (sym c.in-Null.is)
    (null_leaf c.args.mode c.args.tables.now c.in-Null.name c.null.result (null_node c.args.mode c.args.tables.now c.in-Null.name c.null.result c.null.ensures))

pub returns-in_err-part-in-Eq : goal.returns-in_err-part-in-Eq
returns-in_err-part-in-Eq t c =
    let error = err_from_is_err_and c.from_residual.result c.from_residual.ensures.1 in
    rw (error.1, error.2) (part_fails c.args.mode c.args.tables.now c.args.query.now c.in-Eq.part c.get.result.now (eq_part c.args.query.now c.in-Eq.part c.in-Eq.name c.in-Eq.field-2 c.in-Eq.is) c.get.ensures c.in_err-part-in-Eq.field-0.0 c.in_err-part-in-Eq.ensures)

pub returns-in_ok-part-in-Eq : goal.returns-in_ok-part-in-Eq
returns-in_ok-part-in-Eq t c =
    let r = c.compared.result in
    part_holds c.args.mode c.args.tables.now c.args.query.now c.in-Eq.part c.get.result.now (eq_part c.args.query.now c.in-Eq.part c.in-Eq.name c.in-Eq.field-2 c.in-Eq.is) c.get.ensures c.in_ok-part-in-Eq.part c.in_ok-part-in-Eq.ensures r
    (λ known. subst (λ (q : Query). IsNodeAnswer c.args.mode c.args.tables.now q r) (sym c.in-Eq.is) (eq_node c.args.mode c.args.tables.now c.in-Eq.part c.in_ok-part-in-Eq.part known c.in-Eq.name c.in-Eq.field-2 r c.compared.ensures))

pub returns-in_err-part-in-Ne : goal.returns-in_err-part-in-Ne
returns-in_err-part-in-Ne t c =
    let error = err_from_is_err_and c.from_residual-in_err-part-in-Ne.result c.from_residual-in_err-part-in-Ne.ensures.1 in
    rw (error.1, error.2) (part_fails c.args.mode c.args.tables.now c.args.query.now c.in-Ne.part c.get-in-Ne.result.now (ne_part c.args.query.now c.in-Ne.part c.in-Ne.name c.in-Ne.field-2 c.in-Ne.is) c.get-in-Ne.ensures c.in_err-part-in-Ne.field-0.0 c.in_err-part-in-Ne.ensures)

pub returns-in_ok-part-in-Ne : goal.returns-in_ok-part-in-Ne
returns-in_ok-part-in-Ne t c =
    let r = c.compared-in-Ne.result in
    part_holds c.args.mode c.args.tables.now c.args.query.now c.in-Ne.part c.get-in-Ne.result.now (ne_part c.args.query.now c.in-Ne.part c.in-Ne.name c.in-Ne.field-2 c.in-Ne.is) c.get-in-Ne.ensures c.in_ok-part-in-Ne.part c.in_ok-part-in-Ne.ensures r
    (λ known. subst (λ (q : Query). IsNodeAnswer c.args.mode c.args.tables.now q r) (sym c.in-Ne.is) (ne_node c.args.mode c.args.tables.now c.in-Ne.part c.in_ok-part-in-Ne.part known c.in-Ne.name c.in-Ne.field-2 r c.compared-in-Ne.ensures))

pub returns-in_err-part-in-IsNull : goal.returns-in_err-part-in-IsNull
returns-in_err-part-in-IsNull t c =
    let error = err_from_is_err_and c.from_residual-in_err-part-in-IsNull.result c.from_residual-in_err-part-in-IsNull.ensures.1 in
    rw (error.1, error.2) (part_fails c.args.mode c.args.tables.now c.args.query.now c.in-IsNull.part c.get-in-IsNull.result.now (is_null_part c.args.query.now c.in-IsNull.part c.in-IsNull.name c.in-IsNull.is) c.get-in-IsNull.ensures c.in_err-part-in-IsNull.field-0.0 c.in_err-part-in-IsNull.ensures)

pub returns-in_ok-part-in-IsNull : goal.returns-in_ok-part-in-IsNull
returns-in_ok-part-in-IsNull t c =
    let r = c.null_in.result in
    part_holds c.args.mode c.args.tables.now c.args.query.now c.in-IsNull.part c.get-in-IsNull.result.now (is_null_part c.args.query.now c.in-IsNull.part c.in-IsNull.name c.in-IsNull.is) c.get-in-IsNull.ensures c.in_ok-part-in-IsNull.part c.in_ok-part-in-IsNull.ensures r
    (λ known. subst (λ (q : Query). IsNodeAnswer c.args.mode c.args.tables.now q r) (sym c.in-IsNull.is) (is_null_node c.args.mode c.args.tables.now c.in-IsNull.part c.in_ok-part-in-IsNull.part known c.in-IsNull.name r c.null_in.ensures))

pub returns-in_err-part-in-NotNull : goal.returns-in_err-part-in-NotNull
returns-in_err-part-in-NotNull t c =
    let error = err_from_is_err_and c.from_residual-in_err-part-in-NotNull.result c.from_residual-in_err-part-in-NotNull.ensures.1 in
    rw (error.1, error.2) (part_fails c.args.mode c.args.tables.now c.args.query.now c.in-NotNull.part c.get-in-NotNull.result.now (not_null_part c.args.query.now c.in-NotNull.part c.in-NotNull.name c.in-NotNull.is) c.get-in-NotNull.ensures c.in_err-part-in-NotNull.field-0.0 c.in_err-part-in-NotNull.ensures)

pub returns-in_ok-part-in-NotNull : goal.returns-in_ok-part-in-NotNull
returns-in_ok-part-in-NotNull t c =
    let r = c.compared-in-NotNull.result in
    part_holds c.args.mode c.args.tables.now c.args.query.now c.in-NotNull.part c.get-in-NotNull.result.now (not_null_part c.args.query.now c.in-NotNull.part c.in-NotNull.name c.in-NotNull.is) c.get-in-NotNull.ensures c.in_ok-part-in-NotNull.part c.in_ok-part-in-NotNull.ensures r
    (λ known. subst (λ (q : Query). IsNodeAnswer c.args.mode c.args.tables.now q r) (sym c.in-NotNull.is) (not_null_node c.args.mode c.args.tables.now c.in-NotNull.part c.in_ok-part-in-NotNull.part known c.in-NotNull.name r c.compared-in-NotNull.ensures))

pub returns-in_err-part-in-Project : goal.returns-in_err-part-in-Project
returns-in_err-part-in-Project t c =
    let error = err_from_is_err_and c.from_residual-in_err-part-in-Project.result c.from_residual-in_err-part-in-Project.ensures.1 in
    rw (error.1, error.2) (part_fails c.args.mode c.args.tables.now c.args.query.now c.in-Project.part c.get-in-Project.result.now (project_part c.args.query.now c.in-Project.part c.in-Project.columns c.in-Project.is) c.get-in-Project.ensures c.in_err-part-in-Project.field-0.0 c.in_err-part-in-Project.ensures)

pub returns-in_ok-part-in-Project : goal.returns-in_ok-part-in-Project
returns-in_ok-part-in-Project t c =
    let r = c.projected.result in
    part_holds c.args.mode c.args.tables.now c.args.query.now c.in-Project.part c.get-in-Project.result.now (project_part c.args.query.now c.in-Project.part c.in-Project.columns c.in-Project.is) c.get-in-Project.ensures c.in_ok-part-in-Project.part c.in_ok-part-in-Project.ensures r
    (λ known. subst (λ (q : Query). IsNodeAnswer c.args.mode c.args.tables.now q r) (sym c.in-Project.is) (project_node c.args.mode c.args.tables.now c.in-Project.part c.in_ok-part-in-Project.part known c.in-Project.columns r c.projected.ensures))

pub returns-in_err-part-in-Rename : goal.returns-in_err-part-in-Rename
returns-in_err-part-in-Rename t c =
    let error = err_from_is_err_and c.from_residual-in_err-part-in-Rename.result c.from_residual-in_err-part-in-Rename.ensures.1 in
    rw (error.1, error.2) (part_fails c.args.mode c.args.tables.now c.args.query.now c.in-Rename.part c.get-in-Rename.result.now (rename_part c.args.query.now c.in-Rename.part c.in-Rename.from c.in-Rename.to c.in-Rename.is) c.get-in-Rename.ensures c.in_err-part-in-Rename.field-0.0 c.in_err-part-in-Rename.ensures)

pub returns-in_ok-part-in-Rename : goal.returns-in_ok-part-in-Rename
returns-in_ok-part-in-Rename t c =
    let r = c.with_new_name.result in
    part_holds c.args.mode c.args.tables.now c.args.query.now c.in-Rename.part c.get-in-Rename.result.now (rename_part c.args.query.now c.in-Rename.part c.in-Rename.from c.in-Rename.to c.in-Rename.is) c.get-in-Rename.ensures c.in_ok-part-in-Rename.part c.in_ok-part-in-Rename.ensures r
    (λ known. subst (λ (q : Query). IsNodeAnswer c.args.mode c.args.tables.now q r) (sym c.in-Rename.is) (rename_node c.args.mode c.args.tables.now c.in-Rename.part c.in_ok-part-in-Rename.part known c.in-Rename.from c.in-Rename.to r c.with_new_name.ensures))

pub returns-in_err-left-in-Join : goal.returns-in_err-left-in-Join
returns-in_err-left-in-Join t c =
    let error = err_from_is_err_and c.from_residual-in_err-left-in-Join.result c.from_residual-in_err-left-in-Join.ensures.1 in
    rw (error.1, error.2)
    (left_fails c.args.mode c.args.tables.now c.args.query.now c.in-Join.left c.in-Join.right c.get-in-Join.result.now (join_parts c.args.query.now c.in-Join.left c.in-Join.right c.in-Join.is) c.get-in-Join.ensures c.in_err-left-in-Join.field-0.0 c.in_err-left-in-Join.ensures)

pub returns-in_err-right-in-Join : goal.returns-in_err-right-in-Join
returns-in_err-right-in-Join t c =
    let error = err_from_is_err_and c.from_residual-in_err-right-in-Join.result c.from_residual-in_err-right-in-Join.ensures.1 in
    rw (error.1, error.2) (right_fails c.args.mode c.args.tables.now c.args.query.now c.in-Join.left c.in-Join.right c.get-in-Join.result.now c.get-in-Join-2.result.now (join_parts c.args.query.now c.in-Join.left c.in-Join.right c.in-Join.is) c.get-in-Join.ensures c.get-in-Join-2.ensures c.in_ok-left-in-Join.left c.in_ok-left-in-Join.ensures c.in_err-right-in-Join.field-0.0 c.in_err-right-in-Join.ensures)

pub returns-in_ok-right-in-Join : goal.returns-in_ok-right-in-Join
returns-in_ok-right-in-Join t c =
    let r = c.joined.result in
    parts_hold c.args.mode c.args.tables.now c.args.query.now c.in-Join.left c.in-Join.right c.get-in-Join.result.now c.get-in-Join-2.result.now (join_parts c.args.query.now c.in-Join.left c.in-Join.right c.in-Join.is) c.get-in-Join.ensures c.get-in-Join-2.ensures c.in_ok-left-in-Join.left c.in_ok-left-in-Join.ensures c.in_ok-right-in-Join.right c.in_ok-right-in-Join.ensures r
    (λ known also. subst (λ (q : Query). IsNodeAnswer c.args.mode c.args.tables.now q r) (sym c.in-Join.is)
    (join_node c.args.mode c.args.tables.now c.in-Join.left c.in_ok-left-in-Join.left known c.in-Join.right c.in_ok-right-in-Join.right also r c.joined.ensures))

pub returns-in_err-left-in-Union : goal.returns-in_err-left-in-Union
returns-in_err-left-in-Union t c =
    let error = err_from_is_err_and c.from_residual-in_err-left-in-Union.result c.from_residual-in_err-left-in-Union.ensures.1 in
    rw (error.1, error.2)
    (left_fails c.args.mode c.args.tables.now c.args.query.now c.in-Union.left c.in-Union.right c.get-in-Union.result.now (union_parts c.args.query.now c.in-Union.left c.in-Union.right c.in-Union.is) c.get-in-Union.ensures c.in_err-left-in-Union.field-0.0 c.in_err-left-in-Union.ensures)

pub returns-in_err-right-in-Union : goal.returns-in_err-right-in-Union
returns-in_err-right-in-Union t c =
    let error = err_from_is_err_and c.from_residual-in_err-right-in-Union.result c.from_residual-in_err-right-in-Union.ensures.1 in
    rw (error.1, error.2) (right_fails c.args.mode c.args.tables.now c.args.query.now c.in-Union.left c.in-Union.right c.get-in-Union.result.now c.get-in-Union-2.result.now (union_parts c.args.query.now c.in-Union.left c.in-Union.right c.in-Union.is) c.get-in-Union.ensures c.get-in-Union-2.ensures c.in_ok-left-in-Union.left c.in_ok-left-in-Union.ensures c.in_err-right-in-Union.field-0.0 c.in_err-right-in-Union.ensures)

pub returns-in_ok-right-in-Union : goal.returns-in_ok-right-in-Union
returns-in_ok-right-in-Union t c =
    let r = c.united.result in
    parts_hold c.args.mode c.args.tables.now c.args.query.now c.in-Union.left c.in-Union.right c.get-in-Union.result.now c.get-in-Union-2.result.now (union_parts c.args.query.now c.in-Union.left c.in-Union.right c.in-Union.is) c.get-in-Union.ensures c.get-in-Union-2.ensures c.in_ok-left-in-Union.left c.in_ok-left-in-Union.ensures c.in_ok-right-in-Union.right c.in_ok-right-in-Union.ensures r
    (λ known also. subst (λ (q : Query). IsNodeAnswer c.args.mode c.args.tables.now q r) (sym c.in-Union.is)
    (union_node c.args.mode c.args.tables.now c.in-Union.left c.in_ok-left-in-Union.left known c.in-Union.right c.in_ok-right-in-Union.right also r c.united.ensures))

pub returns-in_err-left-in-Diff : goal.returns-in_err-left-in-Diff
returns-in_err-left-in-Diff t c =
    let error = err_from_is_err_and c.from_residual-in_err-left-in-Diff.result c.from_residual-in_err-left-in-Diff.ensures.1 in
    rw (error.1, error.2)
    (left_fails c.args.mode c.args.tables.now c.args.query.now c.in-Diff.left c.in-Diff.right c.get-in-Diff.result.now (diff_parts c.args.query.now c.in-Diff.left c.in-Diff.right c.in-Diff.is) c.get-in-Diff.ensures c.in_err-left-in-Diff.field-0.0 c.in_err-left-in-Diff.ensures)

pub returns-in_err-right-in-Diff : goal.returns-in_err-right-in-Diff
returns-in_err-right-in-Diff t c =
    let error = err_from_is_err_and c.from_residual-in_err-right-in-Diff.result c.from_residual-in_err-right-in-Diff.ensures.1 in
    rw (error.1, error.2) (right_fails c.args.mode c.args.tables.now c.args.query.now c.in-Diff.left c.in-Diff.right c.get-in-Diff.result.now c.get-in-Diff-2.result.now (diff_parts c.args.query.now c.in-Diff.left c.in-Diff.right c.in-Diff.is) c.get-in-Diff.ensures c.get-in-Diff-2.ensures c.in_ok-left-in-Diff.left c.in_ok-left-in-Diff.ensures c.in_err-right-in-Diff.field-0.0 c.in_err-right-in-Diff.ensures)

pub returns-in_ok-right-in-Diff : goal.returns-in_ok-right-in-Diff
returns-in_ok-right-in-Diff t c =
    let r = c.subtracted.result in
    parts_hold c.args.mode c.args.tables.now c.args.query.now c.in-Diff.left c.in-Diff.right c.get-in-Diff.result.now c.get-in-Diff-2.result.now (diff_parts c.args.query.now c.in-Diff.left c.in-Diff.right c.in-Diff.is) c.get-in-Diff.ensures c.get-in-Diff-2.ensures c.in_ok-left-in-Diff.left c.in_ok-left-in-Diff.ensures c.in_ok-right-in-Diff.right c.in_ok-right-in-Diff.ensures r
    (λ known also. subst (λ (q : Query). IsNodeAnswer c.args.mode c.args.tables.now q r) (sym c.in-Diff.is)
    (diff_node c.args.mode c.args.tables.now c.in-Diff.left c.in_ok-left-in-Diff.left known c.in-Diff.right c.in_ok-right-in-Diff.right also r c.subtracted.ensures))

pub compared-requires : goal.compared-requires
compared-requires t c = (c.in_ok-part-in-Eq.ensures.1.attributes.rising, c.in_ok-part-in-Eq.ensures.1.certain.rising)

pub compared-requires-in-Ne : goal.compared-requires-in-Ne
compared-requires-in-Ne t c = (c.in_ok-part-in-Ne.ensures.1.attributes.rising, c.in_ok-part-in-Ne.ensures.1.certain.rising)

pub null_in-requires : goal.null_in-requires
null_in-requires t c = (c.in_ok-part-in-IsNull.ensures.1.attributes.rising, c.in_ok-part-in-IsNull.ensures.1.certain.rising)

pub compared-requires-in-NotNull : goal.compared-requires-in-NotNull
compared-requires-in-NotNull t c = (c.in_ok-part-in-NotNull.ensures.1.attributes.rising, c.in_ok-part-in-NotNull.ensures.1.certain.rising)

pub united-requires : goal.united-requires
united-requires t c = (c.in_ok-left-in-Union.ensures.1.attributes.rising, c.in_ok-left-in-Union.ensures.1.certain.rising)

pub subtracted-requires : goal.subtracted-requires
subtracted-requires t c = (c.in_ok-left-in-Diff.ensures.1.attributes.rising, c.in_ok-left-in-Diff.ensures.1.certain.rising)
