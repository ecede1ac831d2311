use Rattle.std.proofs.Common.{◌≡◌, refl, rules, subst, inl}
use Rattle.std.proofs.lemmas.Result.{IfOk-weaker}
use Rattle.value_dm.specs.Lawful.{IsLawful}
use Rattle.algebra_dm.specs.Nodes.{IsWellFormed}
use Rattle.algebra_dm.specs.declared.query.Query.{the_lemmas}
use Rattle.algebra_dm.specs.declared.query.Query.TheVariants.{Table, Eq, Ne, IsNull, NotNull, Project, Rename}
use Rattle.algebra_dm.proofs.TreeLemmas.{eq_part, ne_part, is_null_part, not_null_part, project_part, rename_part, join_parts, union_parts, diff_parts}
use Rattle.query_rows_dm.proofs.EvaluationLemmas.{leaf_fine, table_there}
use Rattle.pattern_dm.specs.declared.pattern.Pattern.{Pattern}
use Rattle.pattern_dm.specs.declared.pattern.Pattern.TheVariants as patterns
use Rattle.keeping_dm.specs.Guards.{is_bound, is_other_value, is_unbound, is_value}
use Rattle.translate_dm.specs.Steps.{IsJoined, IsMade, IsProjected, IsRenamed}
use Rattle.translate_dm.specs.Translation.{IsDifference, IsNamedPattern}
use Rattle.translate_dm.proofs.MadeLemmas.{table_made, null_made, eq_made, ne_made, is_null_made, not_null_made, project_made, rename_made, join_made, union_made, diff_made}
use Rattle.translate_dm.proofs.PartLemmas.{left_read, names_read, part_read, right_read}
use Rattle.translate_dm.proofs.translation.+translated.Goals as goal

pub translated-requires : goal.translated-requires
translated-requires t c =
    (search (rules, the_lemmas), (c.requires.ready, part_read c.args.context.now.schema.now c.args.query.now c.requires.formed c.in-Eq.part c.get.result.now c.get.ensures (eq_part c.args.query.now c.in-Eq.part c.in-Eq.name c.in-Eq.value c.in-Eq.is)))

pub equal-requires : goal.equal-requires
equal-requires t c = λ e. names_read c.args.context.now.schema.now c.args.query.now c.requires.formed c.in-Eq.part (Eq c.in-Eq.part c.in-Eq.name c.in-Eq.value) c.in-Eq.is (eq_part c.args.query.now c.in-Eq.part c.in-Eq.name c.in-Eq.value c.in-Eq.is) (inl e)

pub returns-in_ok-made-in-Eq : goal.returns-in_ok-made-in-Eq
returns-in_ok-made-in-Eq t c =
    let at = c.args.context.now in
    let made = c.in_ok-made-in-Eq.made in
    IfOk-weaker c.equal.result (λ (p : Pattern). (p ≡ patterns.Filter made (is_value c.in-Eq.name c.in-Eq.value)) × IsLawful c.in-Eq.value) (IsMade at.mode at.base.now at.schema.now c.args.query.now)
    (λ p k. eq_made at.mode at.base.now at.schema.now c.args.query.now p c.in-Eq.part c.get.result.now made c.get.ensures c.in_ok-made-in-Eq.ensures c.in-Eq.name c.in-Eq.value c.in-Eq.is k)
    c.equal.ensures

pub translated-requires-in-Ne : goal.translated-requires-in-Ne
translated-requires-in-Ne t c =
    (search (rules, the_lemmas), (c.requires.ready, part_read c.args.context.now.schema.now c.args.query.now c.requires.formed c.in-Ne.part c.get-in-Ne.result.now c.get-in-Ne.ensures (ne_part c.args.query.now c.in-Ne.part c.in-Ne.name c.in-Ne.value c.in-Ne.is)))

pub unequal-requires : goal.unequal-requires
unequal-requires t c = λ e. names_read c.args.context.now.schema.now c.args.query.now c.requires.formed c.in-Ne.part (Ne c.in-Ne.part c.in-Ne.name c.in-Ne.value) c.in-Ne.is (ne_part c.args.query.now c.in-Ne.part c.in-Ne.name c.in-Ne.value c.in-Ne.is) (inl e)

pub returns-in_ok-made-in-Ne : goal.returns-in_ok-made-in-Ne
returns-in_ok-made-in-Ne t c =
    let at = c.args.context.now in
    let made = c.in_ok-made-in-Ne.made in
    IfOk-weaker c.unequal.result (λ (p : Pattern). (p ≡ patterns.Filter made (is_other_value c.in-Ne.name c.in-Ne.value)) × IsLawful c.in-Ne.value) (IsMade at.mode at.base.now at.schema.now c.args.query.now)
    (λ p k. ne_made at.mode at.base.now at.schema.now c.args.query.now p c.in-Ne.part c.get-in-Ne.result.now made c.get-in-Ne.ensures c.in_ok-made-in-Ne.ensures c.in-Ne.name c.in-Ne.value c.in-Ne.is k)
    c.unequal.ensures

pub translated-requires-in-IsNull : goal.translated-requires-in-IsNull
translated-requires-in-IsNull t c =
    (search (rules, the_lemmas), (c.requires.ready, part_read c.args.context.now.schema.now c.args.query.now c.requires.formed c.in-IsNull.part c.get-in-IsNull.result.now c.get-in-IsNull.ensures (is_null_part c.args.query.now c.in-IsNull.part c.in-IsNull.name c.in-IsNull.is)))

pub with_null-requires : goal.with_null-requires
with_null-requires t c = λ e. names_read c.args.context.now.schema.now c.args.query.now c.requires.formed c.in-IsNull.part (IsNull c.in-IsNull.part c.in-IsNull.name) c.in-IsNull.is (is_null_part c.args.query.now c.in-IsNull.part c.in-IsNull.name c.in-IsNull.is) (inl e)

pub returns-in_ok-made-in-IsNull : goal.returns-in_ok-made-in-IsNull
returns-in_ok-made-in-IsNull t c =
    let at = c.args.context.now in
    let made = c.in_ok-made-in-IsNull.made in
    IfOk-weaker c.with_null.result (λ (p : Pattern). p ≡ patterns.Filter made (is_unbound c.in-IsNull.name)) (IsMade at.mode at.base.now at.schema.now c.args.query.now)
    (λ p k. is_null_made at.mode at.base.now at.schema.now c.args.query.now p c.in-IsNull.part c.get-in-IsNull.result.now made c.get-in-IsNull.ensures c.in_ok-made-in-IsNull.ensures c.in-IsNull.name c.in-IsNull.is k)
    c.with_null.ensures

pub translated-requires-in-NotNull : goal.translated-requires-in-NotNull
translated-requires-in-NotNull t c =
    (search (rules, the_lemmas), (c.requires.ready, part_read c.args.context.now.schema.now c.args.query.now c.requires.formed c.in-NotNull.part c.get-in-NotNull.result.now c.get-in-NotNull.ensures (not_null_part c.args.query.now c.in-NotNull.part c.in-NotNull.name c.in-NotNull.is)))

pub without_null-requires : goal.without_null-requires
without_null-requires t c = λ e. names_read c.args.context.now.schema.now c.args.query.now c.requires.formed c.in-NotNull.part (NotNull c.in-NotNull.part c.in-NotNull.name) c.in-NotNull.is (not_null_part c.args.query.now c.in-NotNull.part c.in-NotNull.name c.in-NotNull.is) (inl e)

pub returns-in_ok-made-in-NotNull : goal.returns-in_ok-made-in-NotNull
returns-in_ok-made-in-NotNull t c =
    let at = c.args.context.now in
    let made = c.in_ok-made-in-NotNull.made in
    IfOk-weaker c.without_null.result (λ (p : Pattern). p ≡ patterns.Filter made (is_bound c.in-NotNull.name)) (IsMade at.mode at.base.now at.schema.now c.args.query.now)
    (λ p k. not_null_made at.mode at.base.now at.schema.now c.args.query.now p c.in-NotNull.part c.get-in-NotNull.result.now made c.get-in-NotNull.ensures c.in_ok-made-in-NotNull.ensures c.in-NotNull.name c.in-NotNull.is k)
    c.without_null.ensures

pub translated-requires-in-Project : goal.translated-requires-in-Project
translated-requires-in-Project t c =
    (search (rules, the_lemmas), (c.requires.ready, part_read c.args.context.now.schema.now c.args.query.now c.requires.formed c.in-Project.part c.get-in-Project.result.now c.get-in-Project.ensures (project_part c.args.query.now c.in-Project.part c.in-Project.columns c.in-Project.is)))

pub projected-requires : goal.projected-requires
projected-requires t c = names_read c.args.context.now.schema.now c.args.query.now c.requires.formed c.in-Project.part (Project c.in-Project.part c.in-Project.columns) c.in-Project.is (project_part c.args.query.now c.in-Project.part c.in-Project.columns c.in-Project.is)

pub returns-in_ok-made-in-Project : goal.returns-in_ok-made-in-Project
returns-in_ok-made-in-Project t c =
    let at = c.args.context.now in
    let made = c.in_ok-made-in-Project.made in
    IfOk-weaker c.projected.result (IsProjected c.in-Project.columns made) (IsMade at.mode at.base.now at.schema.now c.args.query.now)
    (λ p k. project_made at.mode at.base.now at.schema.now c.args.query.now p c.in-Project.part c.get-in-Project.result.now made c.get-in-Project.ensures c.in_ok-made-in-Project.ensures c.in-Project.columns c.in-Project.is k)
    c.projected.ensures

pub translated-requires-in-Rename : goal.translated-requires-in-Rename
translated-requires-in-Rename t c =
    (search (rules, the_lemmas), (c.requires.ready, part_read c.args.context.now.schema.now c.args.query.now c.requires.formed c.in-Rename.part c.get-in-Rename.result.now c.get-in-Rename.ensures (rename_part c.args.query.now c.in-Rename.part c.in-Rename.from c.in-Rename.to c.in-Rename.is)))

pub renamed-requires-clause-from : goal.renamed-requires-clause-from
renamed-requires-clause-from t c = λ e. names_read c.args.context.now.schema.now c.args.query.now c.requires.formed c.in-Rename.part (Rename c.in-Rename.part c.in-Rename.from c.in-Rename.to) c.in-Rename.is (rename_part c.args.query.now c.in-Rename.part c.in-Rename.from c.in-Rename.to c.in-Rename.is) (inl e)

pub returns-in_ok-made-in-Rename : goal.returns-in_ok-made-in-Rename
returns-in_ok-made-in-Rename t c =
    let at = c.args.context.now in
    let made = c.in_ok-made-in-Rename.made in
    IfOk-weaker c.renamed.result (IsRenamed at.schema.now c.args.query.now c.in-Rename.from c.in-Rename.to made) (IsMade at.mode at.base.now at.schema.now c.args.query.now)
    (λ p k. rename_made at.mode at.base.now at.schema.now c.args.query.now p c.in-Rename.part c.get-in-Rename.result.now made c.get-in-Rename.ensures c.in_ok-made-in-Rename.ensures c.in-Rename.from c.in-Rename.to c.in-Rename.is k)
    c.renamed.ensures

pub translated-requires-in-Join : goal.translated-requires-in-Join
translated-requires-in-Join t c = (search (rules, the_lemmas), (c.requires.ready, left_read c.args.context.now.schema.now c.args.query.now c.requires.formed c.in-Join.left c.in-Join.right c.get-left.result.now c.get-left.ensures (join_parts c.args.query.now c.in-Join.left c.in-Join.right c.in-Join.is)))

pub translated-requires-in-Join-2 : goal.translated-requires-in-Join-2
translated-requires-in-Join-2 t c = (search (rules, the_lemmas), (c.requires.ready, right_read c.args.context.now.schema.now c.args.query.now c.requires.formed c.in-Join.left c.in-Join.right c.get-right.result.now c.get-right.ensures (join_parts c.args.query.now c.in-Join.left c.in-Join.right c.in-Join.is)))

pub joined-requires-clause-left : goal.joined-requires-clause-left
joined-requires-clause-left t c = left_read c.args.context.now.schema.now c.args.query.now c.requires.formed c.in-Join.left c.in-Join.right c.get-left.result.now c.get-left.ensures (join_parts c.args.query.now c.in-Join.left c.in-Join.right c.in-Join.is)

pub joined-requires-clause-right : goal.joined-requires-clause-right
joined-requires-clause-right t c = right_read c.args.context.now.schema.now c.args.query.now c.requires.formed c.in-Join.left c.in-Join.right c.get-right.result.now c.get-right.ensures (join_parts c.args.query.now c.in-Join.left c.in-Join.right c.in-Join.is)

pub returns-in_ok-second-in-Join : goal.returns-in_ok-second-in-Join
returns-in_ok-second-in-Join t c =
    let at = c.args.context.now in
    let left = c.get-left.result.now in
    let right = c.get-right.result.now in
    let first = c.in_ok-first-in-Join.first in
    let second = c.in_ok-second-in-Join.second in
    IfOk-weaker c.joined.result (IsJoined at.schema.now left right first second) (IsMade at.mode at.base.now at.schema.now c.args.query.now)
    (λ p k. join_made at.mode at.base.now at.schema.now c.args.query.now p c.in-Join.left c.in-Join.right left right first second c.get-left.ensures c.get-right.ensures c.in_ok-first-in-Join.ensures c.in_ok-second-in-Join.ensures c.in-Join.is k)
    c.joined.ensures

pub translated-requires-in-Union : goal.translated-requires-in-Union
translated-requires-in-Union t c = (search (rules, the_lemmas), (c.requires.ready, left_read c.args.context.now.schema.now c.args.query.now c.requires.formed c.in-Union.left c.in-Union.right c.get-left-in-Union.result.now c.get-left-in-Union.ensures (union_parts c.args.query.now c.in-Union.left c.in-Union.right c.in-Union.is)))

pub translated-requires-in-Union-2 : goal.translated-requires-in-Union-2
translated-requires-in-Union-2 t c = (search (rules, the_lemmas), (c.requires.ready, right_read c.args.context.now.schema.now c.args.query.now c.requires.formed c.in-Union.left c.in-Union.right c.get-right-in-Union.result.now c.get-right-in-Union.ensures (union_parts c.args.query.now c.in-Union.left c.in-Union.right c.in-Union.is)))

pub returns-in_ok-second-in-Union : goal.returns-in_ok-second-in-Union
returns-in_ok-second-in-Union t c =
    let at = c.args.context.now in
    let left = c.get-left-in-Union.result.now in
    let right = c.get-right-in-Union.result.now in
    let first = c.in_ok-first-in-Union.first in
    let second = c.in_ok-second-in-Union.second in
    IfOk-weaker c.union.result (λ (p : Pattern). p ≡ patterns.Union first second) (IsMade at.mode at.base.now at.schema.now c.args.query.now)
    (λ p k. union_made at.mode at.base.now at.schema.now c.args.query.now p c.in-Union.left c.in-Union.right left right first second c.get-left-in-Union.ensures c.get-right-in-Union.ensures c.in_ok-first-in-Union.ensures c.in_ok-second-in-Union.ensures c.in-Union.is k)
    c.union.ensures

pub translated-requires-in-Diff : goal.translated-requires-in-Diff
translated-requires-in-Diff t c = (search (rules, the_lemmas), (c.requires.ready, left_read c.args.context.now.schema.now c.args.query.now c.requires.formed c.in-Diff.left c.in-Diff.right c.get-left-in-Diff.result.now c.get-left-in-Diff.ensures (diff_parts c.args.query.now c.in-Diff.left c.in-Diff.right c.in-Diff.is)))

pub translated-requires-in-Diff-2 : goal.translated-requires-in-Diff-2
translated-requires-in-Diff-2 t c = (search (rules, the_lemmas), (c.requires.ready, right_read c.args.context.now.schema.now c.args.query.now c.requires.formed c.in-Diff.left c.in-Diff.right c.get-right-in-Diff.result.now c.get-right-in-Diff.ensures (diff_parts c.args.query.now c.in-Diff.left c.in-Diff.right c.in-Diff.is)))

pub subtracted-requires-clause-left : goal.subtracted-requires-clause-left
subtracted-requires-clause-left t c = left_read c.args.context.now.schema.now c.args.query.now c.requires.formed c.in-Diff.left c.in-Diff.right c.get-left-in-Diff.result.now c.get-left-in-Diff.ensures (diff_parts c.args.query.now c.in-Diff.left c.in-Diff.right c.in-Diff.is)

pub subtracted-requires-clause-right : goal.subtracted-requires-clause-right
subtracted-requires-clause-right t c = right_read c.args.context.now.schema.now c.args.query.now c.requires.formed c.in-Diff.left c.in-Diff.right c.get-right-in-Diff.result.now c.get-right-in-Diff.ensures (diff_parts c.args.query.now c.in-Diff.left c.in-Diff.right c.in-Diff.is)

pub returns-in_ok-second-in-Diff : goal.returns-in_ok-second-in-Diff
returns-in_ok-second-in-Diff t c =
    let at = c.args.context.now in
    let left = c.get-left-in-Diff.result.now in
    let right = c.get-right-in-Diff.result.now in
    let first = c.in_ok-first-in-Diff.first in
    let second = c.in_ok-second-in-Diff.second in
    IfOk-weaker c.subtracted.result (IsDifference at.mode at.base.now at.schema.now left right first second) (IsMade at.mode at.base.now at.schema.now c.args.query.now)
    (λ p k. diff_made at.mode at.base.now at.schema.now c.args.query.now p c.in-Diff.left c.in-Diff.right left right first second c.get-left-in-Diff.ensures c.get-right-in-Diff.ensures c.in_ok-first-in-Diff.ensures c.in_ok-second-in-Diff.ensures c.in-Diff.is k)
    c.subtracted.ensures

pub table-requires-clause-there : goal.table-requires-clause-there
table-requires-clause-there t c = table_there c.args.context.now.schema.now c.in-Table.name (leaf_fine c.args.context.now.schema.now (Table c.in-Table.name) (subst (IsWellFormed c.args.context.now.schema.now) c.in-Table.is c.requires.formed) refl)

pub returns-in-Table : goal.returns-in-Table
returns-in-Table t c =
    let at = c.args.context.now in
    IfOk-weaker c.table.result (λ (p : Pattern). IsNamedPattern at.mode at.base.now at.schema.now c.in-Table.name p) (IsMade at.mode at.base.now at.schema.now c.args.query.now)
    (λ p k. table_made at.mode at.base.now at.schema.now c.args.query.now p c.in-Table.name c.in-Table.is k)
    c.table.ensures

pub returns-in-Null : goal.returns-in-Null
returns-in-Null t c =
    let at = c.args.context.now in
    IfOk-weaker c.empty.result (λ (p : Pattern). p ≡ patterns.Empty) (IsMade at.mode at.base.now at.schema.now c.args.query.now)
    (λ p k. null_made at.mode at.base.now at.schema.now c.args.query.now p c.in-Null.field-0 c.in-Null.is k)
    c.empty.ensures
