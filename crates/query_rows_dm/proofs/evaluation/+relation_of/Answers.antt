use Rattle.std.proofs.Common.{◌≡◌, ◌≢◌, map, refl, rules, subst, sym, inl, inr}
use Rattle.std.proofs.lemmas.Result.{IfOk-weaker}
use Rattle.names_dm.specs.Variables.{variable_of}
use Rattle.algebra_dm.specs.Nodes.{IsWellFormed}
use Rattle.algebra_dm.specs.declared.query.Query.{Query, the_lemmas}
use Rattle.algebra_dm.specs.declared.query.Query.TheVariants.{Table, Eq, Ne, IsNull, NotNull, Project, Rename, Union, Diff}
use Rattle.algebra_dm.proofs.TreeLemmas.{eq_part, ne_part, is_null_part, not_null_part, project_part, rename_part, join_parts, union_parts, diff_parts}
use Rattle.query_rows_dm.specs.Evaluation.{IsEvaluated}
use Rattle.query_rows_dm.specs.Operators.{IsNullRow, AreKept, AreMoved, AreRenamed, AreJoined, AreUnited, AreSubtracted}
use Rattle.query_rows_dm.specs.declared.relation.Relation.{Relation}
use Rattle.query_rows_dm.proofs.EvaluationLemmas.{IsFine, leaf_fine, part_fine, parts_fine, part_formed, left_formed, right_formed, eq_evaluated, ne_evaluated, is_null_evaluated, not_null_evaluated, project_once, project_evaluated, rename_once, rename_evaluated, join_evaluated, union_evaluated, diff_evaluated, null_evaluated, table_there}
use Rattle.query_rows_dm.proofs.evaluation.+relation_of.Goals as goal

pub relation_of-requires : goal.relation_of-requires
relation_of-requires t c =
    (search (rules, the_lemmas), (c.requires.schema, (c.requires.named, (subst (IsWellFormed c.args.database.now.tables) (sym c.get.ensures) (part_formed c.args.database.now.tables c.args.query.now c.requires.formed c.in-Eq.part (eq_part c.args.query.now c.in-Eq.part c.in-Eq.name c.in-Eq.value c.in-Eq.is)), c.requires.apart))))

pub relation_of-requires-in-Ne : goal.relation_of-requires-in-Ne
relation_of-requires-in-Ne t c =
    (search (rules, the_lemmas), (c.requires.schema, (c.requires.named, (subst (IsWellFormed c.args.database.now.tables) (sym c.get-in-Ne.ensures) (part_formed c.args.database.now.tables c.args.query.now c.requires.formed c.in-Ne.part (ne_part c.args.query.now c.in-Ne.part c.in-Ne.name c.in-Ne.value c.in-Ne.is)), c.requires.apart))))

pub relation_of-requires-in-IsNull : goal.relation_of-requires-in-IsNull
relation_of-requires-in-IsNull t c =
    (search (rules, the_lemmas), (c.requires.schema, (c.requires.named, (subst (IsWellFormed c.args.database.now.tables) (sym c.get-in-IsNull.ensures) (part_formed c.args.database.now.tables c.args.query.now c.requires.formed c.in-IsNull.part (is_null_part c.args.query.now c.in-IsNull.part c.in-IsNull.name c.in-IsNull.is)), c.requires.apart))))

pub relation_of-requires-in-NotNull : goal.relation_of-requires-in-NotNull
relation_of-requires-in-NotNull t c =
    (search (rules, the_lemmas), (c.requires.schema, (c.requires.named, (subst (IsWellFormed c.args.database.now.tables) (sym c.get-in-NotNull.ensures) (part_formed c.args.database.now.tables c.args.query.now c.requires.formed c.in-NotNull.part (not_null_part c.args.query.now c.in-NotNull.part c.in-NotNull.name c.in-NotNull.is)), c.requires.apart))))

pub relation_of-requires-in-Project : goal.relation_of-requires-in-Project
relation_of-requires-in-Project t c =
    (search (rules, the_lemmas), (c.requires.schema, (c.requires.named, (subst (IsWellFormed c.args.database.now.tables) (sym c.get-in-Project.ensures) (part_formed c.args.database.now.tables c.args.query.now c.requires.formed c.in-Project.part (project_part c.args.query.now c.in-Project.part c.in-Project.names c.in-Project.is)), c.requires.apart))))

pub relation_of-requires-in-Rename : goal.relation_of-requires-in-Rename
relation_of-requires-in-Rename t c =
    (search (rules, the_lemmas), (c.requires.schema, (c.requires.named, (subst (IsWellFormed c.args.database.now.tables) (sym c.get-in-Rename.ensures) (part_formed c.args.database.now.tables c.args.query.now c.requires.formed c.in-Rename.part (rename_part c.args.query.now c.in-Rename.part c.in-Rename.from c.in-Rename.to c.in-Rename.is)), c.requires.apart))))

pub relation_of-requires-in-Join : goal.relation_of-requires-in-Join
relation_of-requires-in-Join t c =
    (search (rules, the_lemmas), (c.requires.schema, (c.requires.named, (subst (IsWellFormed c.args.database.now.tables) (sym c.get-in-Join.ensures) (left_formed c.args.database.now.tables c.args.query.now c.requires.formed c.in-Join.left c.in-Join.right (join_parts c.args.query.now c.in-Join.left c.in-Join.right c.in-Join.is)), c.requires.apart))))

pub relation_of-requires-in-Join-2 : goal.relation_of-requires-in-Join-2
relation_of-requires-in-Join-2 t c = (
  search (rules, the_lemmas),
  (
    c.requires.schema,
    (
      c.requires.named,
      (
        subst (IsWellFormed c.args.database.now.tables) (sym c.get-in-Join-2.ensures) (right_formed c.args.database.now.tables c.args.query.now c.requires.formed c.in-Join.left c.in-Join.right (join_parts c.args.query.now c.in-Join.left c.in-Join.right c.in-Join.is)),
        c.in_ok-left-in-Join.ensures.grown.apart c.requires.apart,
      ),
    ),
  ),
)

pub relation_of-requires-in-Union : goal.relation_of-requires-in-Union
relation_of-requires-in-Union t c =
    (search (rules, the_lemmas), (c.requires.schema, (c.requires.named, (subst (IsWellFormed c.args.database.now.tables) (sym c.get-in-Union.ensures) (left_formed c.args.database.now.tables c.args.query.now c.requires.formed c.in-Union.left c.in-Union.right (union_parts c.args.query.now c.in-Union.left c.in-Union.right c.in-Union.is)), c.requires.apart))))

pub relation_of-requires-in-Union-2 : goal.relation_of-requires-in-Union-2
relation_of-requires-in-Union-2 t c = (
  search (rules, the_lemmas),
  (
    c.requires.schema,
    (
      c.requires.named,
      (
        subst (IsWellFormed c.args.database.now.tables) (sym c.get-in-Union-2.ensures) (right_formed c.args.database.now.tables c.args.query.now c.requires.formed c.in-Union.left c.in-Union.right (union_parts c.args.query.now c.in-Union.left c.in-Union.right c.in-Union.is)),
        c.in_ok-left-in-Union.ensures.grown.apart c.requires.apart,
      ),
    ),
  ),
)

pub relation_of-requires-in-Diff : goal.relation_of-requires-in-Diff
relation_of-requires-in-Diff t c =
    (search (rules, the_lemmas), (c.requires.schema, (c.requires.named, (subst (IsWellFormed c.args.database.now.tables) (sym c.get-in-Diff.ensures) (left_formed c.args.database.now.tables c.args.query.now c.requires.formed c.in-Diff.left c.in-Diff.right (diff_parts c.args.query.now c.in-Diff.left c.in-Diff.right c.in-Diff.is)), c.requires.apart))))

pub relation_of-requires-in-Diff-2 : goal.relation_of-requires-in-Diff-2
relation_of-requires-in-Diff-2 t c = (
  search (rules, the_lemmas),
  (
    c.requires.schema,
    (
      c.requires.named,
      (
        subst (IsWellFormed c.args.database.now.tables) (sym c.get-in-Diff-2.ensures) (right_formed c.args.database.now.tables c.args.query.now c.requires.formed c.in-Diff.left c.in-Diff.right (diff_parts c.args.query.now c.in-Diff.left c.in-Diff.right c.in-Diff.is)),
        c.in_ok-left-in-Diff.ensures.grown.apart c.requires.apart,
      ),
    ),
  ),
)

pub equal-requires : goal.equal-requires
equal-requires t c = let fine : IsFine c.args.database.now.tables (Eq c.in-Eq.part c.in-Eq.name c.in-Eq.value) = subst (IsFine c.args.database.now.tables) c.in-Eq.is (part_fine c.args.database.now.tables c.args.query.now c.requires.formed c.in-Eq.part (eq_part c.args.query.now c.in-Eq.part c.in-Eq.name c.in-Eq.value c.in-Eq.is)) in λ e. fine.names (inl e)

pub other_value-requires : goal.other_value-requires
other_value-requires t c = let fine : IsFine c.args.database.now.tables (Ne c.in-Ne.part c.in-Ne.name c.in-Ne.value) = subst (IsFine c.args.database.now.tables) c.in-Ne.is (part_fine c.args.database.now.tables c.args.query.now c.requires.formed c.in-Ne.part (ne_part c.args.query.now c.in-Ne.part c.in-Ne.name c.in-Ne.value c.in-Ne.is)) in λ e. fine.names (inl e)

pub equal-requires-in-IsNull : goal.equal-requires-in-IsNull
equal-requires-in-IsNull t c = let fine : IsFine c.args.database.now.tables (IsNull c.in-IsNull.part c.in-IsNull.name) = subst (IsFine c.args.database.now.tables) c.in-IsNull.is (part_fine c.args.database.now.tables c.args.query.now c.requires.formed c.in-IsNull.part (is_null_part c.args.query.now c.in-IsNull.part c.in-IsNull.name c.in-IsNull.is)) in λ e. fine.names (inl e)

pub unequal-requires : goal.unequal-requires
unequal-requires t c = let fine : IsFine c.args.database.now.tables (NotNull c.in-NotNull.part c.in-NotNull.name) = subst (IsFine c.args.database.now.tables) c.in-NotNull.is (part_fine c.args.database.now.tables c.args.query.now c.requires.formed c.in-NotNull.part (not_null_part c.args.query.now c.in-NotNull.part c.in-NotNull.name c.in-NotNull.is)) in λ e. fine.names (inl e)

pub projected-requires-clause-named : goal.projected-requires-clause-named
projected-requires-clause-named t c = let fine : IsFine c.args.database.now.tables (Project c.in-Project.part c.in-Project.names) = subst (IsFine c.args.database.now.tables) c.in-Project.is (part_fine c.args.database.now.tables c.args.query.now c.requires.formed c.in-Project.part (project_part c.args.query.now c.in-Project.part c.in-Project.names c.in-Project.is)) in fine.names

pub renamed-requires-clause-from : goal.renamed-requires-clause-from
renamed-requires-clause-from t c = let fine : IsFine c.args.database.now.tables (Rename c.in-Rename.part c.in-Rename.from c.in-Rename.to) = subst (IsFine c.args.database.now.tables) c.in-Rename.is (part_fine c.args.database.now.tables c.args.query.now c.requires.formed c.in-Rename.part (rename_part c.args.query.now c.in-Rename.part c.in-Rename.from c.in-Rename.to c.in-Rename.is)) in λ e. fine.names (inl e)

pub renamed-requires-clause-to : goal.renamed-requires-clause-to
renamed-requires-clause-to t c = let fine : IsFine c.args.database.now.tables (Rename c.in-Rename.part c.in-Rename.from c.in-Rename.to) = subst (IsFine c.args.database.now.tables) c.in-Rename.is (part_fine c.args.database.now.tables c.args.query.now c.requires.formed c.in-Rename.part (rename_part c.args.query.now c.in-Rename.part c.in-Rename.from c.in-Rename.to c.in-Rename.is)) in λ e. fine.names (inr (inl e))

pub projected-requires-clause-once : goal.projected-requires-clause-once
projected-requires-clause-once t c =
    let D = c.args.database.now in
    let old = c.args.dictionary.now in
    let new = c.relation_of-in-Project.new.dictionary in
    let part = c.in_ok-part-in-Project.part in
    let fine : IsFine D.tables (Project c.in-Project.part c.in-Project.names) = subst (IsFine c.args.database.now.tables) c.in-Project.is (part_fine c.args.database.now.tables c.args.query.now c.requires.formed c.in-Project.part (project_part c.args.query.now c.in-Project.part c.in-Project.names c.in-Project.is)) in
    let h : IsEvaluated old new D c.in-Project.part part = subst (λ (p : Query). IsEvaluated old new D p part) c.get-in-Project.ensures c.in_ok-part-in-Project.ensures in
    project_once D old new c.in-Project.part part part h c.in-Project.names fine

pub renamed-requires-clause-once : goal.renamed-requires-clause-once
renamed-requires-clause-once t c =
    let D = c.args.database.now in
    let old = c.args.dictionary.now in
    let new = c.relation_of-in-Rename.new.dictionary in
    let part = c.in_ok-part-in-Rename.part in
    let fine : IsFine D.tables (Rename c.in-Rename.part c.in-Rename.from c.in-Rename.to) = subst (IsFine c.args.database.now.tables) c.in-Rename.is (part_fine c.args.database.now.tables c.args.query.now c.requires.formed c.in-Rename.part (rename_part c.args.query.now c.in-Rename.part c.in-Rename.from c.in-Rename.to c.in-Rename.is)) in
    let h : IsEvaluated old new D c.in-Rename.part part = subst (λ (p : Query). IsEvaluated old new D p part) c.get-in-Rename.ensures c.in_ok-part-in-Rename.ensures in
    rename_once D old new c.in-Rename.part part part h c.in-Rename.from c.in-Rename.to fine

pub returns-in_ok-part-in-Eq : goal.returns-in_ok-part-in-Eq
returns-in_ok-part-in-Eq t c =
    let D = c.args.database.now in
    let old = c.args.dictionary.now in
    let new = c.relation_of.new.dictionary in
    let part = c.in_ok-part-in-Eq.part in
    let fine : IsFine D.tables (Eq c.in-Eq.part c.in-Eq.name c.in-Eq.value) = subst (IsFine c.args.database.now.tables) c.in-Eq.is (part_fine c.args.database.now.tables c.args.query.now c.requires.formed c.in-Eq.part (eq_part c.args.query.now c.in-Eq.part c.in-Eq.name c.in-Eq.value c.in-Eq.is)) in
    let h : IsEvaluated old new D c.in-Eq.part part = subst (λ (p : Query). IsEvaluated old new D p part) c.get.ensures c.in_ok-part-in-Eq.ensures in
    IfOk-weaker c.equal.result (λ (r : Relation). AreKept (λ m. m (variable_of c.in-Eq.name) ≡ c.sought.result) part r) (λ (r : Relation). IsEvaluated old new D c.args.query.now r)
    (λ r k. subst (λ (q : Query). IsEvaluated old new D q r) (sym c.in-Eq.is) (eq_evaluated D old new c.in-Eq.part part r h c.in-Eq.name c.in-Eq.value c.sought.result fine (c.sought.ensures (h.grown.apart c.requires.apart)) k))
    c.equal.ensures

pub returns-in_ok-part-in-Ne : goal.returns-in_ok-part-in-Ne
returns-in_ok-part-in-Ne t c =
    let D = c.args.database.now in
    let old = c.args.dictionary.now in
    let new = c.relation_of-in-Ne.new.dictionary in
    let part = c.in_ok-part-in-Ne.part in
    let fine : IsFine D.tables (Ne c.in-Ne.part c.in-Ne.name c.in-Ne.value) = subst (IsFine c.args.database.now.tables) c.in-Ne.is (part_fine c.args.database.now.tables c.args.query.now c.requires.formed c.in-Ne.part (ne_part c.args.query.now c.in-Ne.part c.in-Ne.name c.in-Ne.value c.in-Ne.is)) in
    let h : IsEvaluated old new D c.in-Ne.part part = subst (λ (p : Query). IsEvaluated old new D p part) c.get-in-Ne.ensures c.in_ok-part-in-Ne.ensures in
    IfOk-weaker c.other_value.result (λ (r : Relation). AreKept (λ m. (m (variable_of c.in-Ne.name) ≢ 1) × (m (variable_of c.in-Ne.name) ≢ c.sought-in-Ne.result)) part r) (λ (r : Relation). IsEvaluated old new D c.args.query.now r)
    (λ r k. subst (λ (q : Query). IsEvaluated old new D q r) (sym c.in-Ne.is) (ne_evaluated D old new c.in-Ne.part part r h c.in-Ne.name c.in-Ne.value c.sought-in-Ne.result fine (c.sought-in-Ne.ensures (h.grown.apart c.requires.apart)) k))
    c.other_value.ensures

pub returns-in_ok-part-in-IsNull : goal.returns-in_ok-part-in-IsNull
returns-in_ok-part-in-IsNull t c =
    let D = c.args.database.now in
    let old = c.args.dictionary.now in
    let new = c.relation_of-in-IsNull.new.dictionary in
    let part = c.in_ok-part-in-IsNull.part in
    let fine : IsFine D.tables (IsNull c.in-IsNull.part c.in-IsNull.name) = subst (IsFine c.args.database.now.tables) c.in-IsNull.is (part_fine c.args.database.now.tables c.args.query.now c.requires.formed c.in-IsNull.part (is_null_part c.args.query.now c.in-IsNull.part c.in-IsNull.name c.in-IsNull.is)) in
    let h : IsEvaluated old new D c.in-IsNull.part part = subst (λ (p : Query). IsEvaluated old new D p part) c.get-in-IsNull.ensures c.in_ok-part-in-IsNull.ensures in
    IfOk-weaker c.equal-in-IsNull.result (λ (r : Relation). AreKept (λ m. m (variable_of c.in-IsNull.name) ≡ 1) part r) (λ (r : Relation). IsEvaluated old new D c.args.query.now r)
    (λ r k. subst (λ (q : Query). IsEvaluated old new D q r) (sym c.in-IsNull.is) (is_null_evaluated D old new c.in-IsNull.part part r h c.in-IsNull.name fine k))
    c.equal-in-IsNull.ensures

pub returns-in_ok-part-in-NotNull : goal.returns-in_ok-part-in-NotNull
returns-in_ok-part-in-NotNull t c =
    let D = c.args.database.now in
    let old = c.args.dictionary.now in
    let new = c.relation_of-in-NotNull.new.dictionary in
    let part = c.in_ok-part-in-NotNull.part in
    let fine : IsFine D.tables (NotNull c.in-NotNull.part c.in-NotNull.name) = subst (IsFine c.args.database.now.tables) c.in-NotNull.is (part_fine c.args.database.now.tables c.args.query.now c.requires.formed c.in-NotNull.part (not_null_part c.args.query.now c.in-NotNull.part c.in-NotNull.name c.in-NotNull.is)) in
    let h : IsEvaluated old new D c.in-NotNull.part part = subst (λ (p : Query). IsEvaluated old new D p part) c.get-in-NotNull.ensures c.in_ok-part-in-NotNull.ensures in
    IfOk-weaker c.unequal.result (λ (r : Relation). AreKept (λ m. m (variable_of c.in-NotNull.name) ≢ 1) part r) (λ (r : Relation). IsEvaluated old new D c.args.query.now r)
    (λ r k. subst (λ (q : Query). IsEvaluated old new D q r) (sym c.in-NotNull.is) (not_null_evaluated D old new c.in-NotNull.part part r h c.in-NotNull.name fine k))
    c.unequal.ensures

pub returns-in_ok-part-in-Project : goal.returns-in_ok-part-in-Project
returns-in_ok-part-in-Project t c =
    let D = c.args.database.now in
    let old = c.args.dictionary.now in
    let new = c.relation_of-in-Project.new.dictionary in
    let part = c.in_ok-part-in-Project.part in
    let fine : IsFine D.tables (Project c.in-Project.part c.in-Project.names) = subst (IsFine c.args.database.now.tables) c.in-Project.is (part_fine c.args.database.now.tables c.args.query.now c.requires.formed c.in-Project.part (project_part c.args.query.now c.in-Project.part c.in-Project.names c.in-Project.is)) in
    let h : IsEvaluated old new D c.in-Project.part part = subst (λ (p : Query). IsEvaluated old new D p part) c.get-in-Project.ensures c.in_ok-part-in-Project.ensures in
    IfOk-weaker c.projected.result (λ (r : Relation). AreMoved (map variable_of c.in-Project.names) (λ x. x) part r) (λ (r : Relation). IsEvaluated old new D c.args.query.now r)
    (λ r k. subst (λ (q : Query). IsEvaluated old new D q r) (sym c.in-Project.is) (project_evaluated D old new c.in-Project.part part r h c.in-Project.names fine k))
    c.projected.ensures

pub returns-in_ok-part-in-Rename : goal.returns-in_ok-part-in-Rename
returns-in_ok-part-in-Rename t c =
    let D = c.args.database.now in
    let old = c.args.dictionary.now in
    let new = c.relation_of-in-Rename.new.dictionary in
    let part = c.in_ok-part-in-Rename.part in
    let fine : IsFine D.tables (Rename c.in-Rename.part c.in-Rename.from c.in-Rename.to) = subst (IsFine c.args.database.now.tables) c.in-Rename.is (part_fine c.args.database.now.tables c.args.query.now c.requires.formed c.in-Rename.part (rename_part c.args.query.now c.in-Rename.part c.in-Rename.from c.in-Rename.to c.in-Rename.is)) in
    let h : IsEvaluated old new D c.in-Rename.part part = subst (λ (p : Query). IsEvaluated old new D p part) c.get-in-Rename.ensures c.in_ok-part-in-Rename.ensures in
    IfOk-weaker c.renamed.result (λ (r : Relation). AreRenamed c.in-Rename.from c.in-Rename.to part r) (λ (r : Relation). IsEvaluated old new D c.args.query.now r)
    (λ r k. subst (λ (q : Query). IsEvaluated old new D q r) (sym c.in-Rename.is) (rename_evaluated D old new c.in-Rename.part part r h c.in-Rename.from c.in-Rename.to fine k))
    c.renamed.ensures

pub returns-in_ok-right-in-Join : goal.returns-in_ok-right-in-Join
returns-in_ok-right-in-Join t c =
    let D = c.args.database.now in
    let old = c.args.dictionary.now in
    let mid = c.relation_of-in-Join.new.dictionary in
    let new = c.relation_of-in-Join-2.new.dictionary in
    let left = c.in_ok-left-in-Join.left in
    let right = c.in_ok-right-in-Join.right in
    let h : IsEvaluated old mid D c.in-Join.left left = subst (λ (p : Query). IsEvaluated old mid D p left) c.get-in-Join.ensures c.in_ok-left-in-Join.ensures in
    let k : IsEvaluated mid new D c.in-Join.right right = subst (λ (p : Query). IsEvaluated mid new D p right) c.get-in-Join-2.ensures c.in_ok-right-in-Join.ensures in
    IfOk-weaker c.joined.result (λ (r : Relation). AreJoined left right r) (λ (r : Relation). IsEvaluated old new D c.args.query.now r)
    (λ r j. subst (λ (q : Query). IsEvaluated old new D q r) (sym c.in-Join.is) (join_evaluated D old mid new c.in-Join.left c.in-Join.right left right r h k c.requires.apart j))
    c.joined.ensures

pub returns-in_ok-right-in-Union : goal.returns-in_ok-right-in-Union
returns-in_ok-right-in-Union t c =
    let D = c.args.database.now in
    let old = c.args.dictionary.now in
    let mid = c.relation_of-in-Union.new.dictionary in
    let new = c.relation_of-in-Union-2.new.dictionary in
    let left = c.in_ok-left-in-Union.left in
    let right = c.in_ok-right-in-Union.right in
    let fine : IsFine D.tables (Union c.in-Union.left c.in-Union.right) = subst (IsFine D.tables) c.in-Union.is (parts_fine D.tables c.args.query.now c.requires.formed c.in-Union.left c.in-Union.right (union_parts c.args.query.now c.in-Union.left c.in-Union.right c.in-Union.is)) in
    let h : IsEvaluated old mid D c.in-Union.left left = subst (λ (p : Query). IsEvaluated old mid D p left) c.get-in-Union.ensures c.in_ok-left-in-Union.ensures in
    let k : IsEvaluated mid new D c.in-Union.right right = subst (λ (p : Query). IsEvaluated mid new D p right) c.get-in-Union-2.ensures c.in_ok-right-in-Union.ensures in
    IfOk-weaker c.united.result (λ (r : Relation). AreUnited left right r) (λ (r : Relation). IsEvaluated old new D c.args.query.now r)
    (λ r j. subst (λ (q : Query). IsEvaluated old new D q r) (sym c.in-Union.is) (union_evaluated D old mid new c.in-Union.left c.in-Union.right left right r h k c.requires.apart fine j))
    c.united.ensures

pub returns-in_ok-right-in-Diff : goal.returns-in_ok-right-in-Diff
returns-in_ok-right-in-Diff t c =
    let D = c.args.database.now in
    let old = c.args.dictionary.now in
    let mid = c.relation_of-in-Diff.new.dictionary in
    let new = c.relation_of-in-Diff-2.new.dictionary in
    let left = c.in_ok-left-in-Diff.left in
    let right = c.in_ok-right-in-Diff.right in
    let fine : IsFine D.tables (Diff c.in-Diff.left c.in-Diff.right) = subst (IsFine D.tables) c.in-Diff.is (parts_fine D.tables c.args.query.now c.requires.formed c.in-Diff.left c.in-Diff.right (diff_parts c.args.query.now c.in-Diff.left c.in-Diff.right c.in-Diff.is)) in
    let h : IsEvaluated old mid D c.in-Diff.left left = subst (λ (p : Query). IsEvaluated old mid D p left) c.get-in-Diff.ensures c.in_ok-left-in-Diff.ensures in
    let k : IsEvaluated mid new D c.in-Diff.right right = subst (λ (p : Query). IsEvaluated mid new D p right) c.get-in-Diff-2.ensures c.in_ok-right-in-Diff.ensures in
    IfOk-weaker c.subtracted.result (λ (r : Relation). AreSubtracted left right r) (λ (r : Relation). IsEvaluated old new D c.args.query.now r)
    (λ r j. subst (λ (q : Query). IsEvaluated old new D q r) (sym c.in-Diff.is) (diff_evaluated D old mid new c.in-Diff.left c.in-Diff.right left right r h k c.requires.apart fine j))
    c.subtracted.ensures

pub table-requires-clause-there : goal.table-requires-clause-there
table-requires-clause-there t c = table_there c.args.database.now.tables c.in-Table.name (leaf_fine c.args.database.now.tables (Table c.in-Table.name) (subst (IsWellFormed c.args.database.now.tables) c.in-Table.is c.requires.formed) refl)

pub returns-in-Null : goal.returns-in-Null
returns-in-Null t c =
    let D = c.args.database.now in
    let old = c.args.dictionary.now in
    IfOk-weaker c.null.result (λ (r : Relation). IsNullRow c.in-Null.name r) (λ (r : Relation). IsEvaluated old old D c.args.query.now r)
    (λ r k. subst (λ (q : Query). IsEvaluated old old D q r) (sym c.in-Null.is) (null_evaluated D old c.in-Null.name r k))
    c.null.ensures
