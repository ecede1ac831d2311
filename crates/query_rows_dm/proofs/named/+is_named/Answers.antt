use Rattle.std.proofs.Common.{◌≡◌, ◌≢◌, ◌↔◌, [], true, refl, subst, sym}
use Rattle.members_dm.specs.Membership.{IsIn}
use Rattle.algebra_dm.specs.Nodes.{names_at}
use Rattle.algebra_dm.specs.declared.query.Query.{Query}
use Rattle.algebra_dm.specs.declared.query.Query.TheVariants.{Table, Null}
use Rattle.algebra_dm.proofs.TreeLemmas.{eq_part, ne_part, is_null_part, not_null_part, project_part, rename_part, join_parts, union_parts, diff_parts}
use Rattle.query_rows_dm.specs.Names.{AreNamed}
use Rattle.query_rows_dm.proofs.NamedLemmas.{both_true, leaf_named, one_name, part_named, parts_named, two_names}
use Rattle.query_rows_dm.proofs.named.+is_named.Goals as goal

pub returns-in-Table : goal.returns-in-Table
returns-in-Table t c = subst (λ (q : Query). (c.is_some.result ≡ true) ↔ AreNamed q) (sym c.in-Table.is)
    (leaf_named (Table c.in-Table.name) (c.in-Table.name ≢ []) refl (one_name c.in-Table.name) c.is_some.result c.is_some.ensures)

pub returns-in-Null : goal.returns-in-Null
returns-in-Null t c = subst (λ (q : Query). (c.is_some-in-Null.result ≡ true) ↔ AreNamed q) (sym c.in-Null.is)
    (leaf_named (Null c.in-Null.name) (c.in-Null.name ≢ []) refl (one_name c.in-Null.name) c.is_some-in-Null.result c.is_some-in-Null.ensures)

pub returns-in-Eq : goal.returns-in-Eq
returns-in-Eq t c =
    part_named c.args.query.now (c.in-Eq.name ≢ []) (subst (λ (q : Query). (¬ IsIn [] (names_at q)) ↔ (c.in-Eq.name ≢ [])) (sym c.in-Eq.is) (one_name c.in-Eq.name)) c.in-Eq.part c.get.result.now
    (eq_part c.args.query.now c.in-Eq.part c.in-Eq.name c.in-Eq.field-2 c.in-Eq.is) c.get.ensures c.is_named.result c.is_some-in-Eq.result c.both.result c.is_named.ensures c.is_some-in-Eq.ensures c.both.ensures

pub returns-in-Ne : goal.returns-in-Ne
returns-in-Ne t c =
    part_named c.args.query.now (c.in-Ne.name ≢ []) (subst (λ (q : Query). (¬ IsIn [] (names_at q)) ↔ (c.in-Ne.name ≢ [])) (sym c.in-Ne.is) (one_name c.in-Ne.name)) c.in-Ne.part c.get-in-Ne.result.now
    (ne_part c.args.query.now c.in-Ne.part c.in-Ne.name c.in-Ne.field-2 c.in-Ne.is) c.get-in-Ne.ensures c.is_named-in-Ne.result c.is_some-in-Ne.result c.both-in-Ne.result c.is_named-in-Ne.ensures c.is_some-in-Ne.ensures c.both-in-Ne.ensures

pub returns-in-IsNull : goal.returns-in-IsNull
returns-in-IsNull t c =
    part_named c.args.query.now (c.in-IsNull.name ≢ []) (subst (λ (q : Query). (¬ IsIn [] (names_at q)) ↔ (c.in-IsNull.name ≢ [])) (sym c.in-IsNull.is) (one_name c.in-IsNull.name)) c.in-IsNull.part c.get-in-IsNull.result.now
    (is_null_part c.args.query.now c.in-IsNull.part c.in-IsNull.name c.in-IsNull.is) c.get-in-IsNull.ensures c.is_named-in-IsNull.result c.is_some-in-IsNull.result c.both-in-IsNull.result c.is_named-in-IsNull.ensures c.is_some-in-IsNull.ensures c.both-in-IsNull.ensures

pub returns-in-NotNull : goal.returns-in-NotNull
returns-in-NotNull t c =
    part_named c.args.query.now (c.in-NotNull.name ≢ []) (subst (λ (q : Query). (¬ IsIn [] (names_at q)) ↔ (c.in-NotNull.name ≢ [])) (sym c.in-NotNull.is) (one_name c.in-NotNull.name)) c.in-NotNull.part c.get-in-NotNull.result.now
    (not_null_part c.args.query.now c.in-NotNull.part c.in-NotNull.name c.in-NotNull.is) c.get-in-NotNull.ensures c.is_named-in-NotNull.result c.is_some-in-NotNull.result c.both-in-NotNull.result c.is_named-in-NotNull.ensures c.is_some-in-NotNull.ensures c.both-in-NotNull.ensures

pub returns-in-Project : goal.returns-in-Project
returns-in-Project t c =
    part_named c.args.query.now (¬ IsIn [] c.in-Project.names) (subst (λ (q : Query). (¬ IsIn [] (names_at q)) ↔ (¬ IsIn [] c.in-Project.names)) (sym c.in-Project.is) ((λ h. h), (λ h. h))) c.in-Project.part c.get-in-Project.result.now
    (project_part c.args.query.now c.in-Project.part c.in-Project.names c.in-Project.is) c.get-in-Project.ensures c.is_named-in-Project.result c.are_some.result c.both-in-Project.result c.is_named-in-Project.ensures c.are_some.ensures c.both-in-Project.ensures

pub returns-in-Rename : goal.returns-in-Rename
returns-in-Rename t c =
    part_named c.args.query.now ((c.in-Rename.from ≢ []) × (c.in-Rename.to ≢ [])) (subst (λ (q : Query). (¬ IsIn [] (names_at q)) ↔ ((c.in-Rename.from ≢ []) × (c.in-Rename.to ≢ []))) (sym c.in-Rename.is) (two_names c.in-Rename.from c.in-Rename.to))
    c.in-Rename.part c.get-in-Rename.result.now (rename_part c.args.query.now c.in-Rename.part c.in-Rename.from c.in-Rename.to c.in-Rename.is) c.get-in-Rename.ensures c.is_named-in-Rename.result c.both-in-Rename.result c.both-in-Rename-2.result
    c.is_named-in-Rename.ensures (both_true c.is_some-in-Rename.result c.is_some-in-Rename-2.result c.both-in-Rename.result (c.in-Rename.from ≢ []) (c.in-Rename.to ≢ []) c.is_some-in-Rename.ensures c.is_some-in-Rename-2.ensures c.both-in-Rename.ensures)
    c.both-in-Rename-2.ensures

pub returns-in-Join : goal.returns-in-Join
returns-in-Join t c =
    parts_named c.args.query.now c.in-Join.left c.in-Join.right c.get-in-Join.result.now c.get-in-Join-2.result.now (join_parts c.args.query.now c.in-Join.left c.in-Join.right c.in-Join.is)
    (subst (λ (q : Query). ¬ IsIn [] (names_at q)) (sym c.in-Join.is) (λ h. h)) c.get-in-Join.ensures c.get-in-Join-2.ensures c.is_named-in-Join.result c.is_named-in-Join-2.result c.both-in-Join.result
    c.is_named-in-Join.ensures c.is_named-in-Join-2.ensures c.both-in-Join.ensures

pub returns-in-Union : goal.returns-in-Union
returns-in-Union t c =
    parts_named c.args.query.now c.in-Union.left c.in-Union.right c.get-in-Union.result.now c.get-in-Union-2.result.now (union_parts c.args.query.now c.in-Union.left c.in-Union.right c.in-Union.is)
    (subst (λ (q : Query). ¬ IsIn [] (names_at q)) (sym c.in-Union.is) (λ h. h)) c.get-in-Union.ensures c.get-in-Union-2.ensures c.is_named-in-Union.result c.is_named-in-Union-2.result c.both-in-Union.result
    c.is_named-in-Union.ensures c.is_named-in-Union-2.ensures c.both-in-Union.ensures

pub returns-in-Diff : goal.returns-in-Diff
returns-in-Diff t c =
    parts_named c.args.query.now c.in-Diff.left c.in-Diff.right c.get-in-Diff.result.now c.get-in-Diff-2.result.now (diff_parts c.args.query.now c.in-Diff.left c.in-Diff.right c.in-Diff.is)
    (subst (λ (q : Query). ¬ IsIn [] (names_at q)) (sym c.in-Diff.is) (λ h. h)) c.get-in-Diff.ensures c.get-in-Diff-2.ensures c.is_named-in-Diff.result c.is_named-in-Diff-2.result c.both-in-Diff.result
    c.is_named-in-Diff.ensures c.is_named-in-Diff-2.ensures c.both-in-Diff.ensures
