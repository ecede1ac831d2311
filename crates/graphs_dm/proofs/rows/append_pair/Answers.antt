use Rattle.std.proofs.Common.{◌≡◌, ◌∙◌, ◌<◌, ◌++◌, List, ℕ, Some, None, ap, length, rules, subst, sym}
use Rattle.std.specs.Prelude.{slice_get}
use Rattle.std.proofs.lemmas.List.{append-nil}
use Rattle.schema_dm.specs.declared.table.ForeignKey.{ForeignKey}
use Rattle.facts_dm.specs.Facts.{node_term}
use Rattle.ntriples_dm.specs.Written.{term_text}
use Rattle.table_csv.specs.Cells.{Row}
use Rattle.table_csv.specs.Databases.{rows_at}
use Rattle.keys_dm.specs.KeyCells.{row_at}
use Rattle.lines_dm.proofs.Appending.{on_more}
use Rattle.graphs_dm.specs.Levels.{referenced}
use Rattle.graphs_dm.specs.Lines.{link_line}
use Rattle.graphs_dm.specs.Nodes.{row_node}
use Rattle.graphs_dm.specs.Relations.{left_key, right_key}
use Rattle.graphs_dm.proofs.LineTexts.{no_left, no_right, pair_line}
use Rattle.graphs_dm.proofs.RelationRows.{first_references}
use Rattle.graphs_dm.proofs.rows.append_pair.Goals as goal

pub append_node-requires-clause-has : goal.append_node-requires-clause-has
append_node-requires-clause-has c =
    let D = c.args.source.now.database.now in
    let row : c.row-row.result.now ≡ row_at (rows_at c.args.source.now.database.now.rows c.args.t) c.args.i = c.row-row.ensures ∙ ap (λ (rows : List Row). row_at rows c.args.i) c.rows_of.ensures.value in
    let left : c.first_referenced-left.result ≡ Some c.in-Some.j = search rules in
    let first : slice_get (referenced D (left_key D.tables c.args.t c.args.sides) (row_at (rows_at D.rows c.args.t) c.args.i)) 0 ≡ Some c.in-Some.j =
    sym (sym left ∙ c.first_referenced-left.ensures ∙ ap (λ (r : Row). slice_get (referenced D (left_key D.tables c.args.t c.args.sides) r) 0) row) in
    record {
      table = c.key_of.ensures.target;
      row = subst (λ (key : ForeignKey). c.in-Some.j < length (rows_at c.args.source.now.database.now.rows key.target)) (sym c.key_of.ensures.value)
          (first_references D c.args.t c.args.i (left_key D.tables c.args.t c.args.sides) c.in-Some.j first).1.0;
    }

pub append_link-requires-clause-has : goal.append_link-requires-clause-has
append_link-requires-clause-has c =
    let D = c.args.source.now.database.now in
    let row : c.row-row.result.now ≡ row_at (rows_at c.args.source.now.database.now.rows c.args.t) c.args.i = c.row-row.ensures ∙ ap (λ (rows : List Row). row_at rows c.args.i) c.rows_of.ensures.value in
    let right : c.first_referenced-right.result ≡ Some c.in-Some-right.l = search rules in
    let second : slice_get (referenced D (right_key D.tables c.args.t c.args.sides) (row_at (rows_at D.rows c.args.t) c.args.i)) 0 ≡ Some c.in-Some-right.l =
    sym (sym right ∙ c.first_referenced-right.ensures ∙ ap (λ (r : Row). slice_get (referenced D (right_key D.tables c.args.t c.args.sides) r) 0) row) in
    record {
      table = c.key_of-in-Some-right.ensures.target;
      row = subst (λ (key : ForeignKey). c.in-Some-right.l < length (rows_at c.args.source.now.database.now.rows key.target)) (sym c.key_of-in-Some-right.ensures.value)
          (first_references D c.args.t c.args.i (right_key D.tables c.args.t c.args.sides) c.in-Some-right.l second).1.0;
    }

pub returns-in-None : goal.returns-in-None
returns-in-None c =
    let D = c.args.source.now.database.now in
    let row : c.row-row.result.now ≡ row_at (rows_at c.args.source.now.database.now.rows c.args.t) c.args.i = c.row-row.ensures ∙ ap (λ (rows : List Row). row_at rows c.args.i) c.rows_of.ensures.value in
    let left : c.first_referenced-left.result ≡ None = search rules in
    let first : slice_get (referenced D (left_key D.tables c.args.t c.args.sides) (row_at (rows_at D.rows c.args.t) c.args.i)) 0 ≡ None =
    sym (sym left ∙ c.first_referenced-left.ensures ∙ ap (λ (r : Row). slice_get (referenced D (left_key D.tables c.args.t c.args.sides) r) 0) row) in
    sym (ap (λ (l : List ℕ). c.args.out.now.items ++ l) (no_left c.args.source.now.base.now D c.args.t c.args.sides _ _ first) ∙ append-nil c.args.out.now.items)

pub returns-in-None-right : goal.returns-in-None-right
returns-in-None-right c =
    let D = c.args.source.now.database.now in
    let row : c.row-row.result.now ≡ row_at (rows_at c.args.source.now.database.now.rows c.args.t) c.args.i = c.row-row.ensures ∙ ap (λ (rows : List Row). row_at rows c.args.i) c.rows_of.ensures.value in
    let left : c.first_referenced-left.result ≡ Some c.in-Some.j = search rules in
    let first : slice_get (referenced D (left_key D.tables c.args.t c.args.sides) (row_at (rows_at D.rows c.args.t) c.args.i)) 0 ≡ Some c.in-Some.j =
    sym (sym left ∙ c.first_referenced-left.ensures ∙ ap (λ (r : Row). slice_get (referenced D (left_key D.tables c.args.t c.args.sides) r) 0) row) in
    let right : c.first_referenced-right.result ≡ None = search rules in
    let second : slice_get (referenced D (right_key D.tables c.args.t c.args.sides) (row_at (rows_at D.rows c.args.t) c.args.i)) 0 ≡ None =
    sym (sym right ∙ c.first_referenced-right.ensures ∙ ap (λ (r : Row). slice_get (referenced D (right_key D.tables c.args.t c.args.sides) r) 0) row) in
    sym (ap (λ (l : List ℕ). c.args.out.now.items ++ l) (no_right c.args.source.now.base.now D c.args.t c.args.sides _ _ c.in-Some.j first second) ∙ append-nil c.args.out.now.items)

pub returns-in_ok-append_node-in-Some-right : goal.returns-in_ok-append_node-in-Some-right
returns-in_ok-append_node-in-Some-right c =
    let D = c.args.source.now.database.now in
    let row : c.row-row.result.now ≡ row_at (rows_at c.args.source.now.database.now.rows c.args.t) c.args.i = c.row-row.ensures ∙ ap (λ (rows : List Row). row_at rows c.args.i) c.rows_of.ensures.value in
    let left : c.first_referenced-left.result ≡ Some c.in-Some.j = search rules in
    let first : slice_get (referenced D (left_key D.tables c.args.t c.args.sides) (row_at (rows_at D.rows c.args.t) c.args.i)) 0 ≡ Some c.in-Some.j =
    sym (sym left ∙ c.first_referenced-left.ensures ∙ ap (λ (r : Row). slice_get (referenced D (left_key D.tables c.args.t c.args.sides) r) 0) row) in
    let right : c.first_referenced-right.result ≡ Some c.in-Some-right.l = search rules in
    let second : slice_get (referenced D (right_key D.tables c.args.t c.args.sides) (row_at (rows_at D.rows c.args.t) c.args.i)) 0 ≡ Some c.in-Some-right.l =
    sym (sym right ∙ c.first_referenced-right.ensures ∙ ap (λ (r : Row). slice_get (referenced D (right_key D.tables c.args.t c.args.sides) r) 0) row) in
    let base = c.args.source.now.base.now in
    let subject : c.as_slice.result.now ≡ term_text (node_term (row_node base D c.key_of.result.now.target c.in-Some.j)) =
    c.as_slice.ensures.value ∙ c.in_ok-append_node-in-Some-right.ensures ∙ ap (λ (l : List ℕ). l ++ term_text (node_term (row_node base D c.key_of.result.now.target c.in-Some.j))) c.clear.ensures.items in
    on_more c.append_link.result c.append_link.new.out.items c.args.out.now.items _ _ c.append_link.ensures
    ((λ s. link_line base D (subject s) c.args.head.now c.key_of-in-Some-right.result.now.target c.in-Some-right.l)
    ∙ (λ s. link_line base D (term_text (node_term (row_node base D (c.key_of.ensures.value s).target c.in-Some.j))) c.args.head.now (c.key_of-in-Some-right.ensures.value s).target c.in-Some-right.l)
    ∙ pair_line base D c.args.t c.args.sides _ _ c.args.head.now c.in-Some.j c.in-Some-right.l first second c.requires.head)
