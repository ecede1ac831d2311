use Rattle.std.proofs.Common.{◌∙◌, ◌++◌, ℕ, List, ap}
use Rattle.std.specs.Prelude.{length, slice_get}
use Rattle.schema_dm.specs.Schemas.{table_at}
use Rattle.facts_dm.specs.Facts.{node_term}
use Rattle.ntriples_dm.specs.Written.{term_text}
use Rattle.lines_dm.proofs.Appending.{on_same}
use Rattle.graphs_dm.specs.Heads.{cell_line, up_to}
use Rattle.graphs_dm.specs.Lines.{keys_line, mark_line}
use Rattle.graphs_dm.proofs.LineTexts.{cells_line, references_line, row_lines}
use Rattle.graphs_dm.proofs.rows.append_lines.Goals as goal

pub returns : goal.returns
returns c = λ node is.
    let base = c.args.source.now.base.now in
    let D = c.args.source.now.database.now in
    let table = table_at D.tables c.args.t in
    let row = c.args.row.now in
    let old = c.args.out.now.items in
    let subject = c.args.subject.now in
    let columns = c.as_slice-2.result.now in
    let references = c.as_slice-3.result.now in
    let cells : List ℕ = up_to (length columns) (λ k. cell_line subject (slice_get columns k) (slice_get row k)) in
    let keys : List ℕ = up_to (length table.foreign) (λ k. keys_line base D subject (slice_get references k) (slice_get table.foreign k) row) in
    let are_cells = ap (λ (s : List ℕ). up_to (length columns) (λ k. cell_line s (slice_get columns k) (slice_get row k))) is ∙ cells_line base node table columns row (c.as_slice-2.ensures ∙ c.requires.own.columns) in
    let are_keys = ap (λ (s : List ℕ). up_to (length table.foreign) (λ k. keys_line base D s (slice_get references k) (slice_get table.foreign k) row)) is
    ∙ references_line base node table D references row c.requires.lawful (c.as_slice-3.ensures ∙ c.requires.own.references) in
    on_same c.append_mark.result c.append_mark.new.out.items c.append_keys.new.out.items (mark_line c.args.marked subject) _ c.append_mark.ensures
    ((λ s. (c.in_ok-append_keys.ensures
    ∙ ap (λ (l : List ℕ). l ++ keys)
    (c.in_ok-append_cells.ensures
    ∙ ap (λ (l : List ℕ). l ++ cells)
    (c.in_ok-extend_from_slice-2.ensures.items ∙ ap (λ (l : List ℕ). l ++ c.as_slice.result.now) (c.in_ok-extend_from_slice.ensures.items ∙ ap (λ (l : List ℕ). old ++ l) is)
    ∙ ap (λ (l : List ℕ). (old ++ term_text (node_term node)) ++ l) (c.as_slice.ensures ∙ c.requires.own.class_text)))) s ++ mark_line c.args.marked (is s))
    ∙ row_lines base node table D row c.args.marked cells keys are_cells are_keys old)
