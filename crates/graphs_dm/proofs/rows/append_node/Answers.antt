use Rattle.std.proofs.Common.{◌∙◌, ◌+◌, ap, arith, length, sym, List}
use Rattle.std.specs.Prelude.{if◌then◌else◌}
use Rattle.schema_dm.specs.Schemas.{table_at}
use Rattle.names_dm.specs.Labels.{row_label}
use Rattle.names_dm.specs.Rows.{row_iri}
use Rattle.facts_dm.specs.Facts.{Node, blank, iri, node_term}
use Rattle.ntriples_dm.specs.Written.{iri_text, term_text}
use Rattle.table_csv.proofs.Zips.{zipped_length}
use Rattle.table_csv.specs.Cells.{Row}
use Rattle.table_csv.specs.Databases.{rows_at}
use Rattle.keys_dm.specs.KeyCells.{row_at}
use Rattle.lines_dm.proofs.Appending.{on_more}
use Rattle.graphs_dm.specs.Heads.{AreHeads}
use Rattle.graphs_dm.specs.Nodes.{primary_parts}
use Rattle.graphs_dm.proofs.KeyRows.{node_is}
use Rattle.graphs_dm.proofs.Keys.{heads_at}
use Rattle.graphs_dm.proofs.rows.append_node.Goals as goal

pub bounds-as_slice-t : goal.bounds-as_slice-t
bounds-as_slice-t c =
    let many = zipped_length (AreHeads c.args.source.now.base.now) c.args.source.now.database.now.tables c.args.source.now.heads.now c.requires.heads in
    let read = ap length c.as_slice.ensures in
    omega (arith, many, read, c.requires.has.table)

pub append_key_node-requires : goal.append_key_node-requires
append_key_node-requires c =
    rw c.table_of-table.ensures.value
    (heads_at c.args.source.now.base.now c.args.source.now.database.now.tables c.args.source.now.heads.now c.as_slice.result.now c.args.t c.index-as_slice-t.result c.requires.has.table c.requires.heads c.as_slice.ensures c.index-as_slice-t.is)

pub returns-then-told : goal.returns-then-told
returns-then-told c =
    let base = c.args.source.now.base.now in
    let D = c.args.source.now.database.now in
    let table = c.table_of-table.ensures.value in
    let row = c.row-row.ensures ∙ ap (λ (rows : List Row). row_at rows c.args.i) c.rows_of.ensures.value in
    let node = node_is base D c.args.t c.args.i c.has_own_key-told.result c.requires.has.row c.has_own_key-told.ensures in
    on_more c.append_key_node.result c.append_key_node.new.out.items c.args.out.now.items _ _ c.append_key_node.ensures
    ((λ s. iri_text (row_iri base (table s).name (primary_parts (table s).columns (row s) (table s).primary)))
    ∙ sym (ap (λ (n : Node). term_text (node_term n)) (node ∙ (λ s. if c.if-told.true s then iri (row_iri base (table_at D.tables c.args.t).name (primary_parts (table_at D.tables c.args.t).columns (row_at (rows_at D.rows c.args.t) c.args.i) (table_at D.tables c.args.t).primary)) else blank (row_label (c.args.t + 1) (c.args.i + 1))))))

pub returns-else-told : goal.returns-else-told
returns-else-told c =
    let base = c.args.source.now.base.now in
    let D = c.args.source.now.database.now in
    let node = node_is base D c.args.t c.args.i c.has_own_key-told.result c.requires.has.row c.has_own_key-told.ensures in
    on_more c.append_blank.result c.append_blank.new.out.items c.args.out.now.items _ _ c.append_blank.ensures
    (sym (ap (λ (n : Node). term_text (node_term n)) (node ∙ (λ s. if c.if-told.false s then iri (row_iri base (table_at D.tables c.args.t).name (primary_parts (table_at D.tables c.args.t).columns (row_at (rows_at D.rows c.args.t) c.args.i) (table_at D.tables c.args.t).primary)) else blank (row_label (c.args.t + 1) (c.args.i + 1))))))
