use Rattle.std.proofs.Common.{◌≡◌, ◌∙◌, ◌++◌, ap, arith, length, List, ℕ}
use Rattle.members_dm.specs.Places.{levels}
use Rattle.ntriples_dm.specs.Written.{term_text}
use Rattle.table_csv.specs.Cells.{Row}
use Rattle.keys_dm.specs.KeyCells.{row_at}
use Rattle.lines_dm.proofs.Appending.{on_more}
use Rattle.graphs_dm.specs.Levels.{row_group, text_of}
use Rattle.graphs_dm.specs.Nodes.{row_node}
use Rattle.table_csv.proofs.Zips.{zipped_length}
use Rattle.graphs_dm.specs.Heads.{AreHeads}
use Rattle.schema_dm.specs.Schemas.{table_at}
use Rattle.graphs_dm.proofs.Keys.{heads_at}
use Rattle.graphs_dm.proofs.NodeLaws.{is_table}
use Rattle.graphs_dm.proofs.rows.append_row.Goals as goal
use Rattle.facts_dm.specs.Facts.{node_term}

pub bounds-as_slice-t : goal.bounds-as_slice-t
bounds-as_slice-t c =
    let many = zipped_length (AreHeads c.args.source.now.base.now) c.args.source.now.database.now.tables c.args.source.now.heads.now c.requires.heads in
    let read = ap length c.as_slice.ensures in
    omega (arith, many, read, c.requires.has.table)

pub append_lines-requires-clause-lawful : goal.append_lines-requires-clause-lawful
append_lines-requires-clause-lawful c = is_table c.args.source.now.database.now c.rows_of.ensures.fits c.args.t c.requires.has.table

pub append_lines-requires-clause-own : goal.append_lines-requires-clause-own
append_lines-requires-clause-own c =
    heads_at c.args.source.now.base.now c.args.source.now.database.now.tables c.args.source.now.heads.now c.as_slice.result.now c.args.t c.index-as_slice-t.result c.requires.has.table c.requires.heads c.as_slice.ensures c.index-as_slice-t.is

pub returns : goal.returns
returns c =
    let base = c.args.source.now.base.now in
    let D = c.args.source.now.database.now in
    let node = row_node base D c.args.t c.args.i in
    let row = c.row-row.ensures ∙ ap (λ (rows : List Row). row_at rows c.args.i) c.rows_of.ensures.value in
    let subject : c.as_slice-2.result.now ≡ term_text (node_term node) = c.as_slice-2.ensures.value ∙ c.in_ok-append_node.ensures ∙ ap (λ (l : List ℕ). l ++ term_text (node_term node)) c.clear.ensures.items in
    on_more c.append_lines.result c.append_lines.new.out.items c.args.out.now.items _ _ (c.append_lines.ensures node subject) (λ s. text_of base (levels 4 (row_group base D node (table_at D.tables c.args.t) (row s) (c.is_marked-marked.ensures s))))
