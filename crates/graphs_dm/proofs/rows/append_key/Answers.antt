use Rattle.std.proofs.Common.{◌≡◌, ◌∙◌, sym, ap, true, false, ℕ, List}
use Rattle.std.proofs.lemmas.List.{append-nil}
use Rattle.std.specs.List.{flat_map}
use Rattle.table_csv.specs.Cells.{cells_at}
use Rattle.table_csv.specs.Databases.{rows_at}
use Rattle.keys_dm.specs.Entries.{positions_of}
use Rattle.lines_dm.proofs.Appending.{on_more}
use Rattle.graphs_dm.specs.Lines.{key_line, link_line}
use Rattle.graphs_dm.proofs.KeyRows.{flat_map-positions, in_null, not_null, rows_with_is}
use Rattle.graphs_dm.proofs.rows.append_key.Goals as goal

pub returns-then-has_null_at : goal.returns-then-has_null_at
unfolding key_line
returns-then-has_null_at c =
    let null = in_null (cells_at c.args.key.now.columns c.args.row.now) (c.has_null_at.ensures.0 c.if-has_null_at.true) in
    rw null (sym (append-nil c.args.out.now.items))

pub append_links-requires-clause-rows : goal.append_links-requires-clause-rows
append_links-requires-clause-rows c = λ j at. record { table = c.requires.target; row = ((c.referenced-entries.ensures.exact j).0 at).0 }

pub returns : goal.returns
unfolding key_line
returns c =
    let base = c.args.source.now.base.now in
    let D = c.args.source.now.database.now in
    let key = c.args.key.now in
    let cells = cells_at key.columns c.args.row.now in
    let none = not_null cells (λ null. let both : true ≡ false = sym (c.has_null_at.ensures.1 null) ∙ c.if-has_null_at.false in cc both) in
    let positions = rows_with_is (rows_at D.rows key.target) key.target_columns cells (positions_of c.referenced-entries.result.now) c.referenced-entries.ensures in
    let line : ℕ → List ℕ = link_line c.args.source.now.base.now c.args.source.now.database.now c.args.subject.now c.args.head.now c.args.key.now.target in
    rw none
    (on_more c.append_links.result c.append_links.new.out.items c.args.out.now.items _ _ c.append_links.ensures
    (flat_map-positions line c.referenced-entries.result.now ∙ ap (flat_map line) positions))
