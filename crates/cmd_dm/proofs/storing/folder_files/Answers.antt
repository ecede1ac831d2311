use Rattle.std.proofs.Common.{◌≡◌, refl, sym, subst, arith, List, Some, get_or, length}
use Rattle.std.specs.Prelude.{slice_get}
use Rattle.std.proofs.lemmas.Option.{slice_get_read}
use Rattle.members_dm.proofs.ElementsLemmas.{item_at_index}
use Rattle.schema_dm.specs.declared.table.ShapeTable.{ShapeTable}
use Rattle.table_csv.specs.Cells.{AreRowsOf, Row}
use Rattle.table_csv.proofs.Zips.{zipped_at, zipped_length}
use Rattle.cmd_dm.proofs.FileLemmas.{all_files, files_more}
use Rattle.cmd_dm.proofs.storing.folder_files.Goals as goal

pub bounds-rows-place : goal.bounds-rows-place
bounds-rows-place c =
    let long = zipped_length (λ (table : ShapeTable) (rows : List Row). AreRowsOf table.columns rows) c.args.tables.now c.args.rows.now c.requires.rows in
    omega (arith, long, c.loop-place-test.true)

pub table_entry-requires-clause-columns : goal.table_entry-requires-clause-columns
table_entry-requires-clause-columns c =
    c.requires.columns c.index-tables-place.result
    (item_at_index c.index-tables-place.result c.args.tables.now c.loop-place.place (slice_get_read _ _ c.loop-place.place _ refl c.loop-place-test.true c.index-tables-place.is))

pub table_entry-requires-clause-rows : goal.table_entry-requires-clause-rows
table_entry-requires-clause-rows c =
    let table = c.index-tables-place.result in
    let rows = c.index-rows-place.result in
    let fits : AreRowsOf (get_or c.args.tables.now c.loop-place.place table).columns (get_or c.args.rows.now c.loop-place.place rows) =
    zipped_at (λ (table : ShapeTable) (rows : List Row). AreRowsOf table.columns rows) c.args.tables.now c.args.rows.now c.loop-place.place table rows c.requires.rows c.loop-place-test.true in
    subst (λ (t : ShapeTable). AreRowsOf t.columns rows) (sym c.index-tables-place.is)
    (subst (λ (r : List Row). AreRowsOf (get_or c.args.tables.now c.loop-place.place table).columns r) (sym c.index-rows-place.is) fits)

pub loop-place-preserved : goal.loop-place-preserved
loop-place-preserved c =
    let table = c.index-tables-place.result in
    let rows = c.index-rows-place.result in
    let long = zipped_length (λ (table : ShapeTable) (rows : List Row). AreRowsOf table.columns rows) c.args.tables.now c.args.rows.now c.requires.rows in
    let here : slice_get c.args.tables.now c.loop-place.place ≡ Some table = slice_get_read _ _ c.loop-place.place _ refl c.loop-place-test.true c.index-tables-place.is in
    let there : slice_get c.args.rows.now c.loop-place.place ≡ Some rows = slice_get_read _ _ c.loop-place.place _ refl (omega (arith, long, c.loop-place-test.true)) c.index-rows-place.is in
    rw c.in_ok-push-2.ensures.ok
    (files_more c.args.folder.now _ c.args.tables.now c.args.rows.now c.loop-place.place table rows c.loop-place.files c.in_ok-table_entry.field-0 here there c.in_ok-table_entry.ensures c.loop-place.invariant)

pub returns : goal.returns
returns c =
    let long = zipped_length (λ (table : ShapeTable) (rows : List Row). AreRowsOf table.columns rows) c.args.tables.now c.args.rows.now c.requires.rows in
    let all : length c.args.tables.now ≡ c.loop-place.place = omega (arith, c.loop-place-test.false, c.loop-place.auto) in
    all_files c.args.folder.now _ c.args.tables.now c.args.rows.now c.loop-place.place c.loop-place.files all (omega (arith, long, all)) c.loop-place.invariant
