use Rattle.std.proofs.Common.{refl, ◌≡◌, ◌∙◌, ◌<◌, ◌≤◌, [], ◌∷◌, ◌++◌, cond, List, ap, get_or, length, arith, subst, sym, true}
use Rattle.std.proofs.lemmas.Option.{slice_get_read}
use Rattle.schema_dm.specs.Schemas.{table_at}
use Rattle.schema_dm.specs.declared.table.Table.{Table}
use Rattle.table_csv.specs.Cells.{Row}
use Rattle.table_csv.specs.Databases.{rows_at}
use Rattle.table_csv.proofs.Zips.{zipped_length}
use Rattle.keys_dm.specs.Indexes.{IsIndexOf}
use Rattle.std.specs.Prelude.{◌↔◌}
use Rattle.keys_dm.specs.Violations.{IsRepeated}
use Rattle.keys_dm.specs.declared.violation.Violation.{Violation}
use Rattle.keys_dm.proofs.RowLevels.{unique_all, unique_none, unique_turn, zipped_read}
use Rattle.keys_dm.proofs.row.push_of_uniques.Goals as goal

pub bounds-as_slice-place : goal.bounds-as_slice-place
bounds-as_slice-place c =
    let items : c.as_slice-places-items.result.now ≡ (table_at c.args.database.now.tables c.args.spot.table).uniques = c.as_slice-places-items.ensures ∙ ap (λ (table : Table). table.uniques) c.table_of-table.ensures.value in
    let below : c.loop-place.place < length (table_at c.args.database.now.tables c.args.spot.table).uniques = rw items at c.loop-place-test.true in
    let long = zipped_length (IsIndexOf (rows_at c.args.database.now.rows c.args.spot.table)) (table_at c.args.database.now.tables c.args.spot.table).uniques c.of_table.result.now.uniques c.of_table.ensures.uniques in
    rw c.as_slice.ensures (omega (arith, below, long))

pub loop-place-init : goal.loop-place-init
loop-place-init c = unique_none c.args.database.now c.args.spot.table c.args.spot.row c.args.found.now

pub returns : goal.returns
returns c =
    let items : c.as_slice-places-items.result.now ≡ (table_at c.args.database.now.tables c.args.spot.table).uniques = c.as_slice-places-items.ensures ∙ ap (λ (table : Table). table.uniques) c.table_of-table.ensures.value in
    let whole : length (table_at c.args.database.now.tables c.args.spot.table).uniques ≤ c.loop-place.place = rw items at c.loop-place-test.false in
    unique_all c.args.database.now c.args.spot.table c.args.spot.row c.loop-place.place c.args.found.now c.loop-place.found whole c.loop-place.invariant

pub loop-place-preserved : goal.loop-place-preserved
loop-place-preserved c =
    let items : c.as_slice-places-items.result.now ≡ (table_at c.args.database.now.tables c.args.spot.table).uniques = c.as_slice-places-items.ensures ∙ ap (λ (table : Table). table.uniques) c.table_of-table.ensures.value in
    let below : c.loop-place.place < length (table_at c.args.database.now.tables c.args.spot.table).uniques = rw items at c.loop-place-test.true in
    let read : c.places-item.result ≡ get_or (table_at c.args.database.now.tables c.args.spot.table).uniques c.loop-place.place c.places-item.result = rw items at c.places-item.is in
    let there = slice_get_read (table_at c.args.database.now.tables c.args.spot.table).uniques (length (table_at c.args.database.now.tables c.args.spot.table).uniques) c.loop-place.place c.places-item.result refl below read in
    let told = subst (λ (rows : List Row). (c.is_repeated-repeated.result ≡ true) ↔ IsRepeated rows c.places-item.result c.args.spot.row) c.rows_of-rows.ensures.value c.is_repeated-repeated.ensures in
    unique_turn c.args.database.now c.args.spot.table c.args.spot.row c.loop-place.place c.places-item.result c.is_repeated-repeated.result c.args.found.now c.loop-place.found c.push_if.new.found there told c.loop-place.invariant
    (c.in_ok-push_if.ensures ∙ ap (λ (v : Violation). c.loop-place.found ++ cond c.is_repeated-repeated.result (v ∷ []) []) c.violation_of.ensures)

pub is_repeated-repeated-requires-clause-index : goal.is_repeated-repeated-requires-clause-index
is_repeated-repeated-requires-clause-index c =
    let items : c.as_slice-places-items.result.now ≡ (table_at c.args.database.now.tables c.args.spot.table).uniques = c.as_slice-places-items.ensures ∙ ap (λ (table : Table). table.uniques) c.table_of-table.ensures.value in
    let below : c.loop-place.place < length (table_at c.args.database.now.tables c.args.spot.table).uniques = rw items at c.loop-place-test.true in
    let read : c.places-item.result ≡ get_or (table_at c.args.database.now.tables c.args.spot.table).uniques c.loop-place.place c.places-item.result = rw items at c.places-item.is in
    let index_read : c.index-as_slice-place.result ≡ get_or c.of_table.result.now.uniques c.loop-place.place c.index-as_slice-place.result = rw c.as_slice.ensures at c.index-as_slice-place.is in
    let index = zipped_read (IsIndexOf (rows_at c.args.database.now.rows c.args.spot.table)) (table_at c.args.database.now.tables c.args.spot.table).uniques c.of_table.result.now.uniques c.loop-place.place c.places-item.result c.index-as_slice-place.result c.of_table.ensures.uniques below read index_read in
    subst (λ (rows : List Row). IsIndexOf rows c.places-item.result c.index-as_slice-place.result) (sym c.rows_of-rows.ensures.value) index
