use Rattle.std.proofs.Common.{refl, ◌≡◌, ◌∙◌, ◌<◌, ◌≤◌, [], ◌∷◌, ◌++◌, cond, List, ap, get_or, length, subst, true}
use Rattle.std.proofs.lemmas.Option.{slice_get_read}
use Rattle.members_dm.proofs.ElementsLemmas.{item_at_index}
use Rattle.std.specs.Prelude.{◌↔◌}
use Rattle.schema_dm.specs.Schemas.{table_at}
use Rattle.schema_dm.specs.declared.table.Table.{Table}
use Rattle.table_csv.specs.Cells.{Row}
use Rattle.table_csv.specs.Databases.{rows_at}
use Rattle.keys_dm.specs.KeyCells.{row_at}
use Rattle.keys_dm.specs.Violations.{IsDangling}
use Rattle.keys_dm.specs.declared.violation.Violation.{Violation}
use Rattle.keys_dm.proofs.RowLevels.{foreign_all, foreign_none, foreign_turn}
use Rattle.keys_dm.proofs.row.push_of_foreign.Goals as goal

pub loop-place-init : goal.loop-place-init
loop-place-init c = foreign_none c.args.database.now c.args.spot.table c.args.spot.row c.args.found.now

pub returns : goal.returns
returns c =
    let items : c.as_slice-key-items.result.now ≡ (table_at c.args.database.now.tables c.args.spot.table).foreign = c.as_slice-key-items.ensures ∙ ap (λ (table : Table). table.foreign) c.table_of-table.ensures.value in
    let whole : length (table_at c.args.database.now.tables c.args.spot.table).foreign ≤ c.loop-place.place = rw items at c.loop-place-test.false in
    foreign_all c.args.database.now c.args.spot.table c.args.spot.row c.loop-place.place c.args.found.now c.loop-place.found whole c.loop-place.invariant

pub loop-place-preserved : goal.loop-place-preserved
loop-place-preserved c =
    let items : c.as_slice-key-items.result.now ≡ (table_at c.args.database.now.tables c.args.spot.table).foreign = c.as_slice-key-items.ensures ∙ ap (λ (table : Table). table.foreign) c.table_of-table.ensures.value in
    let below : c.loop-place.place < length (table_at c.args.database.now.tables c.args.spot.table).foreign = rw items at c.loop-place-test.true in
    let read : c.key-item.result ≡ get_or (table_at c.args.database.now.tables c.args.spot.table).foreign c.loop-place.place c.key-item.result = rw items at c.key-item.is in
    let there = slice_get_read (table_at c.args.database.now.tables c.args.spot.table).foreign (length (table_at c.args.database.now.tables c.args.spot.table).foreign) c.loop-place.place c.key-item.result refl below read in
    let row : c.row-row.result.now ≡ row_at (rows_at c.args.database.now.rows c.args.spot.table) c.args.spot.row = c.row-row.ensures ∙ ap (λ (rows : List Row). row_at rows c.args.spot.row) c.rows_of.ensures.value in
    let told = subst (λ (r : Row). (c.is_dangling-dangling.result ≡ true) ↔ IsDangling (rows_at c.args.database.now.rows c.key-item.result.target) c.key-item.result r) row c.is_dangling-dangling.ensures in
    foreign_turn c.args.database.now c.args.spot.table c.args.spot.row c.loop-place.place c.key-item.result c.is_dangling-dangling.result c.args.found.now c.loop-place.found c.push_if.new.found there told c.loop-place.invariant
    (c.in_ok-push_if.ensures ∙ ap (λ (v : Violation). c.loop-place.found ++ cond c.is_dangling-dangling.result (v ∷ []) []) c.violation_of.ensures)

pub is_dangling-dangling-requires-clause-key : goal.is_dangling-dangling-requires-clause-key
is_dangling-dangling-requires-clause-key c =
    let items : c.as_slice-key-items.result.now ≡ (table_at c.args.database.now.tables c.args.spot.table).foreign = c.as_slice-key-items.ensures ∙ ap (λ (table : Table). table.foreign) c.table_of-table.ensures.value in
    let below : c.loop-place.place < length (table_at c.args.database.now.tables c.args.spot.table).foreign = rw items at c.loop-place-test.true in
    let read : c.key-item.result ≡ get_or (table_at c.args.database.now.tables c.args.spot.table).foreign c.loop-place.place c.key-item.result = rw items at c.key-item.is in
    slice_get_read (table_at c.args.database.now.tables c.args.spot.table).foreign (length (table_at c.args.database.now.tables c.args.spot.table).foreign) c.loop-place.place c.key-item.result refl below read

pub is_dangling-dangling-requires-clause-target : goal.is_dangling-dangling-requires-clause-target
is_dangling-dangling-requires-clause-target c =
    let below : c.loop-place.place < length c.table_of-table.result.now.foreign = rw c.as_slice-key-items.ensures at c.loop-place-test.true in
    let read : c.key-item.result ≡ get_or c.table_of-table.result.now.foreign c.loop-place.place c.key-item.result = rw c.as_slice-key-items.ensures at c.key-item.is in
    let there = slice_get_read c.table_of-table.result.now.foreign (length c.table_of-table.result.now.foreign) c.loop-place.place c.key-item.result refl below read in
    (c.table_of-table.ensures.lawful.foreign c.key-item.result (item_at_index c.key-item.result c.table_of-table.result.now.foreign c.loop-place.place there)).target
