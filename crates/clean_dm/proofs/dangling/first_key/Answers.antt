use Rattle.std.proofs.Common.{◌≡◌, ◌∙◌, ◌<◌, ◌≤◌, List, ap, refl, length, get_or, arith, subst, true}
use Rattle.std.specs.Prelude.{◌↔◌}
use Rattle.std.proofs.lemmas.Option.{slice_get_read}
use Rattle.members_dm.proofs.ElementsLemmas.{item_at_index}
use Rattle.schema_dm.specs.Schemas.{IsForeignKey, table_at}
use Rattle.schema_dm.specs.declared.table.Table.{Table}
use Rattle.table_csv.specs.Cells.{Row}
use Rattle.table_csv.specs.Databases.{rows_at}
use Rattle.keys_dm.specs.KeyCells.{row_at}
use Rattle.clean_dm.specs.Parts.{DanglesIn}
use Rattle.clean_dm.specs.RowSets.{Has}
use Rattle.clean_dm.proofs.FirstKey.{first_key_found, none_at_all, none_on}
use Rattle.clean_dm.proofs.dangling.first_key.Goals as goal

pub is_dangling-requires-clause-key : goal.is_dangling-requires-clause-key
is_dangling-requires-clause-key c =
    let items : c.as_slice-key-items.result.now ≡ (table_at c.args.database.now.tables c.args.table).foreign = c.as_slice-key-items.ensures ∙ ap (λ (table : Table). table.foreign) c.table_of.ensures.value in
    let below : c.loop-place.place < length (table_at c.args.database.now.tables c.args.table).foreign = rw items at c.loop-place-test.true in
    let read : c.key-item.result ≡ get_or (table_at c.args.database.now.tables c.args.table).foreign c.loop-place.place c.key-item.result = rw items at c.key-item.is in
    slice_get_read (table_at c.args.database.now.tables c.args.table).foreign (length (table_at c.args.database.now.tables c.args.table).foreign) c.loop-place.place c.key-item.result refl below read

pub is_dangling-requires-clause-lawful : goal.is_dangling-requires-clause-lawful
is_dangling-requires-clause-lawful c =
    let below : c.loop-place.place < length c.table_of.result.now.foreign = rw c.as_slice-key-items.ensures at c.loop-place-test.true in
    let read : c.key-item.result ≡ get_or c.table_of.result.now.foreign c.loop-place.place c.key-item.result = rw c.as_slice-key-items.ensures at c.key-item.is in
    let there = slice_get_read c.table_of.result.now.foreign (length c.table_of.result.now.foreign) c.loop-place.place c.key-item.result refl below read in
    subst (λ (table : Table). IsForeignKey c.args.database.now.tables table c.key-item.result) c.table_of.ensures.value (c.table_of.ensures.lawful.foreign c.key-item.result (item_at_index c.key-item.result c.table_of.result.now.foreign c.loop-place.place there))

pub returns-then-is_dangling-clause-some : goal.returns-then-is_dangling-clause-some
returns-then-is_dangling-clause-some c =
    let items : c.as_slice-key-items.result.now ≡ (table_at c.args.database.now.tables c.args.table).foreign = c.as_slice-key-items.ensures ∙ ap (λ (table : Table). table.foreign) c.table_of.ensures.value in
    let below : c.loop-place.place < length (table_at c.args.database.now.tables c.args.table).foreign = rw items at c.loop-place-test.true in
    let read : c.key-item.result ≡ get_or (table_at c.args.database.now.tables c.args.table).foreign c.loop-place.place c.key-item.result = rw items at c.key-item.is in
    let there = slice_get_read (table_at c.args.database.now.tables c.args.table).foreign (length (table_at c.args.database.now.tables c.args.table).foreign) c.loop-place.place c.key-item.result refl below read in
    let row : c.row-cells.result.now ≡ row_at (rows_at c.args.database.now.rows c.args.table) c.args.row = c.row-cells.ensures ∙ ap (λ (rows : List Row). row_at rows c.args.row) c.rows_of.ensures.value in
    let told = subst (λ (r : Row). (c.is_dangling.result ≡ true) ↔ DanglesIn (Has c.args.left.now c.key-item.result.target) (rows_at c.args.database.now.rows c.key-item.result.target) c.key-item.result r) row c.is_dangling.ensures in
    first_key_found c.args.database.now c.args.left.now c.args.table c.args.row c.loop-place.place c.key-item.result c.requires.there there (told.0 c.if-is_dangling.true) c.loop-place.invariant

pub loop-place-preserved : goal.loop-place-preserved
loop-place-preserved c =
    let items : c.as_slice-key-items.result.now ≡ (table_at c.args.database.now.tables c.args.table).foreign = c.as_slice-key-items.ensures ∙ ap (λ (table : Table). table.foreign) c.table_of.ensures.value in
    let below : c.loop-place.place < length (table_at c.args.database.now.tables c.args.table).foreign = rw items at c.loop-place-test.true in
    let read : c.key-item.result ≡ get_or (table_at c.args.database.now.tables c.args.table).foreign c.loop-place.place c.key-item.result = rw items at c.key-item.is in
    let there = slice_get_read (table_at c.args.database.now.tables c.args.table).foreign (length (table_at c.args.database.now.tables c.args.table).foreign) c.loop-place.place c.key-item.result refl below read in
    let row : c.row-cells.result.now ≡ row_at (rows_at c.args.database.now.rows c.args.table) c.args.row = c.row-cells.ensures ∙ ap (λ (rows : List Row). row_at rows c.args.row) c.rows_of.ensures.value in
    let told = subst (λ (r : Row). (c.is_dangling.result ≡ true) ↔ DanglesIn (Has c.args.left.now c.key-item.result.target) (rows_at c.args.database.now.rows c.key-item.result.target) c.key-item.result r) row c.is_dangling.ensures in
    none_on c.args.database.now c.args.left.now c.args.table c.args.row c.loop-place.place c.key-item.result there (λ h. let yes = told.1 h in let no = c.if-is_dangling.false in cc) c.loop-place.invariant

pub returns-clause-none : goal.returns-clause-none
returns-clause-none c =
    let items : c.as_slice-key-items.result.now ≡ (table_at c.args.database.now.tables c.args.table).foreign = c.as_slice-key-items.ensures ∙ ap (λ (table : Table). table.foreign) c.table_of.ensures.value in
    let whole : length (table_at c.args.database.now.tables c.args.table).foreign ≤ c.loop-place.place = rw items at c.loop-place-test.false in
    none_at_all c.args.database.now c.args.left.now c.args.table c.args.row c.loop-place.place whole c.loop-place.invariant

pub returns-then-is_dangling-clause-few : goal.returns-then-is_dangling-clause-few
returns-then-is_dangling-clause-few c =
    let few : length (rows_at c.args.database.now.rows c.args.table) ≤ 4194304 = rw c.rows_of.ensures.value at c.rows_of.ensures.few in
    omega (arith, few, c.requires.row)
