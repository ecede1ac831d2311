use Rattle.std.proofs.Common.{◌≡◌, ◌∙◌, List, Some, length, sym, refl, subst, arith}
use Rattle.std.specs.Prelude.{slice_get}
use Rattle.std.proofs.lemmas.Option.{slice_get_read}
use Rattle.members_dm.specs.Membership.{IsIn}
use Rattle.members_dm.proofs.ElementsLemmas.{item_within}
use Rattle.schema_dm.specs.Schemas.{IsSchema}
use Rattle.schema_dm.specs.declared.draft.Column.{Column}
use Rattle.schema_dm.specs.declared.table.Table.{Table}
use Rattle.table_csv.specs.CanonicalText.{AreTextColumns}
use Rattle.table_csv.specs.Cells.{AreRowsOf, Row}
use Rattle.table_csv.proofs.Databases.{text_columns, rows_fit}
use Rattle.large_tests.proofs.tests.text_at.Goals as goal

pub table_text-requires-clause-columns : goal.table_text-requires-clause-columns
table_text-requires-clause-columns c =
    let P : List Column → Type 0 = λ columns. AreTextColumns columns in
    let Q : Table → Type 0 = λ table. IsIn table c.tables-tables.result.now in
    let valid : IsSchema c.tables-tables.result.now = rw c.tables-tables.ensures.value c.tables-tables.ensures.valid in
    let there = item_within c.tables-tables.result.now c.args.place c.index-tables-at.result (omega arith) in
    subst P (sym c.in_ok-copy-2.ensures) (text_columns c.tables-tables.result.now valid c.index-tables-at.result (subst Q (sym c.index-tables-at.is) there))

pub table_text-requires-clause-rows : goal.table_text-requires-clause-rows
table_text-requires-clause-rows c =
    let P : List Table → Type 0 = λ tables. slice_get tables c.args.place ≡ Some c.index-tables-at.result in
    let there = slice_get_read c.tables-tables.result.now (length c.tables-tables.result.now) c.args.place c.index-tables-at.result refl (omega arith) c.index-tables-at.is in
    let fit = rows_fit c.args.database.now c.rows_of.ensures.fits c.args.place c.index-tables-at.result (subst P (c.tables-tables.ensures.value ∙ c.schema.ensures.value) there) in
    let Q : List Column → Type 0 = λ columns. AreRowsOf columns c.rows_of.result.now in
    let R : List Row → Type 0 = λ rows. AreRowsOf c.index-tables-at.result.columns rows in
    subst Q (sym c.in_ok-copy-2.ensures) (subst R (sym c.rows_of.ensures.value) fit)
