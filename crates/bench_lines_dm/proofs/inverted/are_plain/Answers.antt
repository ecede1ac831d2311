use Rattle.std.proofs.Common.{◌≡◌, ◌∙◌, List, length, get_or, ap, sym, subst, arith}
use Rattle.members_dm.proofs.ElementsLemmas.{item_within}
use Rattle.schema_dm.specs.Shapes.{IsShape, IsShapeTable}
use Rattle.table_csv.specs.Cells.{Row}
use Rattle.inverse_dm.specs.Parts.{shape_of}
use Rattle.schema_dm.specs.declared.table.ShapeTable.{ShapeTable}
use Rattle.schema_dm.specs.declared.table.Table.{Table}
use Rattle.bench_lines_dm.proofs.PlainTables.{as_many_tables, fits_there, plain_there}
use Rattle.bench_lines_dm.proofs.inverted.are_plain.Goals as goal

pub returns-then-shapes-declared : goal.returns-then-shapes-declared
returns-then-shapes-declared c =
    absurd (c.if-shapes-declared.true (ap (λ (shapes : List ShapeTable). length shapes) (c.as_slice-shapes.ensures.value ∙ c.shape.ensures) ∙ as_many_tables c.args.database.now c.args.tables.now c.requires
    ∙ sym (ap (λ (tables : List Table). length tables) (c.tables-declared.ensures.value ∙ c.schema.ensures.value))))

pub stands_in-requires-clause-shape : goal.stands_in-requires-clause-shape
stands_in-requires-clause-shape c =
    let shape : IsShape c.as_slice-shapes.result.now = subst IsShape (sym c.as_slice-shapes.ensures.value) c.as_slice-shapes.ensures.shape in
    subst IsShapeTable (sym c.index-shapes-place.is) (shape.each _ (item_within c.as_slice-shapes.result.now c.loop-place.place c.index-shapes-place.result c.loop-place-test.true))

pub stands_in-requires-clause-others : goal.stands_in-requires-clause-others
stands_in-requires-clause-others c =
    fits_there c.args.tables.now c.as_slice-shapes.result.now c.rows-rows.result.now (c.as_slice-shapes.ensures.value ∙ c.shape.ensures) c.rows-rows.ensures.value c.rows-rows.ensures.fits
    c.loop-place.place c.index-shapes-place.result c.index-rows-place.result c.loop-place-test.true c.index-shapes-place.is c.index-rows-place.is

pub stands_in-requires-clause-there : goal.stands_in-requires-clause-there
stands_in-requires-clause-there c =
    let shapes : c.as_slice-shapes.result.now ≡ shape_of c.args.tables.now = c.as_slice-shapes.ensures.value ∙ c.shape.ensures in
    let count = ap (λ (xs : List ShapeTable). length xs) shapes in
    plain_there c.args.database.now c.args.tables.now c.requires c.loop-place.place c.index-shapes-place.result c.index-rows-place.result (omega arith)
    (c.index-shapes-place.is ∙ ap (λ (xs : List ShapeTable). get_or xs c.loop-place.place c.index-shapes-place.result) shapes)
    (c.index-rows-place.is ∙ ap (λ (xs : List (List Row)). get_or xs c.loop-place.place c.index-rows-place.result) c.rows-rows.ensures.value)
