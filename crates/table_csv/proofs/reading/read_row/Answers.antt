use Rattle.std.proofs.Common.{◌∙◌, refl, sym, ap, arith, length, get_or}
use Rattle.std.proofs.lemmas.List.{length-take}
use Rattle.std.proofs.lemmas.Result.{err_from_is_err_and}
use Rattle.csv.specs.Records.{fields_of}
use Rattle.table_csv.proofs.Fields.{field_end, field_got}
use Rattle.table_csv.proofs.RowLemmas.{cells_more, order_place, row_fault, row_read}
use Rattle.table_csv.proofs.reading.read_row.Goals as goal

pub returns-in_default-clause-err : goal.returns-in_default-clause-err
returns-in_default-clause-err c =
    let none = rw c.in_default.is at c.get.ensures.value in
    let whole = ap length (field_end (fields_of c.args.fields.now) c.loop-at.at (sym none)) in
    let part = length-take c.loop-at.at (fields_of c.args.fields.now) in
    absurd (omega (arith, whole, part, c.requires.each, c.len.ensures, c.if-len-columns.false, c.loop-at-test.true))

pub offset_bounds-columns-place : goal.offset_bounds-columns-place
offset_bounds-columns-place c = let lt = order_place c.args.columns.now c.args.order.now c.requires c.loop-at.at c.loop-at-test.true in omega (arith, lt)

pub bounds-columns-place : goal.bounds-columns-place
bounds-columns-place c = order_place c.args.columns.now c.args.order.now c.requires c.loop-at.at c.loop-at-test.true

pub returns-in_err-cells-2-clause-err : goal.returns-in_err-cells-2-clause-err
returns-in_err-cells-2-clause-err c =
    let p = err_from_is_err_and c.from_residual-in_err-cells-2.result c.from_residual-in_err-cells-2.ensures.1 in
    rw (p.1, p.2)
    (row_fault c.args.columns.now c.args.mode (fields_of c.args.fields.now) c.args.order.now c.loop-at.at (get_or c.args.order.now c.loop-at.at 0) c.args.number c.loop-at.cells.items c.index-columns-place.result c.in-Some.field.now
    c.in_err-cells-2.field-0.0 c.requires c.loop-at-test.true refl c.index-columns-place.is (sym (field_got (fields_of c.args.fields.now) c.loop-at.at) ∙ sym c.in-Some.ensures.value) c.loop-at.invariant
    (sym c.len.ensures ∙ c.if-len-columns.false) c.in_err-cells-2.ensures.err)

pub index_mut-requires : goal.index_mut-requires
index_mut-requires c =
    let lt = order_place c.args.columns.now c.args.order.now c.requires c.loop-at.at c.loop-at-test.true in
    omega (arith, lt, c.loop-at.invariant.size, c.loop-at.cells.ok.0)

pub loop-at-preserved : goal.loop-at-preserved
loop-at-preserved c =
    cells_more c.args.columns.now c.args.mode (fields_of c.args.fields.now) c.args.order.now c.loop-at.at (get_or c.args.order.now c.loop-at.at 0) c.loop-at.cells.items c.index-columns-place.result c.in-Some.field.now c.in_ok-cells-2.field-0
    c.requires c.loop-at-test.true refl c.index-columns-place.is (sym (field_got (fields_of c.args.fields.now) c.loop-at.at) ∙ sym c.in-Some.ensures.value) c.in_ok-cells-2.ensures.ok c.loop-at.invariant

pub returns-clause-ok : goal.returns-clause-ok
returns-clause-ok c =
    rw c.from_vec.ensures (row_read c.args.columns.now c.args.mode (fields_of c.args.fields.now) c.args.order.now c.loop-at.at c.loop-at.cells.items c.requires (sym c.len.ensures ∙ c.if-len-columns.false) c.loop-at-test.false c.loop-at.invariant)
