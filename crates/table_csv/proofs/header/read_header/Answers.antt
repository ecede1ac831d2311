use Rattle.std.proofs.Common.{◌∙◌, ◌<◌, ◌≤◌, sym, ap, inl, inr, arith, length}
use Rattle.csv.specs.Records.{fields_of}
use Rattle.table_csv.proofs.Fields.{field_end, field_next}
use Rattle.table_csv.proofs.HeaderLemmas.{bad_field, contained, missing_field, names_more, order_whole, repeated_field}
use Rattle.table_csv.proofs.header.read_header.Goals as goal

pub returns-in-None-column_place-clause-err : goal.returns-in-None-column_place-clause-err
returns-in-None-column_place-clause-err c =
    let inv = c.loop-field.invariant in
    let step = c.in-Some.ensures.steps in
    let next = field_next (fields_of c.args.header.now) c.loop-field.field-iterator.at c.in-Some.field.now (rw inv.0 at (sym step.1)) in
    let bad = bad_field c.args.columns.now (fields_of c.args.header.now) c.loop-field.field-iterator.at c.loop-field.order.items c.in-Some.field.now c.requires inv.1 next.1 (inl c.in-None-column_place.ensures.none) in
    rw (c.len.ensures, c.loop-field.order.ok.0) bad

pub returns-then-contains-clause-err : goal.returns-then-contains-clause-err
returns-then-contains-clause-err c =
    let inv = c.loop-field.invariant in
    let step = c.in-Some.ensures.steps in
    let next = field_next (fields_of c.args.header.now) c.loop-field.field-iterator.at c.in-Some.field.now (rw inv.0 at (sym step.1)) in
    let found = c.in-Some-column_place.ensures.found in
    let there = (contained c.loop-field.order.items c.in-Some-column_place.place).0 (sym (rw c.deref.ensures.value at c.contains.ensures.value) ∙ c.if-contains.true) in
    let again = repeated_field c.args.columns.now (fields_of c.args.header.now) c.loop-field.field-iterator.at c.in-Some-column_place.place c.loop-field.order.items c.in-Some.field.now inv.1 there found.1 in
    rw (c.len-then-contains.ensures, c.loop-field.order.ok.0)
    (bad_field c.args.columns.now (fields_of c.args.header.now) c.loop-field.field-iterator.at c.loop-field.order.items c.in-Some.field.now c.requires inv.1 next.1 (inr again))

pub loop-field-preserved : goal.loop-field-preserved
loop-field-preserved c =
    let inv = c.loop-field.invariant in
    let step = c.in-Some.ensures.steps in
    let next = field_next (fields_of c.args.header.now) c.loop-field.field-iterator.at c.in-Some.field.now (rw inv.0 at (sym step.1)) in
    let found = c.in-Some-column_place.ensures.found in
    let more = names_more c.args.columns.now (fields_of c.args.header.now) c.loop-field.field-iterator.at c.in-Some-column_place.place c.loop-field.order.items c.in-Some.field.now inv.1 next.0 found.0 found.1
    (λ there. cc ((contained c.loop-field.order.items c.in-Some-column_place.place).1 there, rw c.deref.ensures.value at c.contains.ensures.value, c.if-contains.false)) in
    (ap (λ r. r.now) step.0 ∙ inv.0, rw (step.2, c.in_ok-push.ensures.items) more)

pub returns-then-len-columns-clause-err : goal.returns-then-len-columns-clause-err
returns-then-len-columns-clause-err c =
    let inv = c.loop-field.invariant in
    let step = c.in-None.ensures.steps in
    let whole = field_end (fields_of c.args.header.now) c.loop-field.field-iterator.at (rw inv.0 at (sym step.1)) in
    let short : length c.loop-field.order.items < length c.args.columns.now = omega (arith, c.if-len-columns.true, c.len-2.ensures, c.loop-field.order.ok.0) in
    rw (c.len-then-len-columns.ensures, c.loop-field.order.ok.0)
    (missing_field c.args.columns.now (fields_of c.args.header.now) c.loop-field.field-iterator.at c.loop-field.order.items c.requires inv.1 whole short)

pub returns-clause-order : goal.returns-clause-order
returns-clause-order c =
    let inv = c.loop-field.invariant in
    let step = c.in-None.ensures.steps in
    let whole = field_end (fields_of c.args.header.now) c.loop-field.field-iterator.at (rw inv.0 at (sym step.1)) in
    let long : length c.args.columns.now ≤ length c.loop-field.order.items = omega (arith, c.if-len-columns.false, c.len-2.ensures, c.loop-field.order.ok.0) in
    (order_whole c.args.columns.now (fields_of c.args.header.now) c.loop-field.field-iterator.at c.loop-field.order.items c.requires inv.1 whole long).0

pub returns-clause-names : goal.returns-clause-names
returns-clause-names c =
    let inv = c.loop-field.invariant in
    let step = c.in-None.ensures.steps in
    let whole = field_end (fields_of c.args.header.now) c.loop-field.field-iterator.at (rw inv.0 at (sym step.1)) in
    sym whole ∙ inv.1.names
