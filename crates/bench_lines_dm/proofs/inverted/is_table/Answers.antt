use Rattle.std.proofs.Common.{◌∙◌, sym}
use Rattle.bench_lines_dm.proofs.PlainTables.{are_found, as_many_columns, moved_rows, rows_moved, text_columns}
use Rattle.bench_lines_dm.proofs.inverted.is_table.Goals as goal

pub returns-then-len : goal.returns-then-len
returns-then-len c = absurd (c.if-len.true (c.len.ensures ∙ as_many_columns c.args.table.now c.args.rows.now c.args.plain.now c.args.others.now c.requires.plain ∙ sym c.len-2.ensures))

pub are_same_rows-requires-clause-columns : goal.are_same_rows-requires-clause-columns
are_same_rows-requires-clause-columns c = text_columns c.args.plain.now c.requires.shape

pub are_same_rows-requires-clause-rows : goal.are_same_rows-requires-clause-rows
are_same_rows-requires-clause-rows c =
    rows_moved c.args.plain.now.columns c.in_ok-moved-in-Some.moved c.args.others.now
    (moved_rows c.args.table.now c.args.rows.now c.args.plain.now c.args.others.now c.requires.plain c.as_slice.result.now c.as_slice-2.result.now c.in_ok-places.field-0 c.as_slice.ensures c.as_slice-2.ensures c.in_ok-places.ensures
    c.in-Some.places c.as_slice-in-Some.result.now c.in-Some.is c.as_slice-in-Some.ensures c.in_ok-moved-in-Some.moved c.in_ok-moved-in-Some.ensures) c.requires.others

pub returns-in_ok-moved-in-Some : goal.returns-in_ok-moved-in-Some
returns-in_ok-moved-in-Some c =
    c.are_same_rows.ensures
    (moved_rows c.args.table.now c.args.rows.now c.args.plain.now c.args.others.now c.requires.plain c.as_slice.result.now c.as_slice-2.result.now c.in_ok-places.field-0 c.as_slice.ensures c.as_slice-2.ensures c.in_ok-places.ensures
    c.in-Some.places c.as_slice-in-Some.result.now c.in-Some.is c.as_slice-in-Some.ensures c.in_ok-moved-in-Some.moved c.in_ok-moved-in-Some.ensures)

pub returns-in-None : goal.returns-in-None
returns-in-None c = absurd (are_found c.args.table.now c.args.rows.now c.args.plain.now c.args.others.now c.requires.plain c.as_slice.result.now c.as_slice-2.result.now c.in_ok-places.field-0 c.as_slice.ensures c.as_slice-2.ensures c.in_ok-places.ensures c.in-None.is)
