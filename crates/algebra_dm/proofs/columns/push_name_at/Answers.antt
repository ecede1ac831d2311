use Rattle.std.proofs.Common.{get_or}
use Rattle.std.proofs.lemmas.List.{get_or_default}
use Rattle.schema_dm.specs.declared.draft.Column.{Column}
use Rattle.algebra_dm.proofs.ColumnLemmas.{key_name_at, no_key_name}
use Rattle.algebra_dm.proofs.columns.push_name_at.Goals as goal

pub returns-in_ok-push : goal.returns-in_ok-push
returns-in_ok-push c =
    let column : Column = get_or c.args.columns.now c.args.place c.index-columns-place.result in
    rw (c.in_ok-push.ensures.items, c.in_ok-copy.ensures)
    (key_name_at c.args.columns.now c.args.place column c.args.names.now.items c.if-place-columns.true (get_or_default c.args.columns.now c.args.place c.index-columns-place.result column c.if-place-columns.true))

pub returns-else-place-columns : goal.returns-else-place-columns
returns-else-place-columns c = no_key_name c.args.columns.now c.args.place c.args.names.now.items c.if-place-columns.false
