use Rattle.std.proofs.Common.{◌≡◌, ◌∙◌, ap, Some, refl, length}
use Rattle.std.specs.Prelude.{slice_get}
use Rattle.std.proofs.lemmas.Option.{slice_get_read}
use Rattle.table_csv.specs.Cells.{cells_at}
use Rattle.table_csv.specs.Databases.{rows_at}
use Rattle.keys_dm.specs.KeyCells.{row_at}
use Rattle.clean_dm.specs.Checking.{NoneLeftWith}
use Rattle.clean_dm.proofs.CheckingLemmas.{AllGone, from_same, group_gone, knows_more}
use Rattle.clean_dm.proofs.checking.group_gone_from.Goals as goal

pub returns-in-Some-clause-from : goal.returns-in-Some-clause-from
returns-in-Some-clause-from c =
    let read : slice_get c.args.known.now.items c.args.first ≡ Some (Some c.in-Some.turn) =
    slice_get_read c.args.known.now.items (length c.args.known.now.items) c.args.first c.index.result.now refl c.requires.first c.index.ensures ∙ ap Some c.in-Some.is in
    c.requires.known c.args.first c.in-Some.turn read

pub returns-in-None-clause-from : goal.returns-in-None-clause-from
returns-in-None-clause-from c =
    let D = c.args.database.now in
    let key = c.args.key.now in
    let cells = cells_at key.target_columns (row_at (rows_at D.rows key.target) c.args.first) in
    from_same c.args.removals.now (AllGone key.target c.args.entries.now) (NoneLeftWith D key cells) c.all_gone_from-turn.result (group_gone D key cells c.args.entries.now c.requires.entries) c.all_gone_from-turn.ensures

pub returns-in-None-clause-known : goal.returns-in-None-clause-known
returns-in-None-clause-known c =
    let D = c.args.database.now in
    let key = c.args.key.now in
    let cells = cells_at key.target_columns (row_at (rows_at D.rows key.target) c.args.first) in
    knows_more D c.args.removals.now key c.args.known.now.items c.args.first c.all_gone_from-turn.result c.requires.known c.requires.first
    (from_same c.args.removals.now (AllGone key.target c.args.entries.now) (NoneLeftWith D key cells) c.all_gone_from-turn.result (group_gone D key cells c.args.entries.now c.requires.entries) c.all_gone_from-turn.ensures)
