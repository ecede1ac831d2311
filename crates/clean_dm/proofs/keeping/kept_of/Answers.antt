use Rattle.std.proofs.Common.{◌≡◌, ◌∙◌, ◌<◌, ◌≤◌, [], length}
use Rattle.std.proofs.lemmas.List.{get_or_read}
use Rattle.table_csv.specs.Databases.{rows_at}
use Rattle.keys_dm.specs.KeyCells.{row_at}
use Rattle.clean_dm.proofs.KeptLoops.{kept_at_end, kept_on}
use Rattle.clean_dm.proofs.keeping.kept_of.Goals as goal

pub loop-position-preserved : goal.loop-position-preserved
loop-position-preserved c =
    let items : c.as_slice-row-items.result.now ≡ rows_at c.args.database.now.rows c.args.table = c.as_slice-row-items.ensures ∙ c.rows_of.ensures.value in
    let below : c.loop-position.position < length (rows_at c.args.database.now.rows c.args.table) = rw items at c.loop-position-test.true in
    let read : c.row-item.result ≡ row_at (rows_at c.args.database.now.rows c.args.table) c.loop-position.position = get_or_read (rows_at c.args.database.now.rows c.args.table) c.loop-position.position c.row-item.result below (rw items at c.row-item.is) [] in
    kept_on c.args.database.now c.args.gone.now c.args.table c.loop-position.position c.row-item.result c.has-is_kept.result c.loop-position.kept c.push_if.new.rows below read c.has-is_kept.ensures c.in_ok-push_if.ensures c.loop-position.invariant

pub returns : goal.returns
returns c =
    let items : c.as_slice-row-items.result.now ≡ rows_at c.args.database.now.rows c.args.table = c.as_slice-row-items.ensures ∙ c.rows_of.ensures.value in
    let whole : length (rows_at c.args.database.now.rows c.args.table) ≤ c.loop-position.position = rw items at c.loop-position-test.false in
    kept_at_end c.args.database.now c.args.gone.now c.args.table c.loop-position.position c.loop-position.kept whole c.loop-position.invariant
