use Rattle.std.proofs.Common.{◌∙◌, length}
use Rattle.std.proofs.lemmas.List.{append-nil}
use Rattle.std.proofs.lemmas.Result.{err_from_is_err_and}
use Rattle.outside_dm.proofs.Putting.{Writes-same}
use Rattle.table_csv.specs.Databases.{rows_at}
use Rattle.graphs_dm.specs.Graphs.{first_row}
use Rattle.graphs_dm.specs.Levels.{from_first, relation_row_level}
use Rattle.graphs_dm.proofs.LevelStreams.{levels_streams_cut, levels_streams_short, levels_streams_start, levels_streams_turn}
use Rattle.graphs_dm.proofs.writer.put_relation.Goals as goal

pub loop-i-init : goal.loop-i-init
loop-i-init g c = levels_streams_start c.args.source.now.base.now (from_first (first_row c.args.source.now.first_rows.now c.args.t) (relation_row_level c.args.source.now.base.now c.args.source.now.database.now c.args.t c.args.sides)) c.args.page.now.items (g.K.Sink.state c.args.out.now)

pub returns-in_default-append_later_pair : goal.returns-in_default-append_later_pair
returns-in_default-append_later_pair g c =
    let base = c.args.source.now.base.now in
    let D = c.args.source.now.database.now in
    levels_streams_short base (from_first (first_row c.args.source.now.first_rows.now c.args.t) (relation_row_level base D c.args.t c.args.sides)) c.args.page.now.items (g.K.Sink.state c.args.out.now) c.loop-i.i (g.K.Sink.state c.loop-i.out) c.loop-i.page.items c.loop-i.invariant
    (length (rows_at D.rows c.args.t)) (rw (c.len-i-end.ensures, c.rows_of.ensures.value) at c.loop-i-test.true)

pub returns-in_err-put_if_full : goal.returns-in_err-put_if_full
returns-in_err-put_if_full g c =
    let base = c.args.source.now.base.now in
    let D = c.args.source.now.database.now in
    let error = err_from_is_err_and c.from_residual.result c.from_residual.ensures.1 in
    rw (error.1, error.2)
    (levels_streams_cut base (from_first (first_row c.args.source.now.first_rows.now c.args.t) (relation_row_level base D c.args.t c.args.sides)) c.args.page.now.items (g.K.Sink.state c.args.out.now) c.loop-i.i (g.K.Sink.state c.loop-i.out) c.loop-i.page.items c.loop-i.invariant
    (length (rows_at D.rows c.args.t)) _ _ (rw (c.len-i-end.ensures, c.rows_of.ensures.value) at c.loop-i-test.true)
    (Writes-same (append-nil c.append_later_pair.new.out.items ∙ c.in-Ok-append_later_pair.ensures) c.in_err-put_if_full.ensures))

pub loop-i-preserved : goal.loop-i-preserved
loop-i-preserved g c =
    let base = c.args.source.now.base.now in
    let D = c.args.source.now.database.now in
    let next = c.in_ok-put_if_full.ensures in
    levels_streams_turn base (from_first (first_row c.args.source.now.first_rows.now c.args.t) (relation_row_level base D c.args.t c.args.sides)) c.args.page.now.items (g.K.Sink.state c.args.out.now) c.loop-i.i (g.K.Sink.state c.loop-i.out) c.loop-i.page.items c.loop-i.invariant
    _ _ (next.0, next.1 ∙ append-nil c.append_later_pair.new.out.items ∙ c.in-Ok-append_later_pair.ensures, next.2)
