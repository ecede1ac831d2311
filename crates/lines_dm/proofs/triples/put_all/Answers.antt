use Rattle.std.proofs.lemmas.Result.{err_from_is_err_and}
use Rattle.ntriples_dm.specs.Written.{triple_text}
use Rattle.pages_dm.proofs.StreamLaws.{streams_cut_at, streams_turn}
use Rattle.lines_dm.proofs.triples.put_all.Goals as goal

pub returns-in_err-put_triple : goal.returns-in_err-put_triple
returns-in_err-put_triple g c =
    let error = err_from_is_err_and c.from_residual.result c.from_residual.ensures.1 in
    rw (error.1, error.2)
    (streams_cut_at triple_text c.args.triples.now c.loop-triple.triple-index c.triple-item.result c.loop-triple-test.true c.triple-item.is c.args.page.now.items
    (g.K.Sink.state c.args.out.now) (g.K.Sink.state c.loop-triple.out) c.loop-triple.page.items c.loop-triple.invariant _ _ c.in_err-put_triple.ensures)

pub loop-triple-preserved : goal.loop-triple-preserved
loop-triple-preserved g c =
    streams_turn triple_text c.args.triples.now c.loop-triple.triple-index c.triple-item.result c.loop-triple-test.true c.triple-item.is c.args.page.now.items
    (g.K.Sink.state c.args.out.now) (g.K.Sink.state c.loop-triple.out) c.loop-triple.page.items c.loop-triple.invariant _ _ c.in_ok-put_triple.ensures
