use Rattle.std.specs.List.{flat_map}
use Rattle.outside_dm.proofs.Putting.{Writes-same}
use Rattle.ntriples_dm.specs.Written.{triple_text}
use Rattle.pages_dm.proofs.StreamLaws.{streams_done}
use Rattle.lines_dm.proofs.triples.write_triples.Goals as goal

pub returns : goal.returns
returns g c =
    rw c.new-page.ensures.items at
    (streams_done (flat_map triple_text c.args.triples.now) _ (g.K.Sink.state c.args.out.now) (g.K.Sink.state c.put_all.new.out) (g.K.Sink.state c.put_rest.new.out) c.put_all.new.page.items _
    c.in_ok-put_all.ensures (Writes-same c.as_slice.ensures.value c.put_rest.ensures))
