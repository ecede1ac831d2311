use Rattle.std.proofs.Common.{Ok}
use Rattle.std.specs.Prelude.{take}
use Rattle.std.specs.List.{flat_map}
use Rattle.ntriples_dm.specs.Written.{triple_text}
use Rattle.pages_dm.specs.Streams.{Streams}
use Rattle.lines_dm.proofs.triples.put_all.Given as goal

-- the lines of the first triples have been gathered
abbrev pub invariant-loop-triple : goal.invariant-loop-triple
invariant-loop-triple g l = Streams (flat_map triple_text (take l.triple-index l.triples)) (g.K.Sink.state l.fn.out) l.fn.page.items (g.K.Sink.state l.out) l.page.items (Ok tt)
