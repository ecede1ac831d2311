use Rattle.std.proofs.Common.{take}
use Rattle.store_dm.specs.Graphs.{AreNumbered}
use Rattle.store_dm.proofs.graph.Graph.build_from.Given as goal

abbrev pub invariant-loop-triple : goal.invariant-loop-triple
invariant-loop-triple l = AreNumbered l.terms l.triads.items (take l.triple-index l.triples)
