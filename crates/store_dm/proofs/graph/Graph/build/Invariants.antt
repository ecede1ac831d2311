use Rattle.store_dm.specs.Graphs.{AreNumbered}
use Rattle.store_dm.proofs.graph.Graph.build.Given as goal

abbrev pub invariant-loop-triple : goal.invariant-loop-triple
invariant-loop-triple l = AreNumbered l.terms l.triads.items l.yielded
