use Rattle.graphs_dm.specs.Plans.{AreAllFlags}
use Rattle.graphs_dm.proofs.plan.all_flags.Given as goal

abbrev pub invariant-loop-t : goal.invariant-loop-t
invariant-loop-t l = AreAllFlags l.database l.t l.marks
