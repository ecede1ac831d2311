use Rattle.graphs_dm.specs.Plans.{AreFlags}
use Rattle.graphs_dm.proofs.plan.flags_of.Given as goal

abbrev pub invariant-loop-i : goal.invariant-loop-i
invariant-loop-i l = AreFlags l.database l.t l.i l.flags
