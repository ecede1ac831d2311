use Rattle.graphs_dm.specs.Plans.{AreChoices}
use Rattle.graphs_dm.proofs.plan.relations_of.Given as goal

abbrev pub invariant-loop-t : goal.invariant-loop-t
invariant-loop-t l = AreChoices l.name l.schema l.t l.relations
