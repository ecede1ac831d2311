use Rattle.pattern_dm.specs.Passing.{ArePassing}
use Rattle.pattern_dm.proofs.operators.passing.Given as goal

abbrev pub invariant-loop-i : goal.invariant-loop-i
invariant-loop-i l = ArePassing l.places l.mask l.i l.list
