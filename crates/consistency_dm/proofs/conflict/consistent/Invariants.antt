use Rattle.consistency_dm.proofs.FirstConflicts.{AreFine}
use Rattle.consistency_dm.proofs.conflict.consistent.Given as goal

-- none so far is a conflict
abbrev pub invariant-loop-place : goal.invariant-loop-place
invariant-loop-place l = AreFine l.triples l.place
