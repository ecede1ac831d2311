use Rattle.solutions_dm.proofs.RunLemmas.{Merged}
use Rattle.solutions_dm.proofs.runs.merged_runs.Given as goal

abbrev pub invariant-loop-one : goal.invariant-loop-one
invariant-loop-one l = Merged l.left l.right l.left_rows l.right_rows l.one-index l.start l.pairs
