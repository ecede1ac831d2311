use Rattle.std.proofs.Common.{◌≡◌, ◌++◌, take}
use Rattle.solutions_dm.specs.Keys.{rows_of}
use Rattle.solutions_dm.specs.Pairs.{row_pairs}
use Rattle.solutions_dm.proofs.runs.add_pairs.Given as goal

abbrev pub invariant-loop-one : goal.invariant-loop-one
invariant-loop-one l = l.pairs ≡ l.fn.pairs ++ row_pairs l.left.columns l.right.columns l.i (rows_of (take l.one-index l.run))
