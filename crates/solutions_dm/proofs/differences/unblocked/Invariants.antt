use Rattle.std.proofs.Common.{◌≡◌, take}
use Rattle.solutions_dm.specs.Keys.{rows_of}
use Rattle.solutions_dm.specs.Pairs.{joined}
use Rattle.solutions_dm.specs.Differences.{unblocked}
use Rattle.solutions_dm.proofs.RunLemmas.{Merged}
use Rattle.solutions_dm.proofs.differences.unblocked.Given as goal

abbrev pub invariant-loop-one : goal.invariant-loop-one
invariant-loop-one l =
    Merged l.left l.right l.left_rows l.right_rows l.one-index l.start (joined l.left.columns l.right.columns (rows_of (take l.one-index l.left_rows)) (rows_of l.right_rows))
    × (l.kept.items ≡ unblocked l.left.columns l.right.columns (rows_of (take l.one-index l.left_rows)) (rows_of l.right_rows))
