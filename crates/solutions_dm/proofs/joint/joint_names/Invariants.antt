use Rattle.std.proofs.Common.{◌≡◌, ◌++◌, take, not, filter}
use Rattle.solutions_dm.specs.Columns.{has_column, names_of}
use Rattle.solutions_dm.proofs.joint.joint_names.Given as goal

abbrev pub invariant-loop-other : goal.invariant-loop-other
invariant-loop-other l = l.names ≡ names_of l.left.columns ++ filter (λ x. not (has_column l.left.columns x)) (names_of (take l.other-index l.right.columns))
