use Rattle.std.proofs.Common.{All}
use Rattle.solutions_dm.specs.Columns.{IsFilled}
use Rattle.solutions_dm.proofs.keys.shared_names.Given as goal

abbrev pub invariant-loop-column : goal.invariant-loop-column
invariant-loop-column l = All (IsFilled l.left.columns l.left.rows) l.names × All (IsFilled l.right.columns l.right.rows) l.names
