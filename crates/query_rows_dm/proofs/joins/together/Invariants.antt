use Rattle.std.proofs.Common.{take}
use Rattle.query_rows_dm.specs.Operators.{AreTogether}
use Rattle.query_rows_dm.proofs.joins.together.Given as goal

abbrev pub invariant-loop-var : goal.invariant-loop-var
invariant-loop-var l = AreTogether l.left (take l.var-index l.right) l.vars
