use Rattle.std.proofs.Common.{◌≡◌, take}
use Rattle.solutions_dm.specs.Joint.{built, stacked}
use Rattle.solutions_dm.proofs.unions.stacked_columns.Given as goal

abbrev pub invariant-loop-name : goal.invariant-loop-name
invariant-loop-name l = l.columns ≡ built (stacked l.left l.right) (take l.name-index l.names)
