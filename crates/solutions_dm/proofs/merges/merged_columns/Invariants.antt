use Rattle.std.proofs.Common.{◌≡◌, take}
use Rattle.solutions_dm.specs.Joint.{built}
use Rattle.solutions_dm.specs.Merge.{merged}
use Rattle.solutions_dm.proofs.merges.merged_columns.Given as goal

abbrev pub invariant-loop-name : goal.invariant-loop-name
invariant-loop-name l = l.columns ≡ built (merged l.left l.right l.pairs) (take l.name-index l.names)
