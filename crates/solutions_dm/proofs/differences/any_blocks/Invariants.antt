use Rattle.std.proofs.Common.{◌≡◌, take}
use Rattle.std.specs.List.{list_any}
use Rattle.solutions_dm.specs.Keys.{rows_of}
use Rattle.solutions_dm.specs.Differences.{blocks}
use Rattle.solutions_dm.proofs.differences.any_blocks.Given as goal

abbrev pub invariant-loop-one : goal.invariant-loop-one
invariant-loop-one l = l.found ≡ list_any (λ j. blocks l.left.columns l.i l.right.columns j) (rows_of (take l.one-index l.run))
