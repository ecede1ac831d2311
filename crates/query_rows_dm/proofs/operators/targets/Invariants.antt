use Rattle.std.proofs.Common.{◌≡◌, map, take}
use Rattle.solutions_dm.specs.declared.selects.Rename.{Rename}
use Rattle.query_rows_dm.proofs.operators.targets.Given as goal

abbrev pub invariant-loop-rename : goal.invariant-loop-rename
invariant-loop-rename l = l.vars ≡ map (λ (r : Rename). r.to) (take l.rename-index l.renames)
