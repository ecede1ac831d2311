use Rattle.std.proofs.Common.{◌≡◌, map, take}
use Rattle.solutions_dm.specs.Selects.{selected_column}
use Rattle.solutions_dm.proofs.selects.selected_columns.Given as goal

abbrev pub invariant-loop-rename : goal.invariant-loop-rename
invariant-loop-rename l = l.made ≡ map (selected_column l.rows) (take l.rename-index l.renames)
