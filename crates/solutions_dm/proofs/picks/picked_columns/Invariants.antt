use Rattle.std.proofs.Common.{◌≡◌, map, take}
use Rattle.solutions_dm.specs.Picks.{picked_column}
use Rattle.solutions_dm.proofs.picks.picked_columns.Given as goal

abbrev pub invariant-loop-column : goal.invariant-loop-column
invariant-loop-column l = l.picked ≡ map (picked_column l.places) (take l.column-index l.rows.columns)
