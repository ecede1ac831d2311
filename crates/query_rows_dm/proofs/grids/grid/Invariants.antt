use Rattle.std.proofs.Common.{◌≡◌, take}
use Rattle.query_rows_dm.specs.Grids.{grid_of}
use Rattle.query_rows_dm.proofs.grids.grid.Given as goal

abbrev pub invariant-loop-row : goal.invariant-loop-row
invariant-loop-row l = l.grid ≡ grid_of (take l.row-index l.rows)
