use Rattle.std.proofs.Common.{◌≡◌, map, take}
use Rattle.query_rows_dm.specs.Grids.{term_in}
use Rattle.query_rows_dm.proofs.grids.grid_row.Given as goal

abbrev pub invariant-loop-cell : goal.invariant-loop-cell
invariant-loop-cell l = l.row ≡ map term_in (take l.cell-index l.cells)
