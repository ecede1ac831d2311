use Rattle.std.proofs.Common.{◌≡◌, map, take}
use Rattle.table_csv.specs.Cells.{cells_at}
use Rattle.bench_lines_dm.proofs.inverted.rows_at.Given as goal

abbrev pub invariant-loop-row : goal.invariant-loop-row
invariant-loop-row l = l.moved ≡ map (cells_at l.places) (take l.row-index l.rows)
