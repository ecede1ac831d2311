use Rattle.std.proofs.Common.{◌≡◌, take}
use Rattle.table_csv.specs.Cells.{cells_at}
use Rattle.bench_lines_dm.proofs.inverted.cells_at.Given as goal

abbrev pub invariant-loop-place : goal.invariant-loop-place
invariant-loop-place l = l.cells ≡ cells_at (take l.place-index l.places) l.row
