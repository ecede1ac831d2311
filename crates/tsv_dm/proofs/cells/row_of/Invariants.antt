use Rattle.std.proofs.Common.{◌≡◌, map, take}
use Rattle.tsv_dm.specs.Cells.{cell_text}
use Rattle.tsv_dm.proofs.cells.row_of.Given as goal

abbrev pub invariant-loop-cell : goal.invariant-loop-cell
invariant-loop-cell l = l.cells.items ≡ map cell_text (take l.cell-index l.row)
