use Rattle.std.proofs.Common.{◌≡◌, map, take}
use Rattle.tsv_dm.specs.Cells.{cell_text}
use Rattle.tsv_dm.proofs.text.rows_of.Given as goal

abbrev pub invariant-loop-row : goal.invariant-loop-row
invariant-loop-row l = l.rows.items ≡ map (map cell_text) (take l.row-index l.grid)
