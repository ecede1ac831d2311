use Rattle.std.proofs.Common.{◌≡◌, map, take}
use Rattle.tsv_dm.specs.Cells.{name_cell}
use Rattle.tsv_dm.proofs.cells.names_of.Given as goal

abbrev pub invariant-loop-name : goal.invariant-loop-name
invariant-loop-name l = l.cells.items ≡ map name_cell (take l.name-index l.header)
