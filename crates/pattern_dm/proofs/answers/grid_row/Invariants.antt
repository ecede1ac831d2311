use Rattle.std.proofs.Common.{◌≡◌, map, take}
use Rattle.pattern_dm.specs.Solved.{mapping_at}
use Rattle.pattern_dm.proofs.answers.grid_row.Given as goal

abbrev pub invariant-loop-name : goal.invariant-loop-name
invariant-loop-name l = l.cells ≡ map (mapping_at l.graph.terms l.solutions l.row) (take l.name-index l.header)
