use Rattle.std.proofs.Common.{◌≡◌, map}
use Rattle.members_dm.specs.InOrder.{positions_below}
use Rattle.pattern_dm.specs.Solved.{mapping_at}
use Rattle.pattern_dm.proofs.answers.answer_grid.Given as goal

abbrev pub invariant-loop-row : goal.invariant-loop-row
invariant-loop-row l = l.grid ≡ map (λ i. map (mapping_at l.graph.terms l.solutions i) l.header) (positions_below l.row)
