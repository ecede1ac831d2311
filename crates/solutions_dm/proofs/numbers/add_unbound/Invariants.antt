use Rattle.std.proofs.Common.{◌≡◌, ◌++◌, map}
use Rattle.members_dm.specs.InOrder.{positions_below}
use Rattle.solutions_dm.proofs.numbers.add_unbound.Given as goal

abbrev pub invariant-loop-row : goal.invariant-loop-row
invariant-loop-row l = l.numbers ≡ l.fn.numbers ++ map (λ _. 0) (positions_below l.row)
