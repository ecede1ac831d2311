use Rattle.std.proofs.Common.{◌≡◌}
use Rattle.members_dm.specs.InOrder.{positions_below}
use Rattle.schema_dm.proofs.index.positions.Given as goal

abbrev pub invariant-loop-position : goal.invariant-loop-position
invariant-loop-position l = l.made.items ≡ positions_below l.position
