use Rattle.std.proofs.Common.{◌≡◌, drop}
use Rattle.keeping_dm.specs.Guards.{and_same_cells}
use Rattle.pattern_parts_dm.proofs.differences.and_same_cells.Given as goal

abbrev pub invariant-loop-name : goal.invariant-loop-name
invariant-loop-name l = and_same_cells l.all (drop l.name-index l.names) ≡ and_same_cells l.fn.condition l.names
