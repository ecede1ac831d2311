use Rattle.std.proofs.Common.{◌≡◌, drop}
use Rattle.keeping_dm.specs.Guards.{and_bound}
use Rattle.pattern_parts_dm.proofs.conditions.and_bound.Given as goal

abbrev pub invariant-loop-name : goal.invariant-loop-name
invariant-loop-name l = and_bound l.all (drop l.name-index l.names) ≡ and_bound l.fn.condition l.names
