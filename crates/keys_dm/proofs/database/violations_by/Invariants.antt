use Rattle.keys_dm.specs.Adding.{Adds, StandsBelow}
use Rattle.keys_dm.specs.Violations.{ViolatesAt}
use Rattle.keys_dm.proofs.database.violations_by.Given as goal

abbrev pub invariant-loop-table : goal.invariant-loop-table
invariant-loop-table l = Adds (StandsBelow l.table (ViolatesAt l.database)) l.initial.found l.found
