use Rattle.std.proofs.Common.{[]}
use Rattle.keys_dm.specs.Adding.{Adds, StandsBelow}
use Rattle.clean_dm.specs.Kept.{IsKept, StandsIn}
use Rattle.clean_dm.proofs.keeping.kept_of.Given as goal

abbrev pub invariant-loop-position : goal.invariant-loop-position
invariant-loop-position l = Adds (StandsBelow l.position (StandsIn l.database (IsKept l.gone) l.table)) [] l.kept
