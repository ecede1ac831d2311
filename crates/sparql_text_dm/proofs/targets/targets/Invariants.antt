use Rattle.std.proofs.Common.{length}
use Rattle.sparql_text_dm.specs.Reading.{all_targets_at}
use Rattle.sparql_text_dm.proofs.TargetLoops.{TargetWalk}
use Rattle.sparql_text_dm.proofs.targets.targets.Given as goal

abbrev pub invariant-targets : goal.invariant-targets
invariant-targets l = TargetWalk l.found l.rest (all_targets_at l.tokens)

abbrev pub decreases-targets : goal.decreases-targets
decreases-targets l = length l.rest
