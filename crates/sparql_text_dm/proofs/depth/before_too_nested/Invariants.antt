use Rattle.std.proofs.Common.{length}
use Rattle.sparql_text_dm.proofs.Depths.{Passed}
use Rattle.sparql_text_dm.proofs.depth.before_too_nested.Given as goal

abbrev pub invariant-depth : goal.invariant-depth
invariant-depth l = Passed l.tokens l.kept l.count l.rest

abbrev pub decreases-depth : goal.decreases-depth
decreases-depth l = length l.rest
