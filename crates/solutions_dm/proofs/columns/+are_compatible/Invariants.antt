use Rattle.std.proofs.Common.{length}
use Rattle.solutions_dm.proofs.columns.+are_compatible.Given as goal

abbrev pub decreases-are_compatible : goal.decreases-are_compatible
decreases-are_compatible l = length l.left.now
