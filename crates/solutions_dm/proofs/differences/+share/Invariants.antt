use Rattle.std.proofs.Common.{length}
use Rattle.solutions_dm.proofs.differences.+share.Given as goal

abbrev pub decreases-share : goal.decreases-share
decreases-share l = length l.left.now
