use Rattle.clean_dm.specs.RowSets.{set_len}
use Rattle.clean_dm.specs.Working.{AreCandidates}
use Rattle.clean_dm.proofs.dangling.next_dangling.Given as goal

abbrev pub invariant-loop-table : goal.invariant-loop-table
invariant-loop-table l = AreCandidates l.database l.left l.due

abbrev pub decreases-loop-table : goal.decreases-loop-table
decreases-loop-table l = set_len l.due
