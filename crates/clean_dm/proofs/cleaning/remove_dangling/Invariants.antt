use Rattle.clean_dm.specs.RowSets.{set_len}
use Rattle.clean_dm.proofs.DanglingSteps.{WhileDangling}
use Rattle.clean_dm.proofs.cleaning.remove_dangling.Given as goal

abbrev pub invariant-loop-first : goal.invariant-loop-first
invariant-loop-first l = WhileDangling l.database l.cleaning.removals l.cleaning.left l.due

abbrev pub decreases-loop-first : goal.decreases-loop-first
decreases-loop-first l = set_len l.cleaning.left
