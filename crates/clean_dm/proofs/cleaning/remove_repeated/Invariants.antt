use Rattle.std.proofs.Common.{take}
use Rattle.clean_dm.proofs.RepeatedSteps.{WhileRepeated}
use Rattle.clean_dm.proofs.cleaning.remove_repeated.Given as goal

abbrev pub invariant-loop-violation : goal.invariant-loop-violation
invariant-loop-violation l = WhileRepeated l.database l.cleaning.removals l.cleaning.left (take l.violation-index l.violation-items)
