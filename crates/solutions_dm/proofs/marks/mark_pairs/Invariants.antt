use Rattle.std.proofs.Common.{take}
use Rattle.solutions_dm.specs.Marks.{AreMarked}
use Rattle.solutions_dm.proofs.marks.mark_pairs.Given as goal

abbrev pub invariant-loop-pair : goal.invariant-loop-pair
invariant-loop-pair l = AreMarked (take l.pair-index l.pairs) l.left_rows l.mask.items
