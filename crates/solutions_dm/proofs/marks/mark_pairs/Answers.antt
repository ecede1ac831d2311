use Rattle.std.proofs.Common.{arith}
use Rattle.solutions_dm.proofs.MarkLemmas.{marked_more}
use Rattle.solutions_dm.proofs.marks.mark_pairs.Goals as goal

pub loop-pair-preserved : goal.loop-pair-preserved
loop-pair-preserved c = marked_more c.args.pairs.now c.args.left_rows c.loop-pair.mask.items c.loop-pair.pair-index (record { left = 0; right = 0 }) (omega arith) c.requires c.loop-pair.invariant
