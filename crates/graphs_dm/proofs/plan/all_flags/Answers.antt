use Rattle.graphs_dm.proofs.PlanSteps.{all_flags_more}
use Rattle.graphs_dm.proofs.plan.all_flags.Goals as goal

pub loop-t-preserved : goal.loop-t-preserved
loop-t-preserved c = all_flags_more c.args.database.now c.loop-t.t c.loop-t.marks _ _ c.loop-t.invariant c.in_ok-flags_of.ensures c.in_ok-push.ensures.ok
