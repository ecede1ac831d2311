use Rattle.graphs_dm.proofs.PlanSteps.{flags_more}
use Rattle.graphs_dm.proofs.plan.flags_of.Goals as goal

pub loop-i-preserved : goal.loop-i-preserved
loop-i-preserved c = flags_more c.args.database.now c.args.t c.loop-i.i c.loop-i.flags _ _ c.loop-i.invariant c.in_ok-is_violated.ensures c.in_ok-push.ensures.ok
