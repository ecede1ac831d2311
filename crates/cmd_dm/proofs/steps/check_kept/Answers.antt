use Rattle.cmd_dm.specs.Steps.{kept_step}
use Rattle.cmd_dm.proofs.steps.check_kept.Goals as goal

pub returns-in-Direct-clause-step : goal.returns-in-Direct-clause-step
unfolding kept_step
returns-in-Direct-clause-step c = rw c.in-Direct.is c.check_keys.ensures.step

pub returns-in-Map-clause-step : goal.returns-in-Map-clause-step
unfolding kept_step
returns-in-Map-clause-step c = rw c.in-Map.is c.check_keys-in-Map.ensures.step
