use Rattle.std.proofs.Common.{◌∙◌}
use Rattle.clean_dm.specs.Turns.{row_turn}
use Rattle.clean_dm.proofs.turns.Turns.get.Goals as goal

pub returns : goal.returns
unfolding row_turn
returns c = c.copied.ensures ∙ c.get.ensures.value
