use Rattle.clean_dm.proofs.TurnLemmas.{no_turn}
use Rattle.clean_dm.proofs.turns.Turns.new.Goals as goal

pub returns : goal.returns
returns c = no_turn (record { turns = c.new.result }) c.new.ensures.empty
