use Rattle.clean_dm.proofs.TurnLemmas.{takes_turn}
use Rattle.clean_dm.proofs.turns.Turns.insert.Goals as goal

pub returns : goal.returns
returns c = takes_turn c.args.self.now (record { turns = c.insert.new.self }) c.args.table c.args.row c.args.turn (λ q. c.in_ok-insert.ensures.updates.0 q)
