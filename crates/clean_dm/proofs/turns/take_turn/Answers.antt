use Rattle.clean_dm.proofs.turns.take_turn.Goals as goal

pub returns-in-None-clause-refused : goal.returns-in-None-clause-refused
returns-in-None-clause-refused c = λ e t i of row. absurd (c.in-None.ensures.none t i of row)
