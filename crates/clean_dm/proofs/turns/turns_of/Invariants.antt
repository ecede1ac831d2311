use Rattle.clean_dm.specs.Turns.{AreFirstTurns}
use Rattle.clean_dm.proofs.TurnLemmas.{ExistBefore}
use Rattle.clean_dm.proofs.turns.turns_of.Given as goal

-- the first turns are noted, of rows that exist
abbrev pub invariant-loop-turn : goal.invariant-loop-turn
invariant-loop-turn l = AreFirstTurns l.removals l.turn l.turns × ExistBefore l.database l.removals l.turn
