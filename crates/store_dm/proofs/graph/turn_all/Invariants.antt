use Rattle.std.proofs.Common.{◌≡◌, map, take}
use Rattle.store_dm.specs.Turns.{turn}
use Rattle.store_dm.proofs.graph.turn_all.Given as goal

abbrev pub invariant-loop-triad : goal.invariant-loop-triad
invariant-loop-triad l = l.made.items ≡ map (turn l.beginning) (take l.triad-index l.triads)
