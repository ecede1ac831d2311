use Rattle.std.proofs.Common.{◌≡◌, map, take}
use Rattle.roles_dm.specs.Numbered.{of_triad}
use Rattle.roles_dm.proofs.numbered.all_numbered.Given as goal

abbrev pub invariant-loop-triad : goal.invariant-loop-triad
invariant-loop-triad l = l.made.items ≡ map of_triad (take l.triad-index l.triads)
