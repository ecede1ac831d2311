use Rattle.std.proofs.Common.{◌≡◌, filter, map, take}
use Rattle.store_dm.specs.Slots.{agrees}
use Rattle.store_dm.specs.Turns.{numbers}
use Rattle.store_dm.proofs.rows.agreeing.Given as goal

abbrev pub invariant-loop-triad : goal.invariant-loop-triad
invariant-loop-triad l = l.found.items ≡ filter (agrees l.sp l.so l.po) (map (numbers l.beginning) (take l.triad-index l.triads))
