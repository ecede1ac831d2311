use Rattle.std.proofs.Common.{◌≡◌, map, take}
use Rattle.store_dm.specs.Slots.{part_of}
use Rattle.store_dm.proofs.rows.parts.Given as goal

abbrev pub invariant-loop-x : goal.invariant-loop-x
invariant-loop-x l = l.made ≡ map (part_of l.part) (take l.x-index l.found)
