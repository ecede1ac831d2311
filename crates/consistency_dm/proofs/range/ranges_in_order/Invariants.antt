use Rattle.std.proofs.Common.{◌≡◌, map, take}
use Rattle.consistency_dm.specs.Ranges.{all_stated, asks_of}
use Rattle.consistency_dm.proofs.range.ranges_in_order.Given as goal

-- the ranges of the triples so far
abbrev pub invariant-loop-triple : goal.invariant-loop-triple
invariant-loop-triple l = map asks_of l.made.items ≡ all_stated (take l.triple-index l.triples)
