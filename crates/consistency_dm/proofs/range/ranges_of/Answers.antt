use Rattle.consistency_dm.proofs.AskedRanges.{ranges_from_sort}
use Rattle.consistency_dm.proofs.range.ranges_of.Goals as goal

pub returns : goal.returns
returns c = ranges_from_sort c.args.triples.now c.in_ok-ranges.ranges.items c.sort_ranges.new.ranges.items c.in_ok-ranges.ensures c.sort_ranges.ensures.moved c.sort_ranges.ensures.rising
