use Rattle.std.proofs.Common.{is_lt, rules}
use Rattle.std.proofs.lemmas.List.Sorted.{IsPartitionPoint-from_clause}
use Rattle.value_dm.specs.Order.{byte_cmp}
use Rattle.consistency_dm.specs.declared.range.StatedRange.{StatedRange}
use Rattle.consistency_dm.proofs.KeptOut.{parted_below}
use Rattle.consistency_dm.proofs.range.start_of.Goals as goal

pub returns-clause-point : goal.returns-clause-point
returns-clause-point c =
    IsPartitionPoint-from_clause (λ (r : StatedRange). is_lt (byte_cmp r.property.now c.args.property.now)) _ _ c.partition_point.ensures.partitioned
    (parted_below c.args.ranges.now c.requires c.args.property.now) (λ a r q k. search rules)
