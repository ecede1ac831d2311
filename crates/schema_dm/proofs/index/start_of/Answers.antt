use Rattle.std.proofs.Common.{rules, Some}
use Rattle.std.specs.Prelude.{slice_get}
use Rattle.std.specs.Option.{option_cmp}
use Rattle.std.specs.Ordering.{is_lt}
use Rattle.std.proofs.lemmas.List.Sorted.{IsPartitionPoint-from_clause}
use Rattle.members_dm.proofs.OrderLemmas.{parted, ties_from_eq}
use Rattle.schema_dm.proofs.index.start_of.Goals as goal

pub returns-clause-point : goal.returns-clause-point
returns-clause-point g c =
    let ties = ties_from_eq g.K.PartialEq.eq g.K.Ord.cmp g.met.K.Ord.matches_eq g.met.K.ExactEq.decides in
    IsPartitionPoint-from_clause (λ p. is_lt (option_cmp g.K.Ord.cmp (slice_get c.args.items.now p) (Some c.args.key.now))) _ _ c.partition_point.ensures.partitioned
    (parted g.met.K.Ord.total ties c.args.items.now c.args.order.now c.requires c.args.key.now) (λ a r q k. search rules)
