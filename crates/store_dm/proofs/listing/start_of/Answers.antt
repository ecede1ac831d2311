use Rattle.std.proofs.Common.{rules}
use Rattle.std.proofs.lemmas.List.Sorted.{IsPartitionPoint-from_clause}
use Rattle.store_dm.specs.Triads.{is_below}
use Rattle.store_dm.proofs.TriadLemmas.{below_parted}
use Rattle.store_dm.proofs.listing.start_of.Goals as goal

pub returns-clause-point : goal.returns-clause-point
returns-clause-point c = IsPartitionPoint-from_clause (is_below c.args.from) _ _ c.partition_point.ensures.partitioned (below_parted c.args.items.now c.requires c.args.from) (λ a r q k. search rules)
