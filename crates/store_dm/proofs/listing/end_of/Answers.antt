use Rattle.std.proofs.Common.{rules, not}
use Rattle.std.proofs.lemmas.List.Sorted.{IsPartitionPoint-from_clause}
use Rattle.store_dm.specs.declared.listing.Triad.{Triad}
use Rattle.store_dm.specs.Triads.{is_above}
use Rattle.store_dm.proofs.TriadLemmas.{not_above_parted}
use Rattle.store_dm.proofs.listing.end_of.Goals as goal

pub returns-clause-point : goal.returns-clause-point
returns-clause-point c = IsPartitionPoint-from_clause (λ (x : Triad). not (is_above c.args.from x)) _ _ c.partition_point.ensures.partitioned (not_above_parted c.args.items.now c.requires c.args.from) (λ a r q k. search rules)
