use Rattle.std.proofs.Common.{◌<◌, length}
use Rattle.std.specs.List.{AllWithin}
use Rattle.store_dm.specs.declared.listing.Triad.{Triad}
use Rattle.store_dm.specs.Starts.{AreStarts}
use Rattle.store_dm.proofs.starts.starts_of.Given as goal

abbrev pub invariant-loop-index : goal.invariant-loop-index
invariant-loop-index l = AreStarts l.starts.items l.items × AllWithin (λ (x : Triad). x.first < length l.starts.items) l.items 0 l.index
