use Rattle.std.proofs.Common.{◌≡◌, take}
use Rattle.value_dm.proofs.sequence.SequenceTryCopy.copy.Given as goal

-- the first items are copied
abbrev pub invariant-loop-item : goal.invariant-loop-item
invariant-loop-item g l = l.items.items ≡ take l.item-index l.self
