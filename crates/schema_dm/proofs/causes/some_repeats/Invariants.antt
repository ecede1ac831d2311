use Rattle.std.proofs.Common.{All, take}
use Rattle.members_dm.specs.Elements.{Repeats}
use Rattle.schema_dm.proofs.causes.some_repeats.Given as goal

-- none of the lists so far repeats a name
abbrev pub invariant-loop-item : goal.invariant-loop-item
invariant-loop-item g l = All (λ item. ¬ Repeats (g.T.KeyedBy.key_of item)) (take l.item-index l.items)
