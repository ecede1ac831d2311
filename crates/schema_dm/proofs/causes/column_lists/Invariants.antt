use Rattle.std.proofs.Common.{◌≡◌, map, take}
use Rattle.schema_dm.specs.declared.draft.ForeignDraft.{ForeignDraft}
use Rattle.schema_dm.proofs.causes.column_lists.Given as goal

-- the lists so far
abbrev pub invariant-loop-key : goal.invariant-loop-key
invariant-loop-key l = l.lists.items ≡ map (λ (key : ForeignDraft). key.columns) (take l.key-index l.keys)
