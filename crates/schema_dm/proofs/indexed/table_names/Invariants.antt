use Rattle.std.proofs.Common.{◌≡◌, map, take}
use Rattle.schema_dm.specs.declared.draft.TableDraft.{TableDraft}
use Rattle.schema_dm.proofs.indexed.table_names.Given as goal

-- the names so far
abbrev pub invariant-loop-draft : goal.invariant-loop-draft
invariant-loop-draft l = l.names.items ≡ map (λ (draft : TableDraft). draft.name) (take l.draft-index l.drafts)
