use Rattle.std.proofs.Common.{All, take}
use Rattle.schema_dm.specs.Drafts.{ReferencesNoKey, target_of}
use Rattle.schema_dm.specs.declared.draft.ForeignDraft.{ForeignDraft}
use Rattle.schema_dm.proofs.keys.any_no_key.Given as goal

-- each of the foreign keys so far references a key
abbrev pub invariant-loop-key : goal.invariant-loop-key
invariant-loop-key l = All (λ (key : ForeignDraft). ¬ ReferencesNoKey key (target_of l.drafts key)) (take l.key-index l.keys)
