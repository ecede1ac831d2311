use Rattle.std.proofs.Common.{◌≡◌, map, take}
use Rattle.schema_dm.specs.Schemas.{foreign_key_of}
use Rattle.schema_dm.proofs.build.foreign_keys_of.Given as goal

-- what the items so far stand for
abbrev pub invariant-loop-key : goal.invariant-loop-key
invariant-loop-key l = l.keys ≡ map (foreign_key_of l.drafts l.draft.columns) (take l.key-index l.foreign)
