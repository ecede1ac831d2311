use Rattle.std.proofs.Common.{◌≡◌, map, take}
use Rattle.schema_dm.specs.Schemas.{table_of}
use Rattle.schema_dm.proofs.build.tables_of.Given as goal

-- what the items so far stand for
abbrev pub invariant-loop-draft : goal.invariant-loop-draft
invariant-loop-draft l = l.tables ≡ map (table_of l.drafts) (take l.draft-index l.drafts)
