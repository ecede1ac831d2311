use Rattle.std.proofs.Common.{◌≡◌, take}
use Rattle.schema_dm.specs.Schemas.{places_of}
use Rattle.schema_dm.proofs.build.places_of.Given as goal

-- what the items so far stand for
abbrev pub invariant-loop-name : goal.invariant-loop-name
invariant-loop-name l = l.places ≡ places_of l.draft.columns (take l.name-index l.names)
