use Rattle.std.proofs.Common.{◌≡◌, map, take}
use Rattle.schema_dm.specs.Schemas.{places_of}
use Rattle.schema_dm.proofs.build.place_lists_of.Given as goal

-- what the items so far stand for
abbrev pub invariant-loop-names : goal.invariant-loop-names
invariant-loop-names l = l.places ≡ map (places_of l.draft.columns) (take l.names-index l.lists)
