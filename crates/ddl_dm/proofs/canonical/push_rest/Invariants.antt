use Rattle.std.proofs.Common.{string_bytes, take}
use Rattle.std.specs.List.{flat_map}
use Rattle.ddl_dm.specs.Canonical.{further_text, Adds}
use Rattle.ddl_dm.proofs.canonical.push_rest.Given as goal

-- the texts so far are added
abbrev pub invariant-loop-column : goal.invariant-loop-column
invariant-loop-column l = Adds (string_bytes l.initial.text) (string_bytes l.text) (flat_map further_text (take l.column-index l.columns))
