use Rattle.std.proofs.Common.{◌≡◌, ◌++◌}
use Rattle.std.specs.Prelude.{slice_get}
use Rattle.members_dm.specs.Places.{levels}
use Rattle.graphs_dm.specs.Levels.{reference_level, text_of}
use Rattle.graphs_dm.proofs.ontology.append_references.Given as goal

-- the lines of the first foreign keys
abbrev pub invariant-loop-key : goal.invariant-loop-key
invariant-loop-key l = l.out.items ≡ l.initial.out.items ++ text_of l.base (levels l.key-index (λ k. reference_level l.base l.database.tables l.table (slice_get l.table.foreign k)))
