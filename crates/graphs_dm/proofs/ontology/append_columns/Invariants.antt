use Rattle.std.proofs.Common.{◌≡◌, ◌++◌}
use Rattle.std.specs.Prelude.{slice_get}
use Rattle.members_dm.specs.Places.{levels}
use Rattle.graphs_dm.specs.Levels.{column_level, text_of}
use Rattle.graphs_dm.proofs.ontology.append_columns.Given as goal

-- the lines of the first columns
abbrev pub invariant-loop-column : goal.invariant-loop-column
invariant-loop-column l = l.out.items ≡ l.initial.out.items ++ text_of l.base (levels l.column-index (λ k. column_level l.base l.table (slice_get l.table.columns k)))
