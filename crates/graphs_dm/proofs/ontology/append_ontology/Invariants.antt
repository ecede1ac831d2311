use Rattle.std.proofs.Common.{◌≡◌, ◌++◌}
use Rattle.members_dm.specs.Places.{levels}
use Rattle.graphs_dm.specs.Levels.{ontology_table, text_of}
use Rattle.graphs_dm.specs.Plans.{relation_at}
use Rattle.graphs_dm.proofs.ontology.append_ontology.Given as goal

-- the lines of the first tables
abbrev pub invariant-loop-t : goal.invariant-loop-t
invariant-loop-t l = l.out.items ≡ l.initial.out.items ++ text_of l.base (levels l.t (λ t. ontology_table l.base l.database.tables t (relation_at l.plan t)))
