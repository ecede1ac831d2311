-- The map-keys graph contradicts itself exactly where a key is violated (after Sequeda, Arenas and Miranker, On Directly Mapping
-- Relational Databases to RDF and OWL, WWW 2012: a mapping that preserves semantics).
use Rattle.std.specs.Prelude.{ℕ, ◌↔◌, List}
use Rattle.names_dm.specs.Statements.{Statement}
use Rattle.table_csv.specs.Databases.{Data}
use Rattle.keys_dm.specs.Violations.{KeepsKeys}
use Rattle.consistency_dm.specs.Interpretations.{HasInterpretation}
use Rattle.graphs_dm.specs.Graphs.{AreTriplesOf}
use Rattle.graphs_dm.specs.declared.graph_name.GraphName.TheVariants.{MapKeys}

-- triples that are exactly the map-keys graph's have an interpretation exactly where no key is violated
pub record IsInterpretedWhereKept (base : List ℕ) (D : Data) : Type 0 where
  pub interpreted : (triples : List Statement) → AreTriplesOf MapKeys base D triples → HasInterpretation triples ↔ KeepsKeys D
