-- The graphs of a database at places, and their texts. The direct graph has the rows alone. The map graph begins with an
-- ontology, and binary relations are single links in it. The map-keys graph is the same with every table as a class, and marks
-- the node of each row that violates a key as different from itself (after Sequeda, Arenas and Miranker, On Directly Mapping
-- Relational Databases to RDF and OWL, WWW 2012). Tables, keys and rows are counted from 0.
use Rattle.std.specs.Prelude.{◌≡◌, ◌<◌, ◌≤◌, ◌↔◌, ℕ, List, [], ◌∷◌, length, slice_index_or, Result}
use Rattle.std.specs.List.{flat_map}
use Rattle.members_dm.specs.Membership.{IsIn}
use Rattle.members_dm.specs.Places.{Place, IsListing}
use Rattle.schema_dm.specs.declared.table.Binary.{Binary}
use Rattle.names_dm.specs.Statements.{Statement}
use Rattle.facts_dm.specs.Facts.{Fact, Node, a_link, a_mark, triple_of}
use Rattle.table_csv.specs.Databases.{Data}
use Rattle.keys_dm.specs.Violations.{KeepsKeys, Violates}
use Rattle.keys_dm.specs.declared.violation.ViolationKind.{ViolationKind}
use Rattle.ntriples_dm.specs.Written.{triple_text}
use Rattle.outside_dm.specs.Putting.{Writes}
use Rattle.outside_dm.specs.Sinks.{SinkState}
use Rattle.outside_dm.specs.declared.sink.PutError.{PutError}
use Rattle.graphs_dm.specs.Nodes.{row_node}
use Rattle.graphs_dm.specs.Ontology.{OntologyStandsAt}
use Rattle.graphs_dm.specs.OwnNodes.{HasRow}
use Rattle.graphs_dm.specs.Relations.{CountsAsClass, CountsAsRelation, left_key, relation_of, right_key}
use Rattle.graphs_dm.specs.RowFacts.{References, RowStandsAt, line_of}
use Rattle.graphs_dm.specs.declared.graph_name.GraphName.{GraphName}
use Rattle.graphs_dm.specs.declared.graph_name.GraphName.TheVariants.{Direct, Map, MapKeys}

abbrev pub HasOntology : GraphName → Type 0
HasOntology Direct = ⊥
HasOntology Map = Unit {0}
HasOntology MapKeys = Unit {0}

abbrev pub MarksViolations : GraphName → Type 0
MarksViolations Direct = ⊥
MarksViolations Map = ⊥
MarksViolations MapKeys = Unit {0}

-- the map graph is defined for databases that keep their keys, since a row of a relation then has one link
abbrev pub IsDefined : GraphName → Data → Type 0
IsDefined Direct D = Unit {0}
IsDefined Map D = KeepsKeys D
IsDefined MapKeys D = Unit {0}

-- a fact of the row i of the table t stands at a place: of a class its class, columns and foreign keys at 0 to 2, and its mark,
-- however many keys it violates, at 3; of a relation the one link, from the row that the left key references to the one
-- that the right key does, at 0
pub data GraphRowStandsAt (name : GraphName) (base : List ℕ) (D : Data) (t i : ℕ) (place : Place) (fact : Fact) : Type 0 where
  row_of_class : CountsAsClass name D.tables t → RowStandsAt base D t i place fact → GraphRowStandsAt name base D t i place fact
  row_of_relation : (sides : Binary) (j l : ℕ) → CountsAsRelation name D.tables t sides → References D t i (left_key D.tables t sides) j
      → References D t i (right_key D.tables t sides) l → place ≡ 0 ∷ []
      → fact ≡ a_link (row_node base D (left_key D.tables t sides).target j) (relation_of D.tables t sides) (row_node base D (right_key D.tables t sides).target l)
      → GraphRowStandsAt name base D t i place fact
  row_mark : MarksViolations name → (kind : ViolationKind) → Violates D t i kind → place ≡ 3 ∷ [] → fact ≡ a_mark (row_node base D t i)
      → GraphRowStandsAt name base D t i place fact

-- a fact of the graph stands at a place: 0, its table and its place in the ontology; or 1, its table, its row and its place there
pub data StandsAt (name : GraphName) (base : List ℕ) (D : Data) (place : Place) (fact : Fact) : Type 0 where
  of_ontology : HasOntology name → (t : ℕ) (rest : Place) → t < length D.tables → place ≡ 0 ∷ t ∷ rest → OntologyStandsAt name base D.tables t rest fact → StandsAt name base D place fact
  of_row : (t i : ℕ) (rest : Place) → HasRow D t i → place ≡ 1 ∷ t ∷ i ∷ rest → GraphRowStandsAt name base D t i rest fact → StandsAt name base D place fact

-- ---- the graph as a set, apart from any order

-- the fact is one of the graph's
abbrev pub IsFactOf : GraphName → List ℕ → Data → Fact → Type 0
IsFactOf name base D fact = (place : Place) × StandsAt name base D place fact

-- the triple is one of the graph's
abbrev pub IsTripleOf : GraphName → List ℕ → Data → Statement → Type 0
IsTripleOf name base D triple = (fact : Fact) × IsFactOf name base D fact × (triple ≡ triple_of base fact)

-- the list has exactly the graph's triples, in whatever order
pub record AreTriplesOf (name : GraphName) (base : List ℕ) (D : Data) (triples : List Statement) : Type 0 where
  pub only : (triple : Statement) → IsIn triple triples → IsTripleOf name base D triple
  pub all : (triple : Statement) → IsTripleOf name base D triple → IsIn triple triples

-- a node is marked exactly where it is the node of a row that violates a key
pub record MarksViolatingRows (base : List ℕ) (D : Data) : Type 0 where
  pub marked : (node : Node) → IsTripleOf MapKeys base D (triple_of base (a_mark node)) ↔ ((t i : ℕ) × (kind : ViolationKind) × HasRow D t i × Violates D t i kind × (node ≡ row_node base D t i))

-- ---- the graph as a text

-- the bytes of the graph's text: the lines of exactly its triples, in rising order of their places
pub record IsGraphText (name : GraphName) (base : List ℕ) (D : Data) (text : List ℕ) : Type 0 where
  pub facts : List Fact
  pub listing : IsListing (StandsAt name base D) facts
  pub lines : text ≡ flat_map (line_of base) facts

-- a text of the graph has the lines of exactly its triples
pub record HasItsTriples (name : GraphName) (base : List ℕ) (D : Data) (text : List ℕ) : Type 0 where
  pub triples : List Statement
  pub exact : AreTriplesOf name base D triples
  pub lines : text ≡ flat_map triple_text triples

-- the graph's text was put, or at a refusal a prefix of it
pub record PutsGraph (name : GraphName) (base : List ℕ) (D : Data) (old new : SinkState) (result : Result (Unit {0}) PutError) : Type 0 where
  pub text : List ℕ
  pub is_text : IsGraphText name base D text
  pub writes : Writes text old new result

-- ---- the rows of a batch

-- the first row of the table that counts, where the list tells one; else its row 0
abbrev pub first_row : List ℕ → ℕ → ℕ
first_row firsts t = slice_index_or firsts t 0

-- a fact of the graph stands at this place, and it is of a row that isn't before the first row of its table
pub data LaterRowStandsAt (name : GraphName) (base : List ℕ) (D : Data) (firsts : List ℕ) (place : Place) (fact : Fact) : Type 0 where
  of_later_row : (t i : ℕ) (rest : Place) → HasRow D t i → first_row firsts t ≤ i → place ≡ 1 ∷ t ∷ i ∷ rest → GraphRowStandsAt name base D t i rest fact
      → LaterRowStandsAt name base D firsts place fact

-- the lines of exactly the triples of these rows, in rising order of their places in the graph
pub record IsLaterRowsText (name : GraphName) (base : List ℕ) (D : Data) (firsts : List ℕ) (text : List ℕ) : Type 0 where
  pub facts : List Fact
  pub listing : IsListing (LaterRowStandsAt name base D firsts) facts
  pub lines : text ≡ flat_map (line_of base) facts

-- this text was put, or at a refusal a prefix of it
pub record PutsLaterRows (name : GraphName) (base : List ℕ) (D : Data) (firsts : List ℕ) (old new : SinkState) (result : Result (Unit {0}) PutError) : Type 0 where
  pub text : List ℕ
  pub is_text : IsLaterRowsText name base D firsts text
  pub writes : Writes text old new result
