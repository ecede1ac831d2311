-- The triples by which a batch of rows enlarges a map graph. Tables and rows are counted from 0.
use Rattle.std.specs.Prelude.{◌≡◌, ◌↔◌, ℕ, List, length, map, Result}
use Rattle.std.specs.List.{flat_map}
use Rattle.members_dm.specs.InOrder.{positions_below}
use Rattle.members_dm.specs.Places.{Place, IsListing}
use Rattle.names_dm.specs.Statements.{Statement}
use Rattle.facts_dm.specs.Facts.{Fact, triple_of}
use Rattle.table_csv.specs.Databases.{Data, rows_at}
use Rattle.outside_dm.specs.Putting.{Writes}
use Rattle.outside_dm.specs.Sinks.{SinkState}
use Rattle.outside_dm.specs.declared.sink.PutError.{PutError}
use Rattle.graphs_dm.specs.Graphs.{IsTripleOf, LaterRowStandsAt, StandsAt}
use Rattle.graphs_dm.specs.RowFacts.{line_of}
use Rattle.graphs_dm.specs.declared.graph_name.GraphName.TheVariants.{Map}

-- a fact of the enlarged map graph stands at this place, and its triple isn't one of the old map graph
pub record IsNewAt (base : List ℕ) (old whole : Data) (place : Place) (fact : Fact) : Type 0 where
  pub stands : StandsAt Map base whole place fact
  pub new : ¬ IsTripleOf Map base old (triple_of base fact)

-- the lines of exactly the new triples, in rising order of their places in the enlarged graph
pub record IsBatchText (base : List ℕ) (old whole : Data) (text : List ℕ) : Type 0 where
  pub facts : List Fact
  pub listing : IsListing (IsNewAt base old whole) facts
  pub lines : text ≡ flat_map (line_of base) facts

-- this text was put, or at a refusal a prefix of it
pub record PutsBatch (base : List ℕ) (old whole : Data) (before after : SinkState) (result : Result (Unit {0}) PutError) : Type 0 where
  pub text : List ℕ
  pub is_text : IsBatchText base old whole text
  pub writes : Writes text before after result

-- the numbers of rows of the old tables
abbrev pub counts : Data → List ℕ
counts D = map (λ t. length (rows_at D.rows t)) (positions_below (length D.tables))

-- the old graph and the new triples are the enlarged graph, and the new triples are those of the batch's rows
pub record Enlarges (base : List ℕ) (old whole : Data) : Type 0 where
  pub stays : (triple : Statement) → IsTripleOf Map base old triple → IsTripleOf Map base whole triple
  pub rows : (place : Place) (fact : Fact) → IsNewAt base old whole place fact ↔ LaterRowStandsAt Map base whole (counts old) place fact
