-- When a pattern keeps the answers of a query (after Sequeda, Arenas and Miranker, On Directly Mapping Relational Databases to RDF
-- and OWL, WWW 2012, query preservation): its solutions are exactly the mappings that agree with a tuple.
use Rattle.std.specs.Prelude.{◌≡◌, ◌≢◌, ℕ, List}
use Rattle.std.specs.declared.option.Option.TheVariants.{None, Some}
use Rattle.value_dm.specs.Lawful.{IsLawful}
use Rattle.value_dm.specs.declared.value.Value.{Value}
use Rattle.names_dm.specs.Statements.{Statement}
use Rattle.names_dm.specs.Variables.{variable_of}
use Rattle.schema_dm.specs.Naming.{Name}
use Rattle.algebra_dm.specs.Tuples.{Tuple}
use Rattle.query_rows_dm.specs.Grids.{term_in}
use Rattle.pattern_dm.specs.Mappings.{Mapping}
use Rattle.pattern_dm.specs.Solution.{Solution}
use Rattle.pattern_dm.specs.declared.pattern.Pattern.{Pattern}

-- the mapping binds the variable of each attribute that has a value to the literal of this value, and nothing else
pub record Agrees (m : Mapping) (w : Tuple) : Type 0 where
  pub bound : (a : Name) → m (variable_of a) ≡ term_in (w a)
  pub others : (x : List ℕ) → ((a : Name) → variable_of a ≢ x) → m x ≡ None

-- each value of the tuple obeys the rules of its type
abbrev pub IsLawfulTuple : Tuple → Type 0
IsLawfulTuple w = (a : Name) (v : Value) → w a ≡ Some v → IsLawful v

-- the solutions of the pattern over the graph are exactly the mappings that agree with one of the tuples
pub record Keeps (g : Statement → Type 0) (p : Pattern) (has : Tuple → Type 0) : Type 0 where
  pub back : (m : Mapping) → Solution g p m → (w : Tuple) × has w × Agrees m w
  pub forth : (m : Mapping) (w : Tuple) → has w → Agrees m w → Solution g p m
