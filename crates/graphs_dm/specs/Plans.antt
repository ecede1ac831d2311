-- Which tables are relations in a graph and which rows are marked, as a writer has it in lists. Tables and rows are counted
-- from 0.
use Rattle.std.specs.Prelude.{◌≡◌, ◌<◌, ◌↔◌, ℕ, Bool, true, false, List, [], Option, Some, None, IfSome, length, slice_index_or}
use Rattle.schema_dm.specs.Relations.{IsBinaryRelation}
use Rattle.schema_dm.specs.declared.table.Binary.{Binary}
use Rattle.schema_dm.specs.declared.table.Table.{Table}
use Rattle.table_csv.specs.Databases.{Data, rows_at}
use Rattle.keys_dm.specs.Violations.{Violates}
use Rattle.keys_dm.specs.declared.violation.ViolationKind.{ViolationKind}
use Rattle.graphs_dm.specs.Graphs.{MarksViolations}
use Rattle.graphs_dm.specs.OwnNodes.{HasRow}
use Rattle.graphs_dm.specs.Relations.{CountsAsClass, CountsAsRelation}
use Rattle.graphs_dm.specs.declared.graph_name.GraphName.{GraphName}
use Rattle.graphs_dm.specs.declared.plan.Plan.{Plan}

-- the sides of the relation that the table is, or none for a class
abbrev pub IsChoice : GraphName → List Table → ℕ → Option Binary → Type 0
IsChoice name tables t None = CountsAsClass name tables t
IsChoice name tables t (Some sides) = CountsAsRelation name tables t sides

-- the choices of the first tables
pub record AreChoices (name : GraphName) (tables : List Table) (count : ℕ) (relations : List (Option Binary)) : Type 0 where
  pub many : length relations ≡ count
  pub each : (t : ℕ) → t < count → IsChoice name tables t (slice_index_or relations t None)

-- the graph marks the row
abbrev pub IsMarked : GraphName → Data → ℕ → ℕ → Type 0
IsMarked name D t i = MarksViolations name × ((kind : ViolationKind) × Violates D t i kind)

-- flags of the first rows of a table that violate a key
pub record AreFlags (D : Data) (t count : ℕ) (flags : List Bool) : Type 0 where
  pub many : length flags ≡ count
  pub each : (i : ℕ) → i < count → (slice_index_or flags i false ≡ true) ↔ ((kind : ViolationKind) × Violates D t i kind)

-- the flags of the first tables
pub record AreAllFlags (D : Data) (count : ℕ) (marks : List (List Bool)) : Type 0 where
  pub many : length marks ≡ count
  pub each : (t : ℕ) → t < count → AreFlags D t (length (rows_at D.rows t)) (slice_index_or marks t [])

abbrev pub flag_at : List (List Bool) → ℕ → ℕ → Bool
flag_at marks t i = slice_index_or (slice_index_or marks t []) i false

-- the flags of the rows that the graph marks
abbrev pub AreMarks : GraphName → Data → List (List Bool) → Type 0
AreMarks name D marks = (t i : ℕ) → HasRow D t i → (flag_at marks t i ≡ true) ↔ IsMarked name D t i

pub record IsPlanOf (name : GraphName) (D : Data) (plan : Plan) : Type 0 where
  pub relations : AreChoices name D.tables (length D.tables) plan.relations
  pub marks : AreMarks name D plan.marks

abbrev pub relation_at : Plan → ℕ → Option Binary
relation_at plan t = slice_index_or plan.relations t None

-- each relation is a binary one
abbrev pub AreBinaries : List Table → Plan → Type 0
AreBinaries tables plan = (t : ℕ) → t < length tables → IfSome (relation_at plan t) (IsBinaryRelation tables t)

abbrev pub is_marked : Plan → ℕ → ℕ → Bool
is_marked plan t i = flag_at plan.marks t i
