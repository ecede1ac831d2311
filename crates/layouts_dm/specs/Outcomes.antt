-- What can be wrong with a graph: the first bad triple, and one of four causes. Triples are counted from 0.
use Rattle.std.specs.Prelude.{ℕ, ◌≡◌, ◌≢◌, ◌<◌, List, Some, slice_get}
use Rattle.schema_dm.specs.Naming.{Name}
use Rattle.names_dm.specs.declared.names.RelName.{RelName}
use Rattle.names_dm.specs.Statements.{Statement}
use Rattle.facts_dm.specs.Facts.{Fact, KindText, Node, a_link, a_node, rel_link, triple_of}
use Rattle.layouts_dm.specs.Layouts.{cell_fact}
use Rattle.layouts_dm.specs.Rules.{Explained, Explains, IsLink, Says}

pub data Cause : Type 0 where
  Unexplained : Cause
  TwoValues : Cause
  TwoTables : Cause
  NoKeyValue : Cause

-- the triple at the place i says the fact
abbrev pub SaysAt : List ℕ → List Statement → ℕ → Fact → Type 0
SaysAt base G i f = slice_get G i ≡ Some (triple_of base f)

-- an explained triple gives both ends a value in the relation's column
abbrev pub HasExplainedValues : List ℕ → List Statement → RelName → Name → Name → Node → Node → Type 0
HasExplainedValues base G q t u n m =
    ((v : KindText) × Says base G (cell_fact n t q.left_target v) × Explains base G (cell_fact n t q.left_target v))
    × ((v : KindText) × Says base G (cell_fact m u q.right_target v) × Explains base G (cell_fact m u q.right_target v))

-- the cause applies to the triple at the place i
abbrev pub Applies : List ℕ → List Statement → ℕ → Cause → Type 0
-- it isn't explained
Applies base G i Unexplained = (x : Statement) × (slice_get G i ≡ Some x) × (¬ Explained base G x)
-- it is explained as a value of a node, and so is an earlier triple that gives the node another value in this column
Applies base G i TwoValues =
    (j : ℕ) × (n : Node) × (t : Name) × (c : Name) × (v : KindText) × (w : KindText) × (j < i) × (v ≢ w) × SaysAt base G j (cell_fact n t c v) × SaysAt base G i (cell_fact n t c w)
    × Explains base G (cell_fact n t c v) × Explains base G (cell_fact n t c w)
-- it is explained as a node of a class, and an earlier triple that is so too gives the node another class
Applies base G i TwoTables =
    (j : ℕ) × (n : Node) × (t : Name) × (u : Name) × (j < i) × (t ≢ u) × SaysAt base G j (a_node n t) × SaysAt base G i (a_node n u)
    × Explains base G (a_node n t) × Explains base G (a_node n u)
-- it is explained as a pair of a relation, and no explained triple gives one of its ends a value in the relation's column
Applies base G i NoKeyValue =
    (q : RelName) × (t : Name) × (u : Name) × (n : Node) × (m : Node) × IsLink base G (rel_link q) t u × SaysAt base G i (a_link n (rel_link q) m)
    × Explains base G (a_link n (rel_link q) m) × (¬ HasExplainedValues base G q t u n m)

-- the triple at the place i is the first to which a cause applies, and this one applies
pub record FirstBad (base : List ℕ) (G : List Statement) (i : ℕ) (cause : Cause) : Type 0 where
  pub before : (j : ℕ) (earlier : Cause) → j < i → ¬ Applies base G j earlier
  pub applies : Applies base G i cause

-- The triple at the place i passes: what shows, triple by triple, that no cause applies.
pub record Passes (base : List ℕ) (G : List Statement) (i : ℕ) : Type 0 where
  pub explained : (x : Statement) → slice_get G i ≡ Some x → Explained base G x
  pub one_value : (j : ℕ) (n : Node) (t c : Name) (v w : KindText) → j < i → SaysAt base G j (cell_fact n t c v) → SaysAt base G i (cell_fact n t c w) → v ≡ w
  pub one_table : (j : ℕ) (n : Node) (t u : Name) → j < i → SaysAt base G j (a_node n t) → SaysAt base G i (a_node n u) → t ≡ u
  pub values : (q : RelName) (t u : Name) (n m : Node) → IsLink base G (rel_link q) t u → SaysAt base G i (a_link n (rel_link q) m) → HasExplainedValues base G q t u n m
