-- Rows of numbers as the tuples that they stand for. An attribute has its variable, as in the patterns that queries are
-- translated to, and the rows have a number for each.
use Rattle.std.specs.Prelude.{◌≡◌, ◌≢◌, ◌↔◌, ℕ, List}
use Rattle.members_dm.specs.Membership.{IsIn, NoRepeats}
use Rattle.value_dm.specs.declared.value.Value.{Value}
use Rattle.schema_dm.specs.Naming.{Name}
use Rattle.names_dm.specs.Variables.{variable_of}
use Rattle.solutions_dm.specs.Table.{Table, HasRow}
use Rattle.algebra_dm.specs.Tuples.{Tuple}
use Rattle.query_rows_dm.specs.Numbers.{IsNumber, cell_of}
use Rattle.query_rows_dm.specs.declared.relation.Relation.{Relation}

-- a row's numbers under the variables
abbrev pub Numbers : Type 0
Numbers = List ℕ → ℕ

-- the tuple has the cells of the numbers
abbrev pub Reads : List Value → Numbers → Tuple → Type 0
Reads values m w = (a : Name) → w a ≡ cell_of values (m (variable_of a))

-- one of the rows stands for the tuple
abbrev pub HasTuple : List Value → Table → Tuple → Type 0
HasTuple values rows w = (m : Numbers) × HasRow rows m × Reads values m w

-- no other name has the same variable
abbrev pub OwnsVariable : Name → Type 0
OwnsVariable a = (other : Name) → variable_of other ≡ variable_of a → other ≡ a

-- a row has a number for each of the variables, and 0 under all others
pub record AreNumbers (values : List Value) (variables : List (List ℕ)) (m : Numbers) : Type 0 where
  pub bound : (x : List ℕ) → IsIn x variables → IsNumber values (m x)
  pub others : (x : List ℕ) → m x ≢ 0 → IsIn x variables

-- the attributes are these, one or more, each with its own variable, and the rows stand for exactly these tuples
pub record IsRelation (values : List Value) (A : Name → Type 0) (P : Tuple → Type 0) (relation : Relation) : Type 0 where
  pub some : (a : Name) × A a
  pub owned : (a : Name) → A a → OwnsVariable a
  pub attributes : (x : List ℕ) → IsIn x relation.attributes ↔ ((a : Name) × A a × (variable_of a ≡ x))
  pub once : NoRepeats relation.attributes
  pub numbers : (m : Numbers) → HasRow relation.rows m → AreNumbers values relation.attributes m
  pub exact : (w : Tuple) → HasTuple values relation.rows w ↔ P w
