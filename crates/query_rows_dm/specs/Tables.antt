-- The rows of a table as columns of numbers.
use Rattle.std.specs.Prelude.{◌≡◌, ◌↔◌, ℕ, suc, List, [], ◌∷◌, map, slice_get, slice_index_or}
use Rattle.std.specs.declared.option.Option.TheVariants.{None, Some}
use Rattle.std.specs.List.{AllZip}
use Rattle.members_dm.specs.Elements.{Each}
use Rattle.members_dm.specs.Membership.{IsIn, NoRepeats}
use Rattle.value_dm.specs.declared.value.Value.{Value}
use Rattle.schema_dm.specs.Naming.{Name}
use Rattle.names_dm.specs.Variables.{variable_of}
use Rattle.solutions_dm.specs.declared.columns.Column.{Column}
use Rattle.solutions_dm.specs.Table.{HasRow}
use Rattle.table_csv.specs.Cells.{Row}
use Rattle.query_rows_dm.specs.Numbers.{AreGrown, IsNumberOf}
use Rattle.query_rows_dm.specs.Relations.{Numbers, OwnsVariable}
use Rattle.query_rows_dm.specs.declared.relation.Relation.{Relation}

-- the numbers are those of the rows' cells in the column at the place, counted from 0
abbrev pub AreColumnNumbers : List Value → List Row → ℕ → List ℕ → Type 0
AreColumnNumbers values rows place numbers = AllZip (λ row n. IsNumberOf values (slice_index_or row place None) n) rows numbers

-- the same, where the values have grown meanwhile
pub record AreNumbered (old new : List Value) (rows : List Row) (place : ℕ) (ns : List ℕ) : Type 0 where
  pub grown : AreGrown old new
  pub numbers : AreColumnNumbers new rows place ns

-- the columns of these variables, from the place on
abbrev pub AreColumnsFrom : List Value → List Row → ℕ → List (List ℕ) → List Column → Type 0
AreColumnsFrom values rows place [] [] = Unit {0}
AreColumnsFrom values rows place [] (c ∷ cs) = ⊥
AreColumnsFrom values rows place (x ∷ xs) [] = ⊥
AreColumnsFrom values rows place (x ∷ xs) (c ∷ cs) = ((c.name ≡ x) × AreColumnNumbers values rows place c.numbers) × AreColumnsFrom values rows (suc place) xs cs

pub record AreColumns (old new : List Value) (rows : List Row) (variables : List (List ℕ)) (cs : List Column) : Type 0 where
  pub grown : AreGrown old new
  pub columns : AreColumnsFrom new rows 0 variables cs

-- the numbers are those of the row's cells, and 0 under other variables
pub record IsRowOf (values : List Value) (variables : List (List ℕ)) (row : Row) (m : Numbers) : Type 0 where
  pub cells : (place : ℕ) (x : List ℕ) → slice_get variables place ≡ Some x → IsNumberOf values (slice_index_or row place None) (m x)
  pub others : (x : List ℕ) → ¬ IsIn x variables → m x ≡ 0

-- the rows of a table under its columns' names
pub record IsTableRelation (old new : List Value) (names : List Name) (all : List Row) (relation : Relation) : Type 0 where
  pub grown : AreGrown old new
  pub owned : Each OwnsVariable names
  pub attributes : relation.attributes ≡ map variable_of names
  pub once : NoRepeats (map variable_of names)
  pub rows : (m : Numbers) → HasRow relation.rows m ↔ ((row : Row) × IsIn row all × IsRowOf new (map variable_of names) row m)
  pub each : (row : Row) → IsIn row all → (m : Numbers) × IsRowOf new (map variable_of names) row m
