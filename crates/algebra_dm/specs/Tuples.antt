-- Which tuples a query has: the algebra of relations with nulls, over sets. The null value is equal to no value where
-- tuples are joined or compared with a value, and isn't distinct from itself where tuples are compared as wholes
-- (ISO/IEC 9075-2, 4.1.5).
use Rattle.std.specs.Prelude.{◌≡◌, ◌≢◌, ◌⊎◌, ℕ, List, slice_get, slice_index_or}
use Rattle.std.specs.declared.option.Option.TheVariants.{None, Some}
use Rattle.members_dm.specs.Membership.{IsIn}
use Rattle.value_dm.specs.declared.value.Value.{Value}
use Rattle.schema_dm.specs.Naming.{Name, column_names}
use Rattle.schema_dm.specs.declared.table.Table.{Table as SchemaTable}
use Rattle.table_csv.specs.Cells.{Cell, Row}
use Rattle.table_csv.specs.Databases.{Data, rows_at}
use Rattle.algebra_dm.specs.Attributes.{HasAttribute}
use Rattle.algebra_dm.specs.declared.query.Query.{Query, end_of-Query, more_of-Query}
use Rattle.algebra_dm.specs.declared.query.Query.TheVariants.{Table, Null, Eq', Ne', IsNull', NotNull', Project', Rename', Join', Union', Diff'}

-- What a tuple has in each attribute: a value, or None where it has NULL. A name that is no attribute has None as well;
-- which names are attributes is said apart.
abbrev pub Tuple : Type 0
Tuple = Name → Cell

-- the tuple has the row's cells under the names, and nothing under any other
pub record IsUnder (names : List Name) (row : Row) (w : Tuple) : Type 0 where
  pub named : (place : ℕ) (name : Name) → slice_get names place ≡ Some name → w name ≡ slice_index_or row place None
  pub others : (a : Name) → ¬ IsIn a names → w a ≡ None

-- a row of a table of the name, under its columns' names
abbrev pub IsRowOfTable : Data → Name → Tuple → Type 0
IsRowOfTable D name w = (t : ℕ) × (table : SchemaTable) × (row : Row) × (slice_get D.tables t ≡ Some table) × (table.name ≡ name)
    × IsIn row (rows_at D.rows t) × IsUnder (column_names table.columns) row w

-- what the tuple has in the attributes of these names, and nothing else
pub record IsProjection (names : List Name) (u w : Tuple) : Type 0 where
  pub kept : (a : Name) → IsIn a names → w a ≡ u a
  pub others : (a : Name) → ¬ IsIn a names → w a ≡ None

-- the new name has what the old one had, the old one nothing, and each other name what it had
pub record IsRenamed (from to : Name) (u w : Tuple) : Type 0 where
  pub new : w to ≡ u from
  pub old : from ≢ to → w from ≡ None
  pub others : (a : Name) → from ≢ a → to ≢ a → w a ≡ u a

-- the same value in each attribute of both, and in none of these NULL
abbrev pub Match : (Name → Type 0) → (Name → Type 0) → Tuple → Tuple → Type 0
Match P Q u v = (a : Name) → P a → Q a → (x : Value) × (u a ≡ Some x) × (v a ≡ Some x)

abbrev pub first_of : Cell → Cell → Cell
first_of None cell = cell
first_of (Some x) cell = Some x

-- the query has this tuple
abbrev pub IsTuple : Data → Query → Tuple → Type 0
IsTuple D (Table t) w = IsRowOfTable D t w
IsTuple D (Null n) w = (a : Name) → w a ≡ None
IsTuple D (Eq' s (more_of-Query p end_of-Query) n v) w = IsTuple D p w × (w n ≡ Some v)
IsTuple D (Ne' s (more_of-Query p end_of-Query) n v) w = IsTuple D p w × ((x : Value) × (w n ≡ Some x) × (x ≢ v))
IsTuple D (IsNull' s (more_of-Query p end_of-Query) n) w = IsTuple D p w × (w n ≡ None)
IsTuple D (NotNull' s (more_of-Query p end_of-Query) n) w = IsTuple D p w × (w n ≢ None)
IsTuple D (Project' s (more_of-Query p end_of-Query) names) w = (u : Tuple) × IsTuple D p u × IsProjection names u w
IsTuple D (Rename' s (more_of-Query p end_of-Query) from to) w = (u : Tuple) × IsTuple D p u × IsRenamed from to u w
IsTuple D (Join' s (more_of-Query p end_of-Query) s' (more_of-Query q end_of-Query)) w =
    (u v : Tuple) × IsTuple D p u × IsTuple D q v × Match (HasAttribute D.tables p) (HasAttribute D.tables q) u v × ((a : Name) → w a ≡ first_of (u a) (v a))
IsTuple D (Union' s (more_of-Query p end_of-Query) s' (more_of-Query q end_of-Query)) w = IsTuple D p w ⊎ IsTuple D q w
IsTuple D (Diff' s (more_of-Query p end_of-Query) s' (more_of-Query q end_of-Query)) w = IsTuple D p w × (¬ IsTuple D q w)
