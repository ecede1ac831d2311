-- Which attributes the tuples of a query have.
use Rattle.std.specs.Prelude.{◌≡◌, ◌≢◌, ◌⊎◌, ◌↔◌, List}
use Rattle.members_dm.specs.Membership.{IsIn, IsRising}
use Rattle.schema_dm.specs.Naming.{Name, column_names}
use Rattle.schema_dm.specs.Shapes.{IsBefore}
use Rattle.schema_dm.specs.declared.table.Table.{Table as SchemaTable}
use Rattle.algebra_dm.specs.declared.query.Query.{Query, end_of-Query, more_of-Query}
use Rattle.algebra_dm.specs.declared.query.Query.TheVariants.{Table, Null, Eq', Ne', IsNull', NotNull', Project', Rename', Join', Union', Diff'}

-- a table of the schema has the name
abbrev pub IsNamed : List SchemaTable → Name → SchemaTable → Type 0
IsNamed tables name table = IsIn table tables × (table.name ≡ name)

abbrev pub HasTable : List SchemaTable → Name → Type 0
HasTable tables name = (table : SchemaTable) × IsNamed tables name table

-- the tuples of the query have this attribute
abbrev pub HasAttribute : List SchemaTable → Query → Name → Type 0
HasAttribute tables (Table t) a = (table : SchemaTable) × IsNamed tables t table × IsIn a (column_names table.columns)
HasAttribute tables (Null n) a = n ≡ a
HasAttribute tables (Eq' s (more_of-Query p end_of-Query) n v) a = HasAttribute tables p a
HasAttribute tables (Ne' s (more_of-Query p end_of-Query) n v) a = HasAttribute tables p a
HasAttribute tables (IsNull' s (more_of-Query p end_of-Query) n) a = HasAttribute tables p a
HasAttribute tables (NotNull' s (more_of-Query p end_of-Query) n) a = HasAttribute tables p a
HasAttribute tables (Project' s (more_of-Query p end_of-Query) names) a = IsIn a names
HasAttribute tables (Rename' s (more_of-Query p end_of-Query) from to) a = (to ≡ a) ⊎ (HasAttribute tables p a × (from ≢ a))
HasAttribute tables (Join' s (more_of-Query p end_of-Query) s' (more_of-Query q end_of-Query)) a = HasAttribute tables p a ⊎ HasAttribute tables q a
HasAttribute tables (Union' s (more_of-Query p end_of-Query) s' (more_of-Query q end_of-Query)) a = HasAttribute tables p a
HasAttribute tables (Diff' s (more_of-Query p end_of-Query) s' (more_of-Query q end_of-Query)) a = HasAttribute tables p a

-- exactly the names with the property, each once, in the order of their bytes
pub record Lists (P : Name → Type 0) (names : List Name) : Type 0 where
  pub rising : IsRising IsBefore names
  pub exact : (a : Name) → IsIn a names ↔ P a

-- the attributes of the query
abbrev pub AreAttributes : List SchemaTable → Query → List Name → Type 0
AreAttributes tables q names = Lists (HasAttribute tables q) names
