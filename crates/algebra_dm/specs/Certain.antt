-- Attributes that have a value in each tuple of a query.
use Rattle.std.specs.Prelude.{◌≡◌, ◌≢◌, ◌⊎◌, ℕ, true, List, slice_get}
use Rattle.std.specs.declared.option.Option.TheVariants.{None, Some}
use Rattle.members_dm.specs.Membership.{IsIn}
use Rattle.schema_dm.specs.Naming.{Name, column_names}
use Rattle.schema_dm.specs.declared.draft.Column.{Column}
use Rattle.schema_dm.specs.declared.table.Table.{Table as SchemaTable}
use Rattle.table_csv.specs.Databases.{Data, IsDatabase}
use Rattle.keys_dm.specs.Violations.{KeepsKeys}
use Rattle.algebra_dm.specs.Attributes.{IsNamed, HasAttribute}
use Rattle.algebra_dm.specs.Tuples.{Tuple, IsTuple}
use Rattle.algebra_dm.specs.declared.query.Mode.{Mode}
use Rattle.algebra_dm.specs.declared.query.Mode.TheVariants.{Map, MapKeys}
use Rattle.algebra_dm.specs.declared.query.Query.{Query, end_of-Query, more_of-Query}
use Rattle.algebra_dm.specs.declared.query.Query.TheVariants.{Table, Null, Eq', Ne', IsNull', NotNull', Project', Rename', Join', Union', Diff'}

-- a column of the name has an explicit NOT NULL
abbrev pub IsNotNull : SchemaTable → Name → Type 0
IsNotNull table a = (column : Column) × IsIn column table.columns × (column.name ≡ a) × (column.not_null ≡ true)

-- a column of the name belongs to the primary key
abbrev pub IsOfPrimaryKey : SchemaTable → Name → Type 0
IsOfPrimaryKey table a = (places : List ℕ) × (place : ℕ) × (table.primary ≡ Some places) × IsIn place places × (slice_get (column_names table.columns) place ≡ Some a)

-- the columns with NOT NULL, and where keys are kept also those of the primary key
abbrev pub IsCertainColumn : Mode → SchemaTable → Name → Type 0
IsCertainColumn Map table a = IsNotNull table a ⊎ IsOfPrimaryKey table a
IsCertainColumn MapKeys table a = IsNotNull table a

-- the attribute is certain in the query
abbrev pub IsCertain : Mode → List SchemaTable → Query → Name → Type 0
IsCertain mode tables (Table t) a = (table : SchemaTable) × IsNamed tables t table × IsCertainColumn mode table a
IsCertain mode tables (Null n) a = ⊥
IsCertain mode tables (Eq' s (more_of-Query p end_of-Query) n v) a = (n ≡ a) ⊎ IsCertain mode tables p a
IsCertain mode tables (Ne' s (more_of-Query p end_of-Query) n v) a = (n ≡ a) ⊎ IsCertain mode tables p a
IsCertain mode tables (IsNull' s (more_of-Query p end_of-Query) n) a = IsCertain mode tables p a
IsCertain mode tables (NotNull' s (more_of-Query p end_of-Query) n) a = (n ≡ a) ⊎ IsCertain mode tables p a
IsCertain mode tables (Project' s (more_of-Query p end_of-Query) names) a = IsCertain mode tables p a × IsIn a names
IsCertain mode tables (Rename' s (more_of-Query p end_of-Query) from to) a = ((to ≡ a) × IsCertain mode tables p from) ⊎ (IsCertain mode tables p a × (from ≢ a) × (to ≢ a))
IsCertain mode tables (Join' s (more_of-Query p end_of-Query) s' (more_of-Query q end_of-Query)) a =
    IsCertain mode tables p a ⊎ (IsCertain mode tables q a ⊎ (HasAttribute tables p a × HasAttribute tables q a))
IsCertain mode tables (Union' s (more_of-Query p end_of-Query) s' (more_of-Query q end_of-Query)) a = IsCertain mode tables p a × IsCertain mode tables q a
IsCertain mode tables (Diff' s (more_of-Query p end_of-Query) s' (more_of-Query q end_of-Query)) a = IsCertain mode tables p a

-- the database keeps the keys that the mode speaks of: all of them, or none
abbrev pub KeepsKeysOf : Mode → Data → Type 0
KeepsKeysOf Map D = KeepsKeys D
KeepsKeysOf MapKeys D = Unit {0}

-- the attribute is NULL in no tuple that the query has over any such database of the schema
abbrev pub IsNeverNull : Mode → List SchemaTable → Query → Name → Type 0
IsNeverNull mode tables q a = (D : Data) (w : Tuple) → D.tables ≡ tables → IsDatabase D → KeepsKeysOf mode D → IsTuple D q w → w a ≢ None
