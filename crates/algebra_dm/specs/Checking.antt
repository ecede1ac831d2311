-- What is known of a query once it is checked, and what is known on the way.
use Rattle.std.specs.Prelude.{◌≡◌, ◌⊎◌, ◌↔◌, ◌<◌, ◌≤◌, ℕ, true, Result, Ok, Err, List, length, slice_get}
use Rattle.std.specs.declared.option.Option.TheVariants.{Some}
use Rattle.members_dm.specs.Membership.{IsIn, IsRising}
use Rattle.schema_dm.specs.Naming.{Name, column_names}
use Rattle.schema_dm.specs.Shapes.{IsBefore}
use Rattle.schema_dm.specs.declared.draft.Column.{Column}
use Rattle.schema_dm.specs.declared.table.Table.{Table as SchemaTable}
use Rattle.algebra_dm.specs.Attributes.{AreAttributes, Lists}
use Rattle.algebra_dm.specs.Causes.{HasNoCause, IsFirstCause}
use Rattle.algebra_dm.specs.Certain.{IsCertain}
use Rattle.algebra_dm.specs.Nodes.{IsFaultless, IsFirstFault, nodes}
use Rattle.algebra_dm.specs.declared.error.QueryError.{QueryError}
use Rattle.algebra_dm.specs.declared.error.QueryError.TheVariants.{BadQuery, TooDeep, NoSuchTable, NoSuchColumn, NameTaken, NotSameColumns, EmptyProject, TooWide, Memory}
use Rattle.algebra_dm.specs.declared.known.Known.{Known}
use Rattle.algebra_dm.specs.declared.query.Mode.{Mode}
use Rattle.algebra_dm.specs.declared.query.Query.{Query}

-- its attributes, and those that are certain
pub record IsKnown (mode : Mode) (tables : List SchemaTable) (q : Query) (known : Known) : Type 0 where
  pub attributes : AreAttributes tables q known.attributes
  pub certain : Lists (IsCertain mode tables q) known.certain

-- what is answered of the outermost node, where its parts are known
abbrev pub IsNodeAnswer : Mode → List SchemaTable → Query → Result Known QueryError → Type 0
IsNodeAnswer mode tables q (Ok known) = HasNoCause tables q × IsKnown mode tables q known
IsNodeAnswer mode tables q (Err error) = (error ≡ Memory) ⊎ IsFirstCause tables q error

-- what is answered of the whole query
abbrev pub IsAnswer : Mode → List SchemaTable → Query → Result Known QueryError → Type 0
IsAnswer mode tables q (Ok known) = IsFaultless tables q × IsKnown mode tables q known
IsAnswer mode tables q (Err error) = (error ≡ Memory) ⊎ IsFirstFault tables (nodes q) error

-- ---- on the way

-- both lists are in the order of their bytes
abbrev pub AreInOrder : Known → Type 0
AreInOrder known = IsRising IsBefore known.attributes × IsRising IsBefore known.certain

-- exactly the names of the list with the property, in any order
abbrev pub AreThose : (Name → Type 0) → List Name → List Name → Type 0
AreThose P names kept = (a : Name) → IsIn a kept ↔ (IsIn a names × P a)

abbrev pub IsNotNullName : List Column → Name → Type 0
IsNotNullName columns a = (column : Column) × IsIn column columns × (column.name ≡ a) × (column.not_null ≡ true)

abbrev pub IsKeyName : List Column → List ℕ → Name → Type 0
IsKeyName columns places a = (place : ℕ) × IsIn place places × (slice_get (column_names columns) place ≡ Some a)

-- the causes at a node, in the order in which they are told, but for the number of attributes
pub record HasNone (N L T U : Type 0) : Type 0 where
  pub nothing : ¬ N
  pub lacks : ¬ L
  pub takes : ¬ T
  pub unlike : ¬ U

-- what is told of a node by these causes (a projection to nothing, an attribute that is lacking, a name that is taken,
-- unlike parts), attributes and certain attributes
abbrev pub IsTold : (N L T U : Type 0) → (Name → Type 0) → (Name → Type 0) → Result Known QueryError → Type 0
IsTold N L T U A C (Ok known) = HasNone N L T U × Lists A known.attributes × Lists C known.certain × (length known.attributes ≤ 1024)
IsTold N L T U A C (Err EmptyProject) = N
IsTold N L T U A C (Err NoSuchColumn) = L × (¬ N)
IsTold N L T U A C (Err NameTaken) = T × (¬ N) × (¬ L)
IsTold N L T U A C (Err NotSameColumns) = U × (¬ N) × (¬ L) × (¬ T)
IsTold N L T U A C (Err TooWide) = ((names : List Name) × Lists A names × (1024 < length names)) × HasNone N L T U
IsTold N L T U A C (Err Memory) = Unit {0}
IsTold N L T U A C (Err NoSuchTable) = ⊥
IsTold N L T U A C (Err (BadQuery place)) = ⊥
IsTold N L T U A C (Err (TooDeep place)) = ⊥
