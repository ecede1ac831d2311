-- Why a query is refused at one of its nodes, and in which order these causes are told.
use Rattle.std.specs.Prelude.{◌≡◌, ◌⊎◌, ◌↔◌, ◌<◌, List, [], ◌∷◌, length}
use Rattle.members_dm.specs.Elements.{Each, HasSome, Repeats}
use Rattle.schema_dm.specs.Naming.{Name}
use Rattle.schema_dm.specs.declared.table.Table.{Table as SchemaTable}
use Rattle.algebra_dm.specs.Attributes.{HasTable, HasAttribute, AreAttributes}
use Rattle.algebra_dm.specs.declared.error.QueryError.{QueryError}
use Rattle.algebra_dm.specs.declared.error.QueryError.TheVariants.{BadQuery, TooDeep, NoSuchTable, NoSuchColumn, NameTaken, NotSameColumns, EmptyProject, TooWide, Memory}
use Rattle.algebra_dm.specs.declared.query.Query.{Query, end_of-Query, more_of-Query}
use Rattle.algebra_dm.specs.declared.query.Query.TheVariants.{Table, Null, Eq', Ne', IsNull', NotNull', Project', Rename', Join', Union', Diff'}

-- a table that the schema hasn't
abbrev pub NamesNoTable : List SchemaTable → Query → Type 0
NamesNoTable tables (Table t) = ¬ HasTable tables t
NamesNoTable tables q = ⊥

-- a projection to no names
abbrev pub ProjectsNothing : Query → Type 0
ProjectsNothing (Project' s p names) = names ≡ []
ProjectsNothing q = ⊥

-- a selection, projection or renaming of an attribute that the part hasn't
abbrev pub LacksAttribute : List SchemaTable → Query → Type 0
LacksAttribute tables (Eq' s (more_of-Query p end_of-Query) n v) = ¬ HasAttribute tables p n
LacksAttribute tables (Ne' s (more_of-Query p end_of-Query) n v) = ¬ HasAttribute tables p n
LacksAttribute tables (IsNull' s (more_of-Query p end_of-Query) n) = ¬ HasAttribute tables p n
LacksAttribute tables (NotNull' s (more_of-Query p end_of-Query) n) = ¬ HasAttribute tables p n
LacksAttribute tables (Project' s (more_of-Query p end_of-Query) names) = HasSome (λ n. ¬ HasAttribute tables p n) names
LacksAttribute tables (Rename' s (more_of-Query p end_of-Query) from to) = ¬ HasAttribute tables p from
LacksAttribute tables q = ⊥

-- a renaming to an attribute that is there, the renamed one included, or a projection with a name twice
abbrev pub TakesName : List SchemaTable → Query → Type 0
TakesName tables (Project' s p names) = Repeats names
TakesName tables (Rename' s (more_of-Query p end_of-Query) from to) = HasAttribute tables p to
TakesName tables q = ⊥

-- the parts have the same attributes
abbrev pub HaveSame : List SchemaTable → Query → Query → Type 0
HaveSame tables p q = (a : Name) → HasAttribute tables p a ↔ HasAttribute tables q a

-- a union or difference of parts with different attributes
abbrev pub HasUnlikeParts : List SchemaTable → Query → Type 0
HasUnlikeParts tables (Union' s (more_of-Query p end_of-Query) s' (more_of-Query q end_of-Query)) = ¬ HaveSame tables p q
HasUnlikeParts tables (Diff' s (more_of-Query p end_of-Query) s' (more_of-Query q end_of-Query)) = ¬ HaveSame tables p q
HasUnlikeParts tables q = ⊥

-- more than 1,024 attributes
abbrev pub IsTooWide : List SchemaTable → Query → Type 0
IsTooWide tables q = (names : List Name) × AreAttributes tables q names × (1024 < length names)

-- the cause stands at the query's outermost node
abbrev pub IsCause : List SchemaTable → Query → QueryError → Type 0
IsCause tables q NoSuchTable = NamesNoTable tables q
IsCause tables q EmptyProject = ProjectsNothing q
IsCause tables q NoSuchColumn = LacksAttribute tables q
IsCause tables q NameTaken = TakesName tables q
IsCause tables q NotSameColumns = HasUnlikeParts tables q
IsCause tables q TooWide = IsTooWide tables q
IsCause tables q (BadQuery place) = ⊥
IsCause tables q (TooDeep place) = ⊥
IsCause tables q Memory = ⊥

-- the causes in the order in which they are told
abbrev pub causes : List QueryError
causes = NoSuchTable ∷ EmptyProject ∷ NoSuchColumn ∷ NameTaken ∷ NotSameColumns ∷ TooWide ∷ []

-- x is the first item with the property
abbrev pub IsFirst : {X : Type 0} → (X → Type 0) → List X → X → Type 0
IsFirst P [] x = ⊥
IsFirst P (y ∷ ys) x = ((y ≡ x) × P y) ⊎ ((¬ P y) × IsFirst P ys x)

abbrev pub IsFirstCause : List SchemaTable → Query → QueryError → Type 0
IsFirstCause tables q error = IsFirst (IsCause tables q) causes error

abbrev pub HasNoCause : List SchemaTable → Query → Type 0
HasNoCause tables q = Each (λ cause. ¬ IsCause tables q cause) causes
