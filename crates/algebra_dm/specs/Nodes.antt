-- The nodes of a query in the order in which they are looked at, the first of them with a cause, and well-formed queries.
use Rattle.std.specs.Prelude.{◌⊎◌, List, [], ◌∷◌, ◌++◌}
use Rattle.members_dm.specs.Elements.{Each}
use Rattle.members_dm.specs.Membership.{IsIn}
use Rattle.schema_dm.specs.Naming.{Name}
use Rattle.schema_dm.specs.declared.table.Table.{Table as SchemaTable}
use Rattle.algebra_dm.specs.Causes.{HasNoCause, IsFirstCause}
use Rattle.algebra_dm.specs.declared.error.QueryError.{QueryError}
use Rattle.algebra_dm.specs.declared.query.Query.{Query, end_of-Query, more_of-Query}
use Rattle.algebra_dm.specs.declared.query.Query.TheVariants.{Table, Null, Eq', Ne', IsNull', NotNull', Project', Rename', Join', Union', Diff'}

-- each node by the query of which it is the outermost, parts before the whole, and left before right
abbrev pub nodes : Query → List Query
nodes (Table t) = Table t ∷ []
nodes (Null n) = Null n ∷ []
nodes (Eq' s (more_of-Query p end_of-Query) n v) = nodes p ++ Eq' s (more_of-Query p end_of-Query) n v ∷ []
nodes (Ne' s (more_of-Query p end_of-Query) n v) = nodes p ++ Ne' s (more_of-Query p end_of-Query) n v ∷ []
nodes (IsNull' s (more_of-Query p end_of-Query) n) = nodes p ++ IsNull' s (more_of-Query p end_of-Query) n ∷ []
nodes (NotNull' s (more_of-Query p end_of-Query) n) = nodes p ++ NotNull' s (more_of-Query p end_of-Query) n ∷ []
nodes (Project' s (more_of-Query p end_of-Query) names) = nodes p ++ Project' s (more_of-Query p end_of-Query) names ∷ []
nodes (Rename' s (more_of-Query p end_of-Query) from to) = nodes p ++ Rename' s (more_of-Query p end_of-Query) from to ∷ []
nodes (Join' s (more_of-Query p end_of-Query) s' (more_of-Query q end_of-Query)) = nodes p ++ nodes q ++ Join' s (more_of-Query p end_of-Query) s' (more_of-Query q end_of-Query) ∷ []
nodes (Union' s (more_of-Query p end_of-Query) s' (more_of-Query q end_of-Query)) = nodes p ++ nodes q ++ Union' s (more_of-Query p end_of-Query) s' (more_of-Query q end_of-Query) ∷ []
nodes (Diff' s (more_of-Query p end_of-Query) s' (more_of-Query q end_of-Query)) = nodes p ++ nodes q ++ Diff' s (more_of-Query p end_of-Query) s' (more_of-Query q end_of-Query) ∷ []

-- the first of the nodes that has a cause has this one first
abbrev pub IsFirstFault : List SchemaTable → List Query → QueryError → Type 0
IsFirstFault tables [] error = ⊥
IsFirstFault tables (q ∷ qs) error = IsFirstCause tables q error ⊎ (HasNoCause tables q × IsFirstFault tables qs error)

-- no node of the query has a cause
abbrev pub IsFaultless : List SchemaTable → Query → Type 0
IsFaultless tables q = Each (HasNoCause tables) (nodes q)

-- the names that stand at the query's outermost node
abbrev pub names_at : Query → List Name
names_at (Table t) = t ∷ []
names_at (Null n) = n ∷ []
names_at (Eq' s p n v) = n ∷ []
names_at (Ne' s p n v) = n ∷ []
names_at (IsNull' s p n) = n ∷ []
names_at (NotNull' s p n) = n ∷ []
names_at (Project' s p names) = names
names_at (Rename' s p from to) = from ∷ to ∷ []
names_at (Join' s p s' q) = []
names_at (Union' s p s' q) = []
names_at (Diff' s p s' q) = []

-- no node of the query has a cause, and no name in it is empty
pub record IsWellFormed (tables : List SchemaTable) (q : Query) : Type 0 where
  pub faultless : IsFaultless tables q
  pub names : Each (λ node. ¬ IsIn [] (names_at node)) (nodes q)
