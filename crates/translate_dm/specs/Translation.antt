-- The pattern of a query over the tables of a database, operator by operator (SPARQL 1.1 Query Language, section 18.2: Join, LeftJoin,
-- Filter, Union, Minus, Project), over the graph that the mode speaks of. Tables are counted from 0.
use Rattle.std.specs.Prelude.{◌≡◌, ◌⊎◌, ◌<◌, ℕ, List, length, slice_get}
use Rattle.std.specs.declared.option.Option.TheVariants.{Some}
use Rattle.members_dm.specs.Membership.{IsIn}
use Rattle.names_dm.specs.Names.{table_iri}
use Rattle.schema_dm.specs.Naming.{Name}
use Rattle.schema_dm.specs.Schemas.{table_at}
use Rattle.schema_dm.specs.declared.table.Table.{Table as SchemaTable}
use Rattle.algebra_dm.specs.Attributes.{AreAttributes, HasAttribute, Lists}
use Rattle.algebra_dm.specs.Certain.{IsCertain}
use Rattle.algebra_dm.specs.declared.query.Mode.{Mode}
use Rattle.algebra_dm.specs.declared.query.Query.{Query, end_of-Query, more_of-Query}
use Rattle.algebra_dm.specs.declared.query.Query.TheVariants.{Table, Null, Eq', Ne', IsNull', NotNull', Project', Rename', Join', Union', Diff'}
use Rattle.graphs_dm.specs.Relations.{CountsAsClass}
use Rattle.pattern_dm.specs.declared.pattern.Pattern.{Pattern}
use Rattle.pattern_dm.specs.declared.pattern.Pattern.TheVariants as patterns
use Rattle.keeping_dm.specs.Guards.{guarded, is_bound, is_other_value, is_unbound, is_value, joined, new_names, same_names}
use Rattle.table_patterns_dm.specs.TablePatterns.{IsTablePattern, graph_of}

-- ---- differences

-- the first table that is a class in the graph of the mode
pub record IsFirstClass (mode : Mode) (tables : List SchemaTable) (t : ℕ) : Type 0 where
  pub within : t < length tables
  pub class : CountsAsClass (graph_of mode) tables t
  pub first : (s : ℕ) → s < t → ¬ CountsAsClass (graph_of mode) tables s

-- no table is a class in the graph of the mode
abbrev pub AreAllRelations : Mode → List SchemaTable → Type 0
AreAllRelations mode tables = (s : ℕ) → s < length tables → ¬ CountsAsClass (graph_of mode) tables s

-- the IRI of this table
abbrev pub IsMarkerClass : Mode → List ℕ → List SchemaTable → List ℕ → Type 0
IsMarkerClass mode base tables class = (t : ℕ) × IsFirstClass mode tables t × (class ≡ table_iri base (table_at tables t).name)

-- no attribute of the parts may be NULL
abbrev pub AreAllCertain : Mode → List SchemaTable → Query → Query → Type 0
AreAllCertain mode tables q r = (a : Name) → HasAttribute tables q a → IsCertain mode tables q a × IsCertain mode tables r a

-- where no attribute may be NULL the difference of patterns, else the guarded one
abbrev pub IsDifference : Mode → List ℕ → List SchemaTable → Query → Query → Pattern → Pattern → Pattern → Type 0
IsDifference mode base tables q r left right p =
    (AreAllCertain mode tables q r × (p ≡ patterns.Minus left right))
    ⊎ ((¬ AreAllCertain mode tables q r) × ((names : List Name) × (class : List ℕ) × AreAttributes tables q names × IsMarkerClass mode base tables class × (p ≡ guarded names class left right)))

-- ---- queries

-- the pattern of the table of the name
abbrev pub IsNamedPattern : Mode → List ℕ → List SchemaTable → Name → Pattern → Type 0
IsNamedPattern mode base tables name p = (t : ℕ) × (table : SchemaTable) × (slice_get tables t ≡ Some table) × (table.name ≡ name) × IsTablePattern mode base tables t p

-- the pattern is that of the query; lists of attributes are in the order of their bytes
abbrev pub Translates : Mode → List ℕ → List SchemaTable → Query → Pattern → Type 0
Translates mode base tables (Table name) p = IsNamedPattern mode base tables name p
Translates mode base tables (Null n) p = p ≡ patterns.Empty
Translates mode base tables (Eq' s (more_of-Query q end_of-Query) n v) p = (part : Pattern) × Translates mode base tables q part × (p ≡ patterns.Filter part (is_value n v))
Translates mode base tables (Ne' s (more_of-Query q end_of-Query) n v) p = (part : Pattern) × Translates mode base tables q part × (p ≡ patterns.Filter part (is_other_value n v))
Translates mode base tables (IsNull' s (more_of-Query q end_of-Query) n) p = (part : Pattern) × Translates mode base tables q part × (p ≡ patterns.Filter part (is_unbound n))
Translates mode base tables (NotNull' s (more_of-Query q end_of-Query) n) p = (part : Pattern) × Translates mode base tables q part × (p ≡ patterns.Filter part (is_bound n))
Translates mode base tables (Project' s (more_of-Query q end_of-Query) names) p =
    (part : Pattern) × (sorted : List Name) × Translates mode base tables q part × Lists (λ a. IsIn a names) sorted × (p ≡ patterns.Select part (same_names sorted))
Translates mode base tables (Rename' s (more_of-Query q end_of-Query) from to) p =
    (part : Pattern) × (names : List Name) × Translates mode base tables q part × AreAttributes tables (Rename' s (more_of-Query q end_of-Query) from to) names
    × (p ≡ patterns.Select part (new_names from to names))
Translates mode base tables (Join' s (more_of-Query q end_of-Query) s' (more_of-Query r end_of-Query)) p =
    (left right : Pattern) × (common : List Name) × Translates mode base tables q left × Translates mode base tables r right
    × Lists (λ a. HasAttribute tables q a × HasAttribute tables r a) common × (p ≡ joined common left right)
Translates mode base tables (Union' s (more_of-Query q end_of-Query) s' (more_of-Query r end_of-Query)) p =
    (left right : Pattern) × Translates mode base tables q left × Translates mode base tables r right × (p ≡ patterns.Union left right)
Translates mode base tables (Diff' s (more_of-Query q end_of-Query) s' (more_of-Query r end_of-Query)) p =
    (left right : Pattern) × Translates mode base tables q left × Translates mode base tables r right × IsDifference mode base tables q r left right p
