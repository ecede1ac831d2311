-- What a graph says of the term that a property or a class has: one thing at most.
use Rattle.std.specs.Prelude.{◌≡◌, ℕ, List}
use Rattle.value_dm.specs.declared.kind.Kind.{Kind}
use Rattle.schema_dm.specs.Naming.{Name}
use Rattle.names_dm.specs.declared.names.ColumnName.{ColumnName}
use Rattle.names_dm.specs.declared.term.Term.{Term}
use Rattle.names_dm.specs.Statements.{Statement}
use Rattle.facts_dm.specs.Facts.{Link, table_term}
use Rattle.layouts_dm.specs.Rules.{IsClass, IsColumn, IsLink}
use Rattle.roles_dm.specs.Naming.{column_term, link_term}

pub data Meaning : Type 0 where
  -- a class
  means_class : Name → Meaning
  -- a column and its kind
  means_column : ColumnName → Kind → Meaning
  -- a reference or relation, and the classes that it leads from and to
  means_link : Link → Name → Name → Meaning
  means_nothing : Meaning

-- the graph says this of the term
abbrev pub Means : List ℕ → List Statement → Term → Meaning → Type 0
Means base G x (means_class t) = (x ≡ table_term base t) × IsClass base G t
Means base G x (means_column c k) = (x ≡ column_term base c) × IsColumn base G c.table c.column k
Means base G x (means_link l t u) = (x ≡ link_term base l) × IsLink base G l t u
Means base G x means_nothing =
    ((t : Name) → x ≡ table_term base t → ¬ IsClass base G t)
    × ((c : ColumnName) (k : Kind) → x ≡ column_term base c → ¬ IsColumn base G c.table c.column k)
    × ((l : Link) (t u : Name) → x ≡ link_term base l → ¬ IsLink base G l t u)
