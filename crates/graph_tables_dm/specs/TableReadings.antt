-- The tables that are read off a graph by its numbers.
use Rattle.std.specs.Prelude.{◌≡◌, false, Bool, ℕ, List, MatchOption, Option, None, Some, map}
use Rattle.std.specs.List.{AllZip}
use Rattle.members_dm.specs.Membership.{IsIn}
use Rattle.value_dm.specs.declared.kind.Kind.{Kind}
use Rattle.names_dm.specs.declared.names.RelName.{RelName}
use Rattle.schema_dm.specs.declared.draft.Column.{Column}
use Rattle.schema_dm.specs.Naming.{Name}
use Rattle.table_csv.specs.Cells.{Cell, Row}
use Rattle.table_csv.specs.Plain.{PlainTable}
use Rattle.store_dm.specs.Graphs.{GraphValue}
use Rattle.layouts_dm.specs.LayoutTables.{in_order, is_before}
use Rattle.roles_dm.specs.Numbers.{HasNumbers}
use Rattle.roles_dm.specs.Roles.{role_at}
use Rattle.roles_dm.specs.declared.role.LinkName.{LinkName}
use Rattle.roles_dm.specs.declared.role.LinkName.TheVariants.{Reference, Relation}
use Rattle.roles_dm.specs.declared.role.LinkRole.{LinkRole}
use Rattle.roles_dm.specs.declared.role.Role.{Role}
use Rattle.roles_dm.specs.declared.role.Role.TheVariants as role
use Rattle.roles_dm.specs.declared.words.Words.{Words}
use Rattle.graph_tables_dm.specs.declared.listed.NumberedName.{NumberedName}
use Rattle.graph_tables_dm.specs.declared.table.GraphTable.{GraphTable}
use Rattle.graph_tables_dm.specs.Cells.{IsCellAt, kind_at}
use Rattle.graph_tables_dm.specs.Columns.{IsColumnOf, IsRowAt, column_at}
use Rattle.graph_tables_dm.specs.Listed.{AreInOrder, IsTabled, ListsOnce, relation_table_name, table_name}

-- the table as a database has it without keys
abbrev pub plain_of : GraphTable → PlainTable
plain_of made = record { shape = made.table; rows = made.rows }

-- the table of the class whose IRI has the number: its columns, and the row of each node
pub record IsClassTable (g : GraphValue) (w : Words) (roles : List Role) (number : ℕ) (name : Name) (made : GraphTable) : Type 0 where
  pub columns : List NumberedName
  pub nodes : List ℕ
  pub are_columns : AreInOrder (IsColumnOf g w roles number) columns
  pub are_nodes : ListsOnce (λ n. HasNumbers g n w.rdf_type number) nodes
  pub shape : made.table ≡ record { name = name; columns = map (column_at roles) columns }
  pub rows : AllZip (IsRowAt g roles columns) nodes made.rows

abbrev pub shape_column : Name → Kind → Column
shape_column name kind = record { name = name; kind = kind; not_null = false }

-- the cells of two nodes in the columns that a relation is named with, the left one first where the flag says so
abbrev pub IsPairRow : GraphValue → List Role → LinkRole → Bool → ℕ × ℕ → Row → Type 0
IsPairRow g roles link left_first pair row =
    (left : Cell) × (right : Cell) × IsCellAt g roles pair.0 link.left left × IsCellAt g roles pair.1 link.right right × (row ≡ in_order left_first left right)

-- the table of the relation whose IRI has the number: its two columns in the order of their names, and the row of each pair
pub record IsRelationTable (g : GraphValue) (roles : List Role) (number : ℕ) (link : LinkRole) (name : RelName) (made : GraphTable) : Type 0 where
  pub pairs : List (ℕ × ℕ)
  pub are_pairs : ListsOnce {X = ℕ × ℕ} (λ pair. HasNumbers g pair.0 number pair.1) pairs
  pub shape : made.table ≡ record {
    name = name.table;
    columns = in_order (is_before name.left name.right) (shape_column name.left (kind_at roles link.left)) (shape_column name.right (kind_at roles link.right));
  }
  pub rows : AllZip (IsPairRow g roles link (is_before name.left name.right)) pairs made.rows

-- the table of what the link's name is, if it is a relation
abbrev pub IsLinkTable : GraphValue → List Role → ℕ → LinkRole → LinkName → GraphTable → Type 0
IsLinkTable g roles number link (Relation name) made = IsRelationTable g roles number link name made
IsLinkTable g roles number link (Reference name) made = ⊥

-- the table that a term stands for by its role
abbrev pub IsRoleTable : GraphValue → Words → List Role → ℕ → Role → GraphTable → Type 0
IsRoleTable g w roles number (role.Class name) made = IsClassTable g w roles number name made
IsRoleTable g w roles number (role.Link link) made = IsLinkTable g roles number link link.name made
IsRoleTable g w roles number (role.Column column) made = ⊥
IsRoleTable g w roles number role.Nothing made = ⊥

-- the table that the term of the number stands for
abbrev pub IsTableAt : GraphValue → Words → List Role → ℕ → GraphTable → Type 0
IsTableAt g w roles number made = (r : Role) × (role_at roles number ≡ Some r) × IsRoleTable g w roles number r made

abbrev pub TellsLinkTable : GraphValue → List Role → ℕ → LinkRole → Option GraphTable → Type 0
TellsLinkTable g roles number link found = MatchOption found (relation_table_name link.name ≡ None) (IsLinkTable g roles number link link.name)

abbrev pub TellsRoleTable : GraphValue → Words → List Role → ℕ → Role → Option GraphTable → Type 0
TellsRoleTable g w roles number r found = MatchOption found (table_name r ≡ None) (IsRoleTable g w roles number r)

abbrev pub TellsTable : GraphValue → Words → List Role → ℕ → Option GraphTable → Type 0
TellsTable g w roles number found = MatchOption found ((name : Name) → ¬ IsTabled roles (record { name = name; number = number })) (IsTableAt g w roles number)

-- each stands for a table
abbrev pub AreTabled : List Role → List NumberedName → Type 0
AreTabled roles names = (e : NumberedName) → IsIn e names → IsTabled roles e

abbrev pub AreTablesNamed : GraphValue → Words → List Role → List NumberedName → List GraphTable → Type 0
AreTablesNamed g w roles names made = AllZip (λ e table. IsTableAt g w roles e.number table) names made

-- the table of each term that stands for one, in the order of their names
pub record AreTables (g : GraphValue) (w : Words) (roles : List Role) (made : List GraphTable) : Type 0 where
  pub names : List NumberedName
  pub all : AreInOrder (IsTabled roles) names
  pub each : AreTablesNamed g w roles names made
