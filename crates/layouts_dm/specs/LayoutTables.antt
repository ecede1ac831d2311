-- The tables of a layout, and what a graph stands for.
use Rattle.std.specs.Prelude.{ℕ, ◌≡◌, ◌<◌, ◌⊎◌, Bool, true, false, List, [], ◌∷◌, Option, length, map, encode_utf8_all, IsPermutation}
use Rattle.std.specs.Option.{option_map}
use Rattle.std.specs.Ordering.{nat_cmp, is_lt}
use Rattle.std.specs.Cmp.Lexicographic.{slice_cmp}
use Rattle.value_dm.specs.declared.kind.Kind.{Kind}
use Rattle.value_dm.specs.declared.value.Value.{Value}
use Rattle.value_dm.specs.Kinds.{kind_of}
use Rattle.value_dm.specs.Lexical.{lexical_form}
use Rattle.members_dm.specs.Elements.{Each}
use Rattle.members_dm.specs.Membership.{IsIn, IsRising}
use Rattle.schema_dm.specs.Naming.{Name, column_names}
use Rattle.schema_dm.specs.Shapes.{IsBefore, IsShapeColumn}
use Rattle.schema_dm.specs.declared.draft.Column.{Column}
use Rattle.names_dm.specs.declared.names.RelName.{RelName}
use Rattle.names_dm.specs.Statements.{Statement}
use Rattle.facts_dm.specs.Facts.{KindText, rel_link}
use Rattle.table_csv.specs.Cells.{IsRowOf}
use Rattle.table_csv.specs.Plain.{PlainTable}
use Rattle.layouts_dm.specs.Layouts.{Class, ClassColumn, Describes, HasColumnOfKind, IsGoodName, Layout, Part, WellFormed}

-- ---- the tables of a layout, with literals in their cells

pub record LiteralTable : Type 0 where
  pub name : Name
  pub columns : List ClassColumn
  pub rows : List (List (Option KindText))

-- the name and the columns are the same, the rows in any order
pub record SameTable (t u : LiteralTable) : Type 0 where
  pub name : t.name ≡ u.name
  pub columns : t.columns ≡ u.columns
  pub rows : IsPermutation t.rows u.rows

-- a class has the row of each node
abbrev pub class_table : Layout → Class → LiteralTable
class_table L c = record { name = c.name; columns = c.columns; rows = map (λ n. map (λ d. L.cell n d.name) c.columns) c.nodes }

-- the first name is before the second in the order of their bytes
unfoldable pub is_before : Name → Name → Bool
is_before x y = is_lt (slice_cmp nat_cmp (encode_utf8_all x) (encode_utf8_all y))

-- two things, the first one first where the flag says so
abbrev pub in_order : {X : Type 0} → Bool → X → X → List X
in_order true a b = a ∷ b ∷ []
in_order false a b = b ∷ a ∷ []

-- a relation has a row for each pair, with the values of the two nodes in the columns that it is named with, whose kinds are k
-- and l; its two columns stand in the order of their names
abbrev pub relation_table : Layout → Part → RelName → Kind → Kind → LiteralTable
relation_table L p q k l = record {
  name = q.table;
  columns = in_order (is_before q.left q.right) (record { name = q.left; kind = k }) (record { name = q.right; kind = l });
  rows = map (λ a. in_order (is_before q.left q.right) (L.cell a.0 q.left_target) (L.cell a.1 q.right_target)) p.pairs;
}

-- the table is that of a class or of a relation, its rows in any order
abbrev pub IsTableOf : Layout → LiteralTable → Type 0
IsTableOf L T =
    ((c : Class) × IsIn c L.classes × SameTable T (class_table L c))
    ⊎ ((p : Part) × (q : RelName) × (k : Kind) × (l : Kind) × IsIn p L.parts × (p.link ≡ rel_link q)
    × HasColumnOfKind L p.from q.left_target k × HasColumnOfKind L p.to q.right_target l × SameTable T (relation_table L p q k l))

-- the tables are those of the layout's classes and relations; tables and columns stand in the order of their names
pub record AreTablesOf (L : Layout) (Ts : List LiteralTable) : Type 0 where
  pub rising : IsRising IsBefore (map (λ T. T.name) Ts)
  pub columns : (c : Class) → IsIn c L.classes → IsRising (λ (x y : ClassColumn). IsBefore x.name y.name) c.columns
  pub only : (T : LiteralTable) → IsIn T Ts → IsTableOf L T
  pub classes : (c : Class) → IsIn c L.classes → IsIn c.name (map (λ T. T.name) Ts)
  pub relations : (p : Part) (q : RelName) → IsIn p L.parts → p.link ≡ rel_link q → IsIn q.table (map (λ T. T.name) Ts)

-- ---- tables of values

-- R2RML, section 10.2: the natural mapping of a value to a literal
abbrev pub value_text : Value → KindText
value_text value = record { kind = kind_of value; text = lexical_form value }

abbrev pub class_column : Column → ClassColumn
class_column column = record { name = column.name; kind = column.kind }

abbrev pub literal_table : PlainTable → LiteralTable
literal_table plain = record {
  name = plain.shape.name;
  columns = map class_column plain.shape.columns;
  rows = map (map (option_map value_text)) plain.rows;
}

-- a table by the rules of a shape, without the limits on how many columns and rows it has
pub record IsOfShape (plain : PlainTable) : Type 0 where
  pub name : IsGoodName plain.shape.name
  pub some : 0 < length plain.shape.columns
  pub rising : IsRising IsBefore (column_names plain.shape.columns)
  pub columns : (column : Column) → IsIn column plain.shape.columns → IsShapeColumn column
  pub rows : Each (IsRowOf plain.shape.columns) plain.rows

-- one or more such tables, however many, in the order of their names
pub record AreOfShape (tables : List PlainTable) : Type 0 where
  pub some : 0 < length tables
  pub rising : IsRising IsBefore (map (λ plain. plain.shape.name) tables)
  pub each : (plain : PlainTable) → IsIn plain tables → IsOfShape plain

-- the same shape, and the same rows in any order
pub record SamePlain (a b : PlainTable) : Type 0 where
  pub name : a.shape.name ≡ b.shape.name
  pub columns : a.shape.columns ≡ b.shape.columns
  pub rows : IsPermutation a.rows b.rows

-- ---- what a graph stands for

-- the graph stands for the tables: a layout with a class has exactly its triples, and these tables
pub record StandsFor (base : List ℕ) (G : List Statement) (tables : List PlainTable) : Type 0 where
  pub layout : Layout
  pub well_formed : WellFormed layout
  pub some_class : (c : Class) × IsIn c layout.classes
  pub describes : Describes base layout G
  pub of_shape : AreOfShape tables
  pub are : AreTablesOf layout (map literal_table tables)
