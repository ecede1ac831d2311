-- What the triples of a row say (A Direct Mapping of Relational Data to RDF, section 2: the row graph, with row type, literal
-- and reference triples). Tables, columns, keys and rows are counted from 0 here.
use Rattle.std.specs.Prelude.{◌≡◌, ℕ, List, [], ◌∷◌, map, slice_get, Some, None}
use Rattle.value_dm.specs.declared.value.Value.{Value}
use Rattle.value_dm.specs.Kinds.{kind_of}
use Rattle.value_dm.specs.Lexical.{lexical_form}
use Rattle.members_dm.specs.Membership.{IsIn}
use Rattle.members_dm.specs.Places.{Place}
use Rattle.schema_dm.specs.Naming.{name_at}
use Rattle.schema_dm.specs.Schemas.{table_at}
use Rattle.schema_dm.specs.declared.draft.Column.{Column}
use Rattle.schema_dm.specs.declared.table.ForeignKey.{ForeignKey}
use Rattle.schema_dm.specs.declared.table.Table.{Table}
use Rattle.facts_dm.specs.Facts.{Fact, KindText, Link, Node, a_cell, a_link, a_node, ref_link, triple_of}
use Rattle.table_csv.specs.Cells.{cells_at}
use Rattle.table_csv.specs.Databases.{Data, rows_at}
use Rattle.keys_dm.specs.KeyCells.{row_at, IsRowWith}
use Rattle.ntriples_dm.specs.Written.{triple_text}
use Rattle.graphs_dm.specs.Nodes.{row_node}

-- the node is of the table's class
abbrev pub type_fact : Node → Table → Fact
type_fact node table = a_node node table.name

abbrev pub value_text : Value → KindText
value_text value = record { kind = kind_of value; text = lexical_form value }

-- the node has the value in the column
abbrev pub literal_fact : Node → Table → Column → Value → Fact
literal_fact node table column value = a_cell node (record { table = table.name; column = column.name }) (value_text value)

-- the reference of a foreign key: its columns by name, in the key's order
abbrev pub reference_of : Table → ForeignKey → Link
reference_of table key = ref_link (record { table = table.name; columns = map (name_at table.columns) key.columns })

-- the reference leads from the node to the other
abbrev pub reference_fact : Node → Table → ForeignKey → Node → Fact
reference_fact node table key other = a_link node (reference_of table key) other

-- none of the referencing cells of the row i of the table t is NULL, and the row j of the referenced table has the same in
-- its referenced columns
abbrev pub References : Data → ℕ → ℕ → ForeignKey → ℕ → Type 0
References D t i key j =
    (¬ IsIn None (cells_at key.columns (row_at (rows_at D.rows t) i)))
    × IsRowWith (rows_at D.rows key.target) key.target_columns (cells_at key.columns (row_at (rows_at D.rows t) i)) j

-- A fact of the row i of the table t stands at a place: 0 for its class; 1 and the column; or 2, the foreign key and the
-- referenced row. A cell that is NULL has no triple, and neither has a foreign key with a NULL among its cells.
pub data RowStandsAt (base : List ℕ) (D : Data) (t i : ℕ) (place : Place) (fact : Fact) : Type 0 where
  row_type : place ≡ 0 ∷ [] → fact ≡ type_fact (row_node base D t i) (table_at D.tables t) → RowStandsAt base D t i place fact
  row_literal : (k : ℕ) (column : Column) (value : Value) → slice_get (table_at D.tables t).columns k ≡ Some column
      → slice_get (row_at (rows_at D.rows t) i) k ≡ Some (Some value) → place ≡ 1 ∷ k ∷ []
      → fact ≡ literal_fact (row_node base D t i) (table_at D.tables t) column value → RowStandsAt base D t i place fact
  row_reference : (k j : ℕ) (key : ForeignKey) → slice_get (table_at D.tables t).foreign k ≡ Some key → References D t i key j
      → place ≡ 2 ∷ k ∷ j ∷ []
      → fact ≡ reference_fact (row_node base D t i) (table_at D.tables t) key (row_node base D key.target j) → RowStandsAt base D t i place fact

-- the line of the triple that says it
abbrev pub line_of : List ℕ → Fact → List ℕ
line_of base fact = triple_text (triple_of base fact)
