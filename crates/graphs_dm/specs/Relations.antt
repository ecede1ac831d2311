-- Which tables are single properties in a graph and not classes, and the names of these properties. Tables, columns and keys
-- are counted from 0.
use Rattle.std.specs.Prelude.{ℕ, List, [], slice_index_or}
use Rattle.schema_dm.specs.Naming.{Name, name_at}
use Rattle.schema_dm.specs.Relations.{IsBinaryRelation}
use Rattle.schema_dm.specs.Schemas.{table_at}
use Rattle.schema_dm.specs.declared.table.Binary.{Binary}
use Rattle.schema_dm.specs.declared.table.ForeignKey.{ForeignKey}
use Rattle.schema_dm.specs.declared.table.Table.{Table}
use Rattle.names_dm.specs.declared.names.RelName.{RelName}
use Rattle.facts_dm.specs.Facts.{Link, rel_link}
use Rattle.graphs_dm.specs.declared.graph_name.GraphName.{GraphName}
use Rattle.graphs_dm.specs.declared.graph_name.GraphName.TheVariants.{Direct, Map, MapKeys}

-- the table is a relation in the graph: a binary relation, in the map graph alone
abbrev pub CountsAsRelation : GraphName → List Table → ℕ → Binary → Type 0
CountsAsRelation Map tables t sides = IsBinaryRelation tables t sides
CountsAsRelation Direct tables t sides = ⊥
CountsAsRelation MapKeys tables t sides = ⊥

-- the table is a class: no relation, whatever its sides
abbrev pub CountsAsClass : GraphName → List Table → ℕ → Type 0
CountsAsClass name tables t = (sides : Binary) → ¬ CountsAsRelation name tables t sides

abbrev pub no_key : ForeignKey
no_key = record { columns = []; target = 0; target_columns = [] }

-- the foreign key of this number
abbrev pub key_at : List Table → ℕ → ℕ → ForeignKey
key_at tables t number = slice_index_or (table_at tables t).foreign number no_key

-- the foreign keys of a relation's sides
abbrev pub left_key : List Table → ℕ → Binary → ForeignKey
left_key tables t sides = key_at tables t sides.left

abbrev pub right_key : List Table → ℕ → Binary → ForeignKey
right_key tables t sides = key_at tables t sides.right

-- the name of the column that a key on one column references
abbrev pub target_name : List Table → ForeignKey → Name
target_name tables key = name_at (table_at tables key.target).columns (slice_index_or key.target_columns 0 0)

abbrev pub relation_name : List Table → ℕ → Binary → RelName
relation_name tables t sides = record {
  table = (table_at tables t).name;
  left = name_at (table_at tables t).columns 0;
  left_target = target_name tables (left_key tables t sides);
  right = name_at (table_at tables t).columns 1;
  right_target = target_name tables (right_key tables t sides);
}

abbrev pub relation_of : List Table → ℕ → Binary → Link
relation_of tables t sides = rel_link (relation_name tables t sides)
