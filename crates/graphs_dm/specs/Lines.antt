-- The lines of references, by their subject and what stands behind it.
use Rattle.std.specs.Prelude.{ℕ, Bool, List, [], ◌++◌, codes, Option, Some, if◌then◌else◌}
use Rattle.std.specs.List.{flat_map}
use Rattle.schema_dm.specs.declared.table.ForeignKey.{ForeignKey}
use Rattle.table_csv.specs.Cells.{Cell, Row, cells_at}
use Rattle.table_csv.specs.Databases.{Data, rows_at}
use Rattle.ntriples_dm.specs.Written.{term_text}
use Rattle.graphs_dm.specs.Nodes.{has_null, row_node, rows_with}
use Rattle.facts_dm.specs.Facts.{node_term}

-- the line of a reference to the row j of the table t
unfoldable pub link_line : List ℕ → Data → List ℕ → List ℕ → ℕ → ℕ → List ℕ
link_line base D subject head t j = subject ++ (head ++ (term_text (node_term (row_node base D t j)) ++ codes " .\n"))

-- the line of the mark of a subject, where it is marked
unfoldable pub mark_line : Bool → List ℕ → List ℕ
mark_line marked subject = if marked then subject ++ (codes " <http://www.w3.org/2002/07/owl#differentFrom> " ++ (subject ++ codes " .\n")) else []

-- the line of a row of a relation with this text between the nodes, where both rows are there
abbrev pub pair_line : List ℕ → Data → List ℕ → ForeignKey → ForeignKey → Option ℕ → Option ℕ → List ℕ
pair_line base D head left right (Some j) (Some l) = link_line base D (term_text (node_term (row_node base D left.target j))) head right.target l
pair_line base D head left right _ _ = []

-- the lines of references to the rows with these cells
unfoldable pub key_line : List ℕ → Data → List ℕ → List ℕ → ForeignKey → List Cell → List ℕ
key_line base D subject head key cells =
    if has_null cells then [] else flat_map (link_line base D subject head key.target) (rows_with (rows_at D.rows key.target) key.target_columns cells)

-- the lines of references by a foreign key, where there is one
abbrev pub keys_line : List ℕ → Data → List ℕ → Option (List ℕ) → Option ForeignKey → Row → List ℕ
keys_line base D subject (Some head) (Some key) row = key_line base D subject head key (cells_at key.columns row)
keys_line base D subject _ _ row = []
