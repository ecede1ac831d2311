-- Tables by their parts: the shape of each, and its rows.
use Rattle.std.specs.Prelude.{List, [], ◌∷◌, map}
use Rattle.schema_dm.specs.declared.table.ShapeTable.{ShapeTable}
use Rattle.table_csv.specs.Cells.{Row}
use Rattle.table_csv.specs.Plain.{PlainTable}

abbrev pub shape_of : List PlainTable → List ShapeTable
shape_of tables = map (λ plain. plain.shape) tables

abbrev pub rows_of : List PlainTable → List (List Row)
rows_of tables = map (λ plain. plain.rows) tables

-- each table with the rows that stand at its place
abbrev pub tables_from : List ShapeTable → List (List Row) → List PlainTable
tables_from [] rows = []
tables_from (shape ∷ shapes) [] = []
tables_from (shape ∷ shapes) (rows ∷ others) = record { shape = shape; rows = rows } ∷ tables_from shapes others
