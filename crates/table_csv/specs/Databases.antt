-- Databases: a schema with the rows of its tables. Tables are counted from 0 here.
use Rattle.std.specs.Prelude.{ℕ, List, [], slice_index_or}
use Rattle.std.specs.List.{AllZip}
use Rattle.schema_dm.specs.Schemas.{IsSchema}
use Rattle.schema_dm.specs.declared.table.Table.{Table}
use Rattle.table_csv.specs.Cells.{AreRowsOf, Row}

-- tables, and a list of rows for each of them
pub record Data : Type 0 where
  pub tables : List Table
  pub rows : List (List Row)

-- the rows of the table at the place
abbrev pub rows_at : List (List Row) → ℕ → List Row
rows_at rows table = slice_index_or rows table []

-- the tables are a schema, and each has rows that its columns allow
pub record IsDatabase (D : Data) : Type 0 where
  pub schema : IsSchema D.tables
  pub rows : AllZip (λ table rows. AreRowsOf table.columns rows) D.tables D.rows
