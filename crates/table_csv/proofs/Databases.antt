-- What a database gives of its tables, rows and cells at their places. Tables, rows and cells are counted from 0.
use Rattle.std.proofs.Common.{◌≡◌, ℕ, List, [], Some, length, get_or, sym, subst}
use Rattle.std.specs.List.{AllZip, slice_get}
use Rattle.std.proofs.lemmas.Option.{get_or_from_slice_get, slice_get_within}
use Rattle.members_dm.specs.Membership.{IsIn}
use Rattle.members_dm.proofs.AnyLemmas.{item_from_all}
use Rattle.schema_dm.specs.Schemas.{IsSchema}
use Rattle.schema_dm.specs.declared.draft.Column.{Column}
use Rattle.schema_dm.specs.declared.table.Table.{Table}
use Rattle.table_csv.specs.CanonicalText.{AreTextColumns}
use Rattle.table_csv.specs.Cells.{AreRowsOf, Cell, IsCellOf, IsRowOf, Row}
use Rattle.table_csv.specs.Databases.{Data, IsDatabase, rows_at}
use Rattle.table_csv.proofs.Zips.{zipped_at, zipped_length}

-- an item that is there belongs to the item of the other list at its place
zipped_there : {A B : Type 0} (R : A → B → Type 0) (xs : List A) (ys : List B) (i : ℕ) (x : A) (y : B) → AllZip R xs ys → slice_get xs i ≡ Some x → R x (get_or ys i y)
zipped_there {A} {B} R xs ys i x y h e =
    let P : A → Type 0 = λ a. R a (get_or ys i y) in
    subst P (get_or_from_slice_get xs i x x e) (zipped_at R xs ys i x y h (slice_get_within xs i x e))

-- there is one list of rows for each table
pub one_list_each : (D : Data) → IsDatabase D → length D.tables ≡ length D.rows
one_list_each D h = zipped_length (λ table rows. AreRowsOf table.columns rows) D.tables D.rows h.rows

-- the rows of a table are such that its columns allow
pub rows_fit : (D : Data) → IsDatabase D → (t : ℕ) (table : Table) → slice_get D.tables t ≡ Some table → AreRowsOf table.columns (rows_at D.rows t)
rows_fit D h t table e = zipped_there (λ table rows. AreRowsOf table.columns rows) D.tables D.rows t table [] h.rows e

pub row_fits : (columns : List Column) (rows : List Row) → AreRowsOf columns rows → (row : Row) → IsIn row rows → IsRowOf columns row
row_fits columns rows h row m = item_from_all (IsRowOf columns) rows h.each row m

-- a row has one cell for each column
pub row_length : (columns : List Column) (row : Row) → IsRowOf columns row → length row ≡ length columns
row_length columns row h = sym (zipped_length IsCellOf columns row h)

-- the cell at a place is one of the column there
pub cell_fits : (columns : List Column) (row : Row) → IsRowOf columns row → (place : ℕ) (column : Column) → slice_get columns place ≡ Some column → (d : Cell) → IsCellOf column (get_or row place d)
cell_fits columns row h place column e d = zipped_there IsCellOf columns row place column d h e

-- the columns of a schema's table have a canonical text
pub text_columns : (tables : List Table) → IsSchema tables → (table : Table) → IsIn table tables → AreTextColumns table.columns
text_columns tables h table m =
    let lawful = h.each table m in
    record { some = lawful.some_column; distinct = lawful.distinct; names = lawful.column_names }
