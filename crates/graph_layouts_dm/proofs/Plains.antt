-- The plain tables of a database are those of its views.
use Rattle.std.proofs.Common.{◌≡◌, ℕ, zero, suc, ◌<◌, List, [], ◌∷◌, ◌++◌, map, length, refl, sym, ap, ◌∙◌, subst, Some, None, Option, arith}
use Rattle.std.specs.Prelude.{slice_get, slice_index_or}
use Rattle.std.specs.List.{AllZip}
use Rattle.std.specs.List.Sorted.{IsPermutation}
use Rattle.std.specs.Option.{option_map}
use Rattle.std.proofs.lemmas.List.Sorted.{IsPermutation-map, IsPermutation-sym}
use Rattle.std.proofs.lemmas.Option.{slice_get-map, slice_get_within, slice_get-get_or}
use Rattle.members_dm.specs.Membership.{IsIn, IsRising, NoRepeats}
use Rattle.members_dm.proofs.ElementsLemmas.{each_from_items, item_at_index, item_within}
use Rattle.members_dm.proofs.MembershipLemmas.{IsIn-map, map-IsIn}
use Rattle.schema_dm.specs.Naming.{IsBadName, column_place}
use Rattle.schema_dm.specs.Schemas.{IsTable, no_table, table_at}
use Rattle.schema_dm.specs.Shapes.{IsShapeColumn}
use Rattle.members_dm.specs.Elements.{Each}
use Rattle.members_dm.proofs.AnyLemmas.{all_from_items, item_from_all}
use Rattle.table_csv.proofs.Databases.{cell_fits, row_fits, rows_fit}
use Rattle.std.proofs.lemmas.List.Sorted.{All-permutation}
use Rattle.schema_dm.specs.Shapes.{IsBefore}
use Rattle.schema_dm.specs.declared.draft.Column.{Column}
use Rattle.schema_dm.specs.declared.table.Table.{Table}
use Rattle.facts_dm.specs.Facts.{KindText}
use Rattle.table_csv.specs.Cells.{AreRowsOf, Cell, IsCellOf, IsRowOf, Row, cells_at}
use Rattle.table_csv.specs.Databases.{Data, IsDatabase, rows_at}
use Rattle.table_csv.specs.Plain.{IsColumnAt, IsPlain, IsPlainAt, IsPlainTable, PlainTable, plain_column}
use Rattle.keys_dm.specs.KeyCells.{row_at}
use Rattle.layouts_dm.proofs.Choosing.{zipped, zipped_back}
use Rattle.layouts_dm.specs.LayoutTables.{AreOfShape, IsOfShape, value_text, class_column, literal_table}
use Rattle.layouts_dm.specs.Layouts.{ClassColumn}
use Rattle.graph_layouts_dm.proofs.Views.{IsClassAt, IsPlainClass, numbered, upto}
use Rattle.graph_layouts_dm.proofs.Bridge.{Choices, SortedColumns, cell_view, views_of}
use Rattle.graph_layouts_dm.proofs.Columns.{column_there, place_is}
use Rattle.graph_layouts_dm.proofs.Counting.{each_place}
use Rattle.graph_layouts_dm.proofs.MapStands.{map_map}

some_is : {X : Type 0} (x y : X) → Some x ≡ Some y → x ≡ y
some_is x y e = cc

append_nothing : {X : Type 0} (xs : List X) → xs ++ [] ≡ xs
append_nothing [] = refl
append_nothing (x ∷ xs) = ap (λ ys. x ∷ ys) (append_nothing xs)

append_twice : {X : Type 0} (xs ys zs : List X) → (xs ++ ys) ++ zs ≡ xs ++ (ys ++ zs)
append_twice [] ys zs = refl
append_twice (x ∷ xs) ys zs = ap (λ ws. x ∷ ws) (append_twice xs ys zs)

upto_front : {X : Type 0} (n : ℕ) (f : ℕ → List X) → upto (suc n) f ≡ f 0 ++ upto n (λ i. f (suc i))
upto_front zero f = sym (append_nothing (f 0))
upto_front (suc n) f = ap (λ xs. xs ++ f (suc n)) (upto_front n f) ∙ append_twice (f 0) (upto n (λ i. f (suc i))) (f (suc n))

map_numbered : {X Y : Type 0} (f : X → Y) (d : X) (xs : List X) → map f xs ≡ numbered (length xs) (λ i. f (slice_index_or xs i d))
map_numbered f d [] = refl
map_numbered f d (x ∷ xs) = ap (λ ys. f x ∷ ys) (map_numbered f d xs) ∙ sym (upto_front (length xs) (λ i. f (slice_index_or (x ∷ xs) i d) ∷ []))

numbered_agree : {X : Type 0} (n : ℕ) (f g : ℕ → X) → ((i : ℕ) → f i ≡ g i) → numbered n f ≡ numbered n g
numbered_agree zero f g h = refl
numbered_agree (suc n) f g h = λ j. numbered_agree n f g h j ++ (h n j ∷ [])

-- ---- one table

pub column_at : (table : Table) (place : ℕ) (column : Column) → IsColumnAt table place column → (c : Column) × (slice_get table.columns place ≡ Some c) × (plain_column c ≡ column)
column_at table place column h = go (slice_get table.columns place) refl (sym (slice_get-map plain_column table.columns place) ∙ h)
  where
    go : (found : Option Column) → slice_get table.columns place ≡ found → option_map plain_column found ≡ Some column → (c : Column) × (slice_get table.columns place ≡ Some c) × (plain_column c ≡ column)
    go None e f = absurd (cc)
    go (Some c) e f = (c, e, some_is (plain_column c) column f)

pub sorted_columns : (table : Table) (rows : List Row) (plain : PlainTable) → IsPlainTable table rows plain → SortedColumns table (map class_column plain.shape.columns)
sorted_columns table rows plain is = record {
  all = λ k c at.
      let here : IsIn k is.places =
      each_place (length table.columns) is.places is.columns.once
      (λ p i. let z = zipped (IsColumnAt table) is.places plain.shape.columns is.columns.belong p i in let f = column_at table p z.0 z.2 in slice_get_within table.columns p f.0 f.1)
      is.columns.each k (slice_get_within table.columns k c at) in
      let z = zipped (IsColumnAt table) is.places plain.shape.columns is.columns.belong k here in
      let f = column_at table k z.0 z.2 in
      let one : f.0 ≡ c = some_is f.0 c (sym f.1 ∙ at) in
      subst (λ d. IsIn d (map class_column plain.shape.columns)) (ap class_column (sym f.2) ∙ ap class_column one) (map-IsIn class_column z.0 plain.shape.columns z.1);
  only = λ d i.
      let m = IsIn-map class_column d plain.shape.columns i in
      let z = zipped_back (IsColumnAt table) is.places plain.shape.columns is.columns.belong m.0 m.1 in
      let f = column_at table z.0 m.0 z.2 in
      (z.0, f.0, f.1, ap class_column f.2 ∙ m.2);
  rising = subst (IsRising IsBefore) (sym (map_map class_column (λ (d : ClassColumn). d.name) plain.shape.columns)) is.rising;
}

-- a row with its cells in the order of the columns
row_is : (table : Table) (row : Row) (places : List ℕ) (columns : List Column) → NoRepeats (map (λ (c : Column). c.name) table.columns) → AllZip (IsColumnAt table) places columns
    → map (option_map value_text) (cells_at places row) ≡ map (λ (d : ClassColumn). option_map value_text (slice_index_or row (column_place table.columns d.name) None)) (map class_column columns)
row_is table row [] [] once h = refl
row_is table row [] (c ∷ columns) once h = absurd h
row_is table row (p ∷ places) [] once h = absurd h
row_is table row (p ∷ places) (c ∷ columns) once h =
    let f = column_at table p c h.0 in
    let place : p ≡ column_place table.columns c.name = sym (place_is table.columns p f.0 once f.1) ∙ ap (λ (x : Column). column_place table.columns x.name) f.2 in
    let rest = row_is table row places columns once h.1 in
    λ j. option_map value_text (slice_index_or row (place j) None) ∷ rest j

-- ---- the database

module _ (D : Data) (database : IsDatabase D) (plain : List PlainTable) (is_plain : IsPlain D plain) where
  pub plain_at : (t : ℕ) → t < length D.tables → (y : PlainTable) × IsIn y plain × IsPlainAt D t y
  plain_at t below =
      zipped (IsPlainAt D) is_plain.places plain is_plain.tables.belong t
      (each_place (length D.tables) is_plain.places is_plain.tables.once
      (λ p i. let z = zipped (IsPlainAt D) is_plain.places plain is_plain.tables.belong p i in slice_get_within D.tables p z.2.table z.2.here)
      is_plain.tables.each t below)

  pub table_is : (t : ℕ) (y : PlainTable) (p : IsPlainAt D t y) → t < length D.tables → p.table ≡ table_at D.tables t
  table_is t y p below = some_is p.table (table_at D.tables t) (sym p.here ∙ slice_get-get_or D.tables t no_table below)

  pub plain_table : (t : ℕ) (y : PlainTable) → IsPlainAt D t y → t < length D.tables → IsPlainTable (table_at D.tables t) (rows_at D.rows t) y
  plain_table t y p below = subst (λ (table : Table). IsPlainTable table (rows_at D.rows t) y) (table_is t y p below) p.is_plain

  module _ (choices : Choices) (columns_are : (t : ℕ) (y : PlainTable) → t < length D.tables → IsPlainAt D t y → choices.columns t ≡ map class_column y.shape.columns) where
    pub is_plain_class : (t : ℕ) (y : PlainTable) → IsClassAt (views_of choices D) t → IsPlainAt D t y → IsPlainClass (views_of choices D) (literal_table y)
    is_plain_class t y c p =
        let is = plain_table t y p c.0 in
        let table = table_at D.tables t in
        let once = (database.schema.each table (item_within D.tables t no_table c.0)).distinct in
        let lit : Row → List (Option KindText) = map (option_map value_text) in
        let moved : IsPermutation (map lit y.rows) (map lit (map (cells_at is.places) (rows_at D.rows t))) = IsPermutation-map lit y.rows (map (cells_at is.places) (rows_at D.rows t)) (IsPermutation-sym _ _ is.same_rows) in
        let listed : map lit (map (cells_at is.places) (rows_at D.rows t)) ≡ numbered (length (rows_at D.rows t)) (λ i. lit (cells_at is.places (row_at (rows_at D.rows t) i))) =
        map_map (cells_at is.places) lit (rows_at D.rows t) ∙ map_numbered (λ (row : Row). lit (cells_at is.places row)) [] (rows_at D.rows t) in
        let same : numbered (length (rows_at D.rows t)) (λ i. lit (cells_at is.places (row_at (rows_at D.rows t) i))) ≡ numbered (length (rows_at D.rows t)) (λ i. map (λ (d : ClassColumn). cell_view D t i d.name) (choices.columns t)) =
        numbered_agree (length (rows_at D.rows t)) (λ i. lit (cells_at is.places (row_at (rows_at D.rows t) i))) (λ i. map (λ (d : ClassColumn). cell_view D t i d.name) (choices.columns t))
        (λ i. row_is table (row_at (rows_at D.rows t) i) is.places y.shape.columns once is.columns.belong ∙ ap (map (λ (d : ClassColumn). cell_view D t i d.name)) (sym (columns_are t y c.0 p))) in
        (t, c, is.name, sym (columns_are t y c.0 p), subst (IsPermutation (map lit y.rows)) (listed ∙ same) moved)

  -- the rows of a plain table, whatever its table is in a graph
  pub plain_rows : (t : ℕ) (y : PlainTable) → t < length D.tables → IsPlainAt D t y
      → IsPermutation (literal_table y).rows (numbered (length (rows_at D.rows t)) (λ i. map (λ (d : ClassColumn). cell_view D t i d.name) (map class_column y.shape.columns)))
  plain_rows t y below p =
      let is = plain_table t y p below in
      let table = table_at D.tables t in
      let once = (database.schema.each table (item_within D.tables t no_table below)).distinct in
      let lit : Row → List (Option KindText) = map (option_map value_text) in
      let moved : IsPermutation (map lit y.rows) (map lit (map (cells_at is.places) (rows_at D.rows t))) = IsPermutation-map lit y.rows (map (cells_at is.places) (rows_at D.rows t)) (IsPermutation-sym _ _ is.same_rows) in
      let listed : map lit (map (cells_at is.places) (rows_at D.rows t)) ≡ numbered (length (rows_at D.rows t)) (λ i. lit (cells_at is.places (row_at (rows_at D.rows t) i))) =
      map_map (cells_at is.places) lit (rows_at D.rows t) ∙ map_numbered (λ (row : Row). lit (cells_at is.places row)) [] (rows_at D.rows t) in
      let same = numbered_agree (length (rows_at D.rows t)) (λ i. lit (cells_at is.places (row_at (rows_at D.rows t) i))) (λ i. map (λ (d : ClassColumn). cell_view D t i d.name) (map class_column y.shape.columns))
      (λ i. row_is table (row_at (rows_at D.rows t) i) is.places y.shape.columns once is.columns.belong) in
      subst (IsPermutation (map lit y.rows)) (listed ∙ same) moved

  -- ---- the rules of a shape

  good_column : (table : Table) → IsTable D.tables table → (place : ℕ) (column : Column) → IsColumnAt table place column → IsShapeColumn column
  good_column table is place column at =
      let f = column_at table place column at in
      subst IsShapeColumn f.2 (is.column_names f.0 (item_at_index f.0 table.columns place f.1), refl)

  plain_cell : (c : Column) (cell : Cell) → IsCellOf c cell → IsCellOf (plain_column c) cell
  plain_cell c None is = refl
  plain_cell c (Some v) is = is

  plain_row : (table : Table) (row : Row) (places : List ℕ) (columns : List Column) → IsRowOf table.columns row → AllZip (IsColumnAt table) places columns → IsRowOf columns (cells_at places row)
  plain_row table row [] [] is h = tt
  plain_row table row [] (c ∷ columns) is h = absurd h
  plain_row table row (p ∷ places) [] is h = absurd h
  plain_row table row (p ∷ places) (c ∷ columns) is h =
      let f = column_at table p c h.0 in
      (subst (λ (x : Column). IsCellOf x (slice_index_or row p None)) f.2 (plain_cell f.0 (slice_index_or row p None) (cell_fits table.columns row is p f.0 f.1 None)), plain_row table row places columns is h.1)

  rows_of_shape : (table : Table) (rows : List Row) (y : PlainTable) → AreRowsOf table.columns rows → IsPlainTable table rows y → Each (IsRowOf y.shape.columns) y.rows
  rows_of_shape table rows y are is =
      each_from_items (IsRowOf y.shape.columns) y.rows (item_from_all (IsRowOf y.shape.columns) y.rows
      (All-permutation (IsRowOf y.shape.columns) (map (cells_at is.places) rows) y.rows is.same_rows
      (all_from_items (IsRowOf y.shape.columns) (map (cells_at is.places) rows)
      (λ row i. let m = IsIn-map (cells_at is.places) row rows i in
      subst (IsRowOf y.shape.columns) m.2 (plain_row table m.0 is.places y.shape.columns (row_fits table.columns rows are m.0 m.1) is.columns.belong)))))

  some_item : {X : Type 0} (x : X) (xs : List X) → IsIn x xs → 0 < length xs
  some_item x [] i = absurd i
  some_item x (y ∷ ys) i = omega arith

  shape_of : (y : PlainTable) → IsIn y plain → IsOfShape y
  shape_of y i =
      let z = zipped_back (IsPlainAt D) is_plain.places plain is_plain.tables.belong y i in
      let below : z.0 < length D.tables = slice_get_within D.tables z.0 z.2.table z.2.here in
      let at : slice_get D.tables z.0 ≡ Some (table_at D.tables z.0) = slice_get-get_or D.tables z.0 no_table below in
      let is = plain_table z.0 y z.2 below in
      let table = database.schema.each (table_at D.tables z.0) (item_within D.tables z.0 no_table below) in
      let first = column_there (table_at D.tables z.0).columns 0 table.some_column in
      let there = (sorted_columns (table_at D.tables z.0) (rows_at D.rows z.0) y is).all 0 first.0 first.1 in
      let some = IsIn-map class_column (class_column first.0) y.shape.columns there in
      record {
        name = subst (λ n. ¬ IsBadName n) (sym is.name) table.name;
        some = some_item some.0 y.shape.columns some.1;
        rising = is.rising;
        columns = λ column j.
            let c = zipped_back (IsColumnAt (table_at D.tables z.0)) is.places y.shape.columns is.columns.belong column j in
            good_column (table_at D.tables z.0) table c.0 column c.2;
        rows = rows_of_shape (table_at D.tables z.0) (rows_at D.rows z.0) y (rows_fit D database z.0 (table_at D.tables z.0) at) is;
      }

  pub of_shape : AreOfShape plain
  of_shape = record {
    some = let y = plain_at 0 database.schema.some in some_item y.0 plain y.1;
    rising = is_plain.rising;
    each = shape_of;
  }
