-- Tables without keys, found among a database's.
use Rattle.std.proofs.Common.{◌≡◌, ◌∙◌, ◌<◌, ◌≤◌, ◌+◌, ℕ, zero, suc, List, [], ◌∷◌, ◌++◌, Option, Some, None, refl, sym, ap, subst, arith, length, get_or, map, take}
use Rattle.std.specs.Prelude.{slice_get}
use Rattle.std.specs.List.{AllZip}
use Rattle.std.specs.List.Sorted.{IsPermutation}
use Rattle.std.proofs.lemmas.List.{length-map, take_all, take_more}
use Rattle.std.proofs.lemmas.List.Sorted.{All-permutation, IsPermutation-map, IsPermutation-sym, IsPermutation-trans, length_permutation}
use Rattle.std.proofs.lemmas.Option.{get_or_from_slice_get, none-some, same_Some, slice_get_within}
use Rattle.members_dm.specs.InOrder.{IsFirstPlace}
use Rattle.members_dm.specs.Membership.{IsRising, NoRepeats}
use Rattle.members_dm.proofs.ElementsLemmas.{item_at_index, one_index}
use Rattle.members_dm.proofs.MembershipLemmas.{rising-NoRepeats}
use Rattle.schema_dm.specs.Naming.{Name, column_names}
use Rattle.schema_dm.specs.Schemas.{IsTable}
use Rattle.schema_dm.specs.Shapes.{IsBefore, IsShapeTable}
use Rattle.schema_dm.specs.declared.draft.Column.{Column}
use Rattle.schema_dm.specs.declared.table.ShapeTable.{ShapeTable}
use Rattle.schema_dm.specs.declared.table.Table.{Table}
use Rattle.table_csv.specs.CanonicalText.{AreTextColumns, IsCanonicalText, row_fields}
use Rattle.table_csv.specs.Cells.{AreRowsOf, IsRowOf, Row, cells_at}
use Rattle.table_csv.specs.Databases.{Data, IsDatabase, rows_at}
use Rattle.table_csv.specs.Plain.{AreAtPlaces, IsColumnAt, IsPlain, IsPlainAt, IsPlainTable, PlainTable, plain_column}
use Rattle.table_csv.proofs.OneText.{text_one}
use Rattle.inverse_dm.specs.Parts.{rows_of, shape_of}
use Rattle.algebra_dm.proofs.RisingLemmas.{one_way}
use Rattle.layouts_dm.specs.LayoutTables.{SamePlain}

-- ---- places by names

-- an item of a list without repeats has the one place where it stands
pub first_place : (names : List Name) (x : Name) (o : Option ℕ) (place : ℕ) → NoRepeats names → IsFirstPlace names x o → slice_get names place ≡ Some x → o ≡ Some place
first_place names x None place once first at = absurd (first place at)
first_place names x (Some k) place once first at = ap (λ (n : ℕ). Some n) (one_index names x k place once first.0 at)

pub name_there : (columns : List Column) (place : ℕ) (column : Column) → slice_get (map plain_column columns) place ≡ Some column → slice_get (column_names columns) place ≡ Some column.name
name_there [] place column at = absurd (cc at)
name_there (c ∷ columns) zero column at = ap (λ (d : Column). Some d.name) (same_Some (plain_column c) column at)
name_there (c ∷ columns) (suc place) column at = name_there columns place column at

pub kind_there : (columns : List Column) (place : ℕ) (column d : Column) → slice_get (map plain_column columns) place ≡ Some column → (get_or columns place d).kind ≡ column.kind
kind_there [] place column d at = absurd (cc at)
kind_there (c ∷ columns) zero column d at = ap (λ (d : Column). d.kind) (same_Some (plain_column c) column at)
kind_there (c ∷ columns) (suc place) column d at = kind_there columns place column d at

module _ (columns : List Column) (wanted : Column) (names : List Name) (is : names ≡ column_names columns) (once : NoRepeats (column_names columns)) where
  found_among : (o : Option ℕ) → IsFirstPlace names wanted.name o → (place : ℕ) → slice_get (map plain_column columns) place ≡ Some wanted → o ≡ Some place
  found_among o first place at =
      first_place (column_names columns) wanted.name o place once (subst (λ (ns : List Name). IsFirstPlace ns wanted.name o) is first) (name_there columns place wanted at)

  pub not_found : IsFirstPlace names wanted.name None → (place : ℕ) → slice_get (map plain_column columns) place ≡ Some wanted → ◌≡◌ {A = Option ℕ} None (Some place)
  not_found first place at = found_among None first place at

  pub found_there : (k : ℕ) → IsFirstPlace names wanted.name (Some k) → (place : ℕ) → slice_get (map plain_column columns) place ≡ Some wanted → ◌≡◌ {A = Option ℕ} (Some k) (Some place)
  found_there k first place at = found_among (Some k) first place at

  pub found_within : (k : ℕ) → IsFirstPlace names wanted.name (Some k) → k < length columns
  found_within k first = omega (arith, slice_get_within names k wanted.name first.0, ap (λ (ns : List Name). length ns) is, length-map columns (λ (column : Column). column.name))

  pub found_kind : (k : ℕ) → IsFirstPlace names wanted.name (Some k) → (d : Column) (place : ℕ) → slice_get (map plain_column columns) place ≡ Some wanted → (get_or columns k d).kind ≡ wanted.kind
  found_kind k first d place at =
      let same : k ≡ place = same_Some k place (found_there k first place at) in
      kind_there columns k wanted d (subst (λ (n : ℕ). slice_get (map plain_column columns) n ≡ Some wanted) (sym same) at)

pub table_name_there : (tables : List Table) (place : ℕ) (table : Table) → slice_get tables place ≡ Some table → slice_get (map (λ (t : Table). t.name) tables) place ≡ Some table.name
table_name_there [] place table at = absurd (cc at)
table_name_there (t ∷ tables) zero table at = ap (λ (t : Table). Some t.name) (same_Some t table at)
table_name_there (t ∷ tables) (suc place) table at = table_name_there tables place table at

-- ---- pairs of lists

pub paired_count : {X Y : Type 0} (R : X → Y → Type 0) (xs : List X) (ys : List Y) → AllZip R xs ys → length xs ≡ length ys
paired_count R [] [] h = refl
paired_count R [] (y ∷ ys) h = absurd h
paired_count R (x ∷ xs) [] h = absurd h
paired_count R (x ∷ xs) (y ∷ ys) h = let rest = paired_count R xs ys h.1 in omega arith

pub paired_at : {X Y : Type 0} (R : X → Y → Type 0) (xs : List X) (ys : List Y) (k : ℕ) (d : X) (e : Y) → AllZip R xs ys → k < length ys → R (get_or xs k d) (get_or ys k e)
paired_at R [] [] k d e h l = absurd (omega arith)
paired_at R [] (y ∷ ys) k d e h l = absurd h
paired_at R (x ∷ xs) [] k d e h l = absurd h
paired_at R (x ∷ xs) (y ∷ ys) zero d e h l = h.0
paired_at R (x ∷ xs) (y ∷ ys) (suc k) d e h l = paired_at R xs ys k d e h.1 (omega arith)

pub item_there : {Y : Type 0} (R : ℕ → Y → Type 0) (places : List ℕ) (ys : List Y) (k : ℕ) (y : Y) → AllZip R places ys → k < length ys → y ≡ get_or ys k y → R (get_or places k 0) y
item_there R places ys k y each within is = subst (λ x. R (get_or places k 0) x) (sym is) (paired_at R places ys k 0 y each within)

-- the next of the items that belong to those of the other list
pub next_place : {Y : Type 0} (R : ℕ → Y → Type 0) (places made : List ℕ) (ys : List Y) (k : ℕ) (y : Y) (p : ℕ) → AllZip R places ys → k < length ys → y ≡ get_or ys k y
    → ((place : ℕ) → R place y → ◌≡◌ {A = Option ℕ} (Some p) (Some place)) → made ≡ take k places → made ++ p ∷ [] ≡ take (k + 1) places
next_place R places made ys k y p each within is only so_far =
    let same : p ≡ get_or places k 0 = same_Some p (get_or places k 0) (only (get_or places k 0) (item_there R places ys k y each within is)) in
    let count = paired_count R places ys each in
    let more : take (k + 1) places ≡ take k places ++ get_or places k 0 ∷ [] = take_more places k 0 (omega arith) in
    cc

pub all_places : {Y : Type 0} (R : ℕ → Y → Type 0) (places made : List ℕ) (ys : List Y) (k : ℕ) → AllZip R places ys → length ys ≤ k → made ≡ take k places → made ≡ places
all_places R places made ys k each done so_far = let count = paired_count R places ys each in so_far ∙ take_all k places (omega arith)

-- ---- the same rows

-- tables with the same rows have one text
pub one_text : (columns : List Column) (rows others : List Row) (text other : List ℕ) → IsPermutation rows others → IsCanonicalText columns rows text → IsCanonicalText columns others other → text ≡ other
one_text columns rows others text other same h k = text_one columns rows text other h (record {
  lines = k.lines;
  same = IsPermutation-trans (map row_fields rows) (map row_fields others) k.lines (IsPermutation-map row_fields rows others same) k.same;
  sorted = k.sorted;
  is_text = k.is_text;
})

-- the columns of a table without keys have their texts
pub text_columns : (table : ShapeTable) → IsShapeTable table → AreTextColumns table.columns
text_columns table shape = record {
  some = shape.some;
  distinct = rising-NoRepeats IsBefore one_way (column_names table.columns) shape.rising;
  names = λ column m. (shape.columns column m).0;
}

-- rows that a table may have, in another order
pub rows_moved : (columns : List Column) (rows others : List Row) → IsPermutation rows others → AreRowsOf columns others → AreRowsOf columns rows
rows_moved columns rows others same fit =
    let back = IsPermutation-sym rows others same in
    record {
      few = let count = length_permutation rows others same in let few = fit.few in omega arith;
      each = All-permutation (IsRowOf columns) others rows back fit.each;
    }

-- ---- tables that are the same

same_names : (tables others : List PlainTable) → AllZip SamePlain tables others → map (λ (p : PlainTable). p.shape.name) others ≡ map (λ (p : PlainTable). p.shape.name) tables
same_names [] [] same = refl
same_names [] (y ∷ others) same = absurd same
same_names (x ∷ tables) [] same = absurd same
same_names (x ∷ tables) (y ∷ others) same = λ i. sym same.0.name i ∷ same_names tables others same.1 i

plain_table_same : (table : Table) (rows : List Row) (x y : PlainTable) → SamePlain x y → IsPlainTable table rows y → IsPlainTable table rows x
plain_table_same table rows x y s h = record {
  name = s.name ∙ h.name;
  places = h.places;
  columns = subst (λ (columns : List Column). AreAtPlaces (IsColumnAt table) (length table.columns) h.places columns) (sym s.columns) h.columns;
  rising = subst (λ (columns : List Column). IsRising IsBefore (column_names columns)) (sym s.columns) h.rising;
  same_rows = IsPermutation-trans (map (cells_at h.places) rows) y.rows x.rows h.same_rows (IsPermutation-sym x.rows y.rows s.rows);
}

plain_at_same : (D : Data) (place : ℕ) (x y : PlainTable) → SamePlain x y → IsPlainAt D place y → IsPlainAt D place x
plain_at_same D place x y s h = record { table = h.table; here = h.here; is_plain = plain_table_same h.table (rows_at D.rows place) x y s h.is_plain }

all_same : (D : Data) (places : List ℕ) (tables others : List PlainTable) → AllZip SamePlain tables others → AllZip (IsPlainAt D) places others → AllZip (IsPlainAt D) places tables
all_same D [] [] [] same h = tt
all_same D [] [] (y ∷ others) same h = absurd same
all_same D [] (x ∷ tables) [] same h = absurd same
all_same D [] (x ∷ tables) (y ∷ others) same h = absurd h
all_same D (p ∷ places) [] [] same h = absurd h
all_same D (p ∷ places) [] (y ∷ others) same h = absurd same
all_same D (p ∷ places) (x ∷ tables) [] same h = absurd same
all_same D (p ∷ places) (x ∷ tables) (y ∷ others) same h = (plain_at_same D p x y same.0 h.0, all_same D places tables others same.1 h.1)

-- tables that are the same as a database's are the database's
pub plain_same : (D : Data) (tables others : List PlainTable) → AllZip SamePlain tables others → IsPlain D others → IsPlain D tables
plain_same D tables others same h = record {
  places = h.places;
  tables = record { belong = all_same D h.places tables others same h.tables.belong; once = h.tables.once; each = h.tables.each };
  rising = subst (λ (names : List Name). IsRising IsBefore names) (same_names tables others same) h.rising;
}

-- ---- a table that is found

abbrev Belong : List Column → List ℕ → List Column → Type 0
Belong columns places wanted = AllZip (λ (place : ℕ) (column : Column). slice_get (map plain_column columns) place ≡ Some column) places wanted

module _ (table : Table) (rows : List Row) (plain : ShapeTable) (others : List Row) (is : IsPlainTable table rows (record { shape = plain; rows = others })) where
  pub as_many_columns : length table.columns ≡ length plain.columns
  as_many_columns = sym is.columns.each ∙ paired_count (IsColumnAt table) is.places plain.columns is.columns.belong

  module _ (columns wanted : List Column) (found : Option (List ℕ)) (are : columns ≡ table.columns) (also : wanted ≡ plain.columns) (only : (places : List ℕ) → Belong columns places wanted → found ≡ Some places) where
    found_places : found ≡ Some is.places
    found_places = only is.places (subst (λ (cs : List Column). Belong cs is.places wanted) (sym are) (subst (λ (cs : List Column). Belong table.columns is.places cs) (sym also) is.columns.belong))

    pub are_found : found ≡ None → ⊥
    are_found none = none-some is.places (sym none ∙ found_places)

    pub moved_rows : (places seen : List ℕ) → found ≡ Some places → seen ≡ places → (moved : List Row) → moved ≡ map (cells_at seen) rows → IsPermutation moved others
    moved_rows places seen here same moved made =
        let all : seen ≡ is.places = same ∙ same_Some places is.places (sym here ∙ found_places) in
        subst (λ (rs : List Row). IsPermutation rs others) (sym (made ∙ ap (λ (ps : List ℕ). map (cells_at ps) rows) all)) is.same_rows

module _ (D : Data) (db : IsDatabase D) (names : List Name) (are : names ≡ map (λ (t : Table). t.name) D.tables) (p : PlainTable) (there : (place : ℕ) × IsPlainAt D place p) where
  the_place : (o : Option ℕ) → IsFirstPlace names p.shape.name o → o ≡ Some there.0
  the_place o first =
      first_place (map (λ (t : Table). t.name) D.tables) p.shape.name o there.0 db.schema.names (subst (λ (ns : List Name). IsFirstPlace ns p.shape.name o) are first)
      (table_name_there D.tables there.0 there.1.table there.1.here ∙ ap (λ (n : Name). Some n) (sym there.1.is_plain.name))

  pub is_there : IsFirstPlace names p.shape.name None → ⊥
  is_there first = none-some there.0 (the_place None first)

  module _ (k : ℕ) (first : IsFirstPlace names p.shape.name (Some k)) (found : Table) (at : found ≡ get_or D.tables k found) where
    same_place : k ≡ there.0
    same_place = same_Some k there.0 (the_place (Some k) first)

    same_table : found ≡ there.1.table
    same_table = at ∙ get_or_from_slice_get D.tables k there.1.table found (subst (λ (n : ℕ). slice_get D.tables n ≡ Some there.1.table) (sym same_place) there.1.here)

    of_schema : IsTable D.tables found
    of_schema = subst (IsTable D.tables) (sym same_table) (db.schema.each there.1.table (item_at_index there.1.table D.tables there.0 there.1.here))

    pub found_once : NoRepeats (column_names found.columns)
    found_once = of_schema.distinct

    pub found_few : length found.columns ≤ 256
    found_few = of_schema.few_columns

    pub found_plain : (rows : List Row) → rows ≡ rows_at D.rows k → IsPlainTable found rows p
    found_plain rows same =
        let here : rows ≡ rows_at D.rows there.0 = same ∙ ap (λ (n : ℕ). rows_at D.rows n) same_place in
        subst (λ (t : Table). IsPlainTable t rows p) (sym same_table) (subst (λ (rs : List Row). IsPlainTable there.1.table rs p) (sym here) there.1.is_plain)

-- ---- each of the tables

parts_there : (tables : List PlainTable) (k : ℕ) (shape : ShapeTable) (rows : List Row) → k < length tables → shape ≡ get_or (shape_of tables) k shape → rows ≡ get_or (rows_of tables) k rows
    → ◌≡◌ {A = PlainTable} (get_or tables k (record { shape = shape; rows = rows })) (record { shape = shape; rows = rows })
parts_there [] k shape rows within s r = absurd (omega arith)
parts_there (t ∷ tables) zero shape rows within s r = λ i. record { shape = sym s i; rows = sym r i }
parts_there (t ∷ tables) (suc k) shape rows within s r = parts_there tables k shape rows (omega arith) s r

module _ (D : Data) (tables : List PlainTable) (is : IsPlain D tables) where
  pub as_many_tables : length (shape_of tables) ≡ length D.tables
  as_many_tables = length-map tables (λ (p : PlainTable). p.shape) ∙ sym (paired_count (IsPlainAt D) is.places tables is.tables.belong) ∙ is.tables.each

  pub plain_there : (k : ℕ) (shape : ShapeTable) (rows : List Row) → k < length (shape_of tables) → shape ≡ get_or (shape_of tables) k shape → rows ≡ get_or (rows_of tables) k rows
      → (place : ℕ) × IsPlainAt D place (record { shape = shape; rows = rows })
  plain_there k shape rows within s r =
      let count = length-map tables (λ (p : PlainTable). p.shape) in
      let at = paired_at (IsPlainAt D) is.places tables k 0 (record { shape = shape; rows = rows }) is.tables.belong (omega arith) in
      (get_or is.places k 0, subst (IsPlainAt D (get_or is.places k 0)) (parts_there tables k shape rows (omega arith) s r) at)

pub fits_there : (tables : List PlainTable) (shapes : List ShapeTable) (lists : List (List Row)) → shapes ≡ shape_of tables → lists ≡ rows_of tables
    → AllZip (λ (table : ShapeTable) (rows : List Row). AreRowsOf table.columns rows) (shape_of tables) (rows_of tables)
    → (k : ℕ) (shape : ShapeTable) (rows : List Row) → k < length shapes → shape ≡ get_or shapes k shape → rows ≡ get_or lists k rows → AreRowsOf shape.columns rows
fits_there tables shapes lists s l fit k shape rows within is also =
    let Fits : ShapeTable → List Row → Type 0 = λ table rows. AreRowsOf table.columns rows in
    let here : AllZip Fits shapes lists = subst (λ (xs : List ShapeTable). AllZip Fits xs lists) (sym s) (subst (λ (ys : List (List Row)). AllZip Fits (shape_of tables) ys) (sym l) fit) in
    let count = paired_count Fits shapes lists here in
    let at : Fits (get_or shapes k shape) (get_or lists k rows) = paired_at Fits shapes lists k shape rows here (omega arith) in
    subst (λ (x : ShapeTable). AreRowsOf x.columns rows) (sym is) (subst (λ (ys : List Row). AreRowsOf (get_or shapes k shape).columns ys) (sym also) at)
