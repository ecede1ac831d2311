-- Tables are their shapes with their rows.
use Rattle.std.proofs.Common.{◌≡◌, ℕ, ◌<◌, ◌≤◌, List, [], ◌∷◌, length, map, refl, sym, ap, ◌∙◌, subst, inl, inr, arith}
use Rattle.std.specs.List.{AllZip}
use Rattle.std.proofs.lemmas.Bool.{cases_lt}
use Rattle.members_dm.specs.Membership.{IsIn, IsRising}
use Rattle.members_dm.proofs.AnyLemmas.{all_from_items}
use Rattle.members_dm.proofs.ElementsLemmas.{item_from_each}
use Rattle.members_dm.proofs.MembershipLemmas.{IsIn-map}
use Rattle.schema_dm.specs.declared.table.ShapeTable.{ShapeTable}
use Rattle.schema_dm.specs.Naming.{Name}
use Rattle.schema_dm.specs.Shapes.{IsBefore, IsShape, IsShapeTable}
use Rattle.layouts_dm.specs.LayoutTables.{AreOfShape, IsOfShape}
use Rattle.table_csv.specs.Cells.{AreRowsOf, IsRowOf, Row}
use Rattle.table_csv.specs.Plain.{PlainTable}
use Rattle.inverse_dm.specs.Limits.{IsWithinLimits}
use Rattle.inverse_dm.specs.Parts.{rows_of, shape_of, tables_from}

abbrev Fit : List ShapeTable → List (List Row) → Type 0
Fit shapes rows = AllZip (λ table rows. AreRowsOf table.columns rows) shapes rows

-- the parts of tables that are put together
pub shape_back : (shapes : List ShapeTable) (rows : List (List Row)) → Fit shapes rows → shape_of (tables_from shapes rows) ≡ shapes
shape_back [] rows fit = refl
shape_back (s ∷ shapes) [] fit = absurd fit
shape_back (s ∷ shapes) (r ∷ rows) fit = ap (λ (rest : List ShapeTable). s ∷ rest) (shape_back shapes rows fit.1)

pub rows_back : (shapes : List ShapeTable) (rows : List (List Row)) → Fit shapes rows → rows_of (tables_from shapes rows) ≡ rows
rows_back [] [] fit = refl
rows_back [] (r ∷ rows) fit = absurd fit
rows_back (s ∷ shapes) [] fit = absurd fit
rows_back (s ∷ shapes) (r ∷ rows) fit = ap (λ (rest : List (List Row)). r ∷ rest) (rows_back shapes rows fit.1)

-- and put together again
pub tables_back : (tables : List PlainTable) → tables_from (shape_of tables) (rows_of tables) ≡ tables
tables_back [] = refl
tables_back (plain ∷ tables) = ap (λ (rest : List PlainTable). plain ∷ rest) (tables_back tables)

-- ---- tables within the limits

within : (n m : ℕ) → ¬ (n < m) → m ≤ n
within n m h = elim (cases_lt n m) [ inl l ↦ absurd (h l) | inr l ↦ l ]

shape_table : (tables : List PlainTable) → IsWithinLimits tables → (plain : PlainTable) → IsIn plain tables → IsOfShape plain → IsShapeTable plain.shape
shape_table tables w plain h s = record {
  name = s.name;
  some = s.some;
  few = within 256 (length plain.shape.columns) (λ wide. w.few_columns (plain, h, wide));
  rising = s.rising;
  columns = s.columns;
}

names_of : (tables : List PlainTable) → map (λ (table : ShapeTable). table.name) (shape_of tables) ≡ map (λ (plain : PlainTable). plain.shape.name) tables
names_of [] = refl
names_of (plain ∷ tables) = ap (λ (rest : List Name). plain.shape.name ∷ rest) (names_of tables)

count_of : (tables : List PlainTable) → length (shape_of tables) ≡ length tables
count_of [] = refl
count_of (plain ∷ tables) = let rest = count_of tables in omega arith

pub is_shape : (tables : List PlainTable) → AreOfShape tables → IsWithinLimits tables → IsShape (shape_of tables)
is_shape tables s w = record {
  some = let count = count_of tables in let some = s.some in omega arith;
  few = let count = count_of tables in let few = within 4096 (length tables) w.few_tables in omega arith;
  rising = subst (λ (names : List Name). IsRising IsBefore names) (sym (names_of tables)) s.rising;
  each = λ table h.
      let found = IsIn-map (λ (plain : PlainTable). plain.shape) table tables h in
      subst IsShapeTable found.2 (shape_table tables w found.0 found.1 (s.each found.0 found.1));
}

rows_fit : (tables : List PlainTable) → IsWithinLimits tables → (plain : PlainTable) → IsIn plain tables → IsOfShape plain → AreRowsOf plain.shape.columns plain.rows
rows_fit tables w plain h s = record {
  few = within 4194304 (length plain.rows) (λ long. w.few_rows (plain, h, long));
  each = all_from_items (IsRowOf plain.shape.columns) plain.rows (λ row k. item_from_each (IsRowOf plain.shape.columns) plain.rows s.rows row k);
}

each_fit : (tables : List PlainTable) → ((plain : PlainTable) → IsIn plain tables → AreRowsOf plain.shape.columns plain.rows) → Fit (shape_of tables) (rows_of tables)
each_fit [] f = tt
each_fit (plain ∷ tables) f = (f plain (inl refl), each_fit tables (λ other h. f other (inr h)))

pub are_fit : (tables : List PlainTable) → AreOfShape tables → IsWithinLimits tables → Fit (shape_of tables) (rows_of tables)
are_fit tables s w = each_fit tables (λ plain h. rows_fit tables w plain h (s.each plain h))

-- ---- parts that are those of tables

pub fit_along : (tables : List PlainTable) (shapes : List ShapeTable) (rows : List (List Row)) → shapes ≡ shape_of tables → rows ≡ rows_of tables → Fit (shape_of tables) (rows_of tables) → Fit shapes rows
fit_along tables shapes rows s r fit = subst (λ (x : List ShapeTable). Fit x rows) (sym s) (subst (λ (y : List (List Row)). Fit (shape_of tables) y) (sym r) fit)

pub tables_along : (tables : List PlainTable) (shapes : List ShapeTable) (rows : List (List Row)) → shapes ≡ shape_of tables → rows ≡ rows_of tables → tables_from shapes rows ≡ tables
tables_along tables shapes rows s r = ap (λ (x : List ShapeTable). tables_from x rows) s ∙ ap (λ (y : List (List Row)). tables_from (shape_of tables) y) r ∙ tables_back tables

-- ---- tables seen by their parts

pub shape_seen : (tables : List PlainTable) (shapes : List ShapeTable) (rows : List (List Row)) → tables ≡ tables_from shapes rows → Fit shapes rows → shapes ≡ shape_of tables
shape_seen tables shapes rows e fit = sym (ap shape_of e ∙ shape_back shapes rows fit)

pub rows_seen : (tables : List PlainTable) (shapes : List ShapeTable) (rows : List (List Row)) → tables ≡ tables_from shapes rows → Fit shapes rows → rows ≡ rows_of tables
rows_seen tables shapes rows e fit = sym (ap rows_of e ∙ rows_back shapes rows fit)

pub fit_seen : (tables : List PlainTable) (shapes : List ShapeTable) (rows : List (List Row)) → tables ≡ tables_from shapes rows → Fit shapes rows → Fit (shape_of tables) (rows_of tables)
fit_seen tables shapes rows e fit =
    subst (λ (x : List ShapeTable). Fit x (rows_of tables)) (shape_seen tables shapes rows e fit) (subst (λ (y : List (List Row)). Fit shapes y) (rows_seen tables shapes rows e fit) fit)

rows_count : (tables : List PlainTable) → length (rows_of tables) ≡ length tables
rows_count [] = refl
rows_count (plain ∷ tables) = let rest = rows_count tables in omega arith

pub count_seen : (tables : List PlainTable) (shapes : List ShapeTable) (rows : List (List Row)) → tables ≡ tables_from shapes rows → Fit shapes rows → length rows ≡ length tables
count_seen tables shapes rows e fit = ap (λ (y : List (List Row)). length y) (rows_seen tables shapes rows e fit) ∙ rows_count tables
