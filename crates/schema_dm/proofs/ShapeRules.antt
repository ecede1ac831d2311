-- The rule of a shape, put together from its tests.
use Rattle.std.proofs.Common.{◌≡◌, ◌↔◌, ◌∙◌, ℕ, zero, suc, ◌<◌, ◌≤◌, Bool, true, false, List, map, length, refl, sym, ap, subst, All, arith}
use Rattle.std.specs.Prelude.{◌==◌}
use Rattle.std.proofs.lemmas.Bool.{eqb-false}
use Rattle.members_dm.specs.Membership.{IsIn, IsRising}
use Rattle.members_dm.proofs.AnyLemmas.{item_from_all, all_from_items}
use Rattle.schema_dm.specs.declared.draft.Column.{Column}
use Rattle.schema_dm.specs.declared.table.ShapeTable.{ShapeTable}
use Rattle.schema_dm.specs.Naming.{IsBadName}
use Rattle.schema_dm.specs.Shapes.{IsBefore, IsShapeColumn, IsShapeTable, IsShape}

positive : (n : ℕ) → ¬ (n ≡ 0) → 0 < n
positive zero h = absurd (h refl)
positive (suc n) h = omega arith

pub table_rule : (b : Bool) (table : ShapeTable) (columns : List Column) → columns ≡ table.columns → ¬ IsBadName table.name → (length columns == 0) ≡ false → length columns ≤ 256
    → IsRising IsBefore (map (λ column. column.name) columns) → ((b ≡ true) ↔ All IsShapeColumn columns) → (b ≡ true) ↔ IsShapeTable table
table_rule b table columns same name some few rise each = (
  (λ h. record {
    name = name;
    some = positive (length table.columns) (λ none. eqb-false (length columns) 0 some (ap length same ∙ none));
    few = (let long : length columns ≡ length table.columns = ap length same in omega arith);
    rising = subst (λ xs. IsRising IsBefore (map (λ column. column.name) xs)) same rise;
    columns = subst (λ xs. (column : Column) → IsIn column xs → IsShapeColumn column) same (item_from_all IsShapeColumn columns (each.0 h));
  }),
  (λ shape. each.1 (all_from_items IsShapeColumn columns (subst (λ xs. (column : Column) → IsIn column xs → IsShapeColumn column) (sym same) shape.columns))),
)

pub tables_rule : (b : Bool) (tables : List ShapeTable) → (length tables == 0) ≡ false → length tables ≤ 4096 → IsRising IsBefore (map (λ table. table.name) tables)
    → ((b ≡ true) ↔ All IsShapeTable tables) → (b ≡ true) ↔ IsShape tables
tables_rule b tables some few rise each = (
  (λ h. record {
    some = positive (length tables) (eqb-false (length tables) 0 some);
    few = few;
    rising = rise;
    each = item_from_all IsShapeTable tables (each.0 h);
  }),
  (λ shape. each.1 (all_from_items IsShapeTable tables shape.each)),
)
