-- Tests of equality that say exactly whether two drafts, tables or lists of them are the same.
use Rattle.std.specs.Prelude.{◌≡◌, ℕ, Bool, ◌&&◌, List, Option, is_none}
use Rattle.std.specs.declared.option.Option.TheVariants.{None, Some}
use Rattle.std.specs.Option.{option_eq}
use Rattle.std.proofs.Common.{refl, ap}
use Rattle.std.proofs.lemmas.Bool.{true≢false, false≢true}
use Rattle.std.proofs.lemmas.Bool.Decides.{Decides-and, Decides-like}
use Rattle.value_dm.specs.Equality.{DecidesEqual}
use Rattle.schema_dm.specs.Naming.{Name}
use Rattle.schema_dm.specs.declared.draft.Column.{Column}
use Rattle.schema_dm.specs.declared.draft.ForeignDraft.{ForeignDraft}
use Rattle.schema_dm.specs.declared.draft.TableDraft.{TableDraft}
use Rattle.schema_dm.specs.declared.table.Table.{Table}
use Rattle.schema_dm.specs.declared.table.ForeignKey.{ForeignKey}
use Rattle.schema_dm.specs.declared.table.ShapeTable.{ShapeTable}

abbrev is_some_of : {K : Type 0} → K → Option K → K
is_some_of d None = d
is_some_of d (Some x) = x

pub options_decide : {K : Type 0} {test : K → K → Bool} → DecidesEqual test → DecidesEqual (option_eq test)
options_decide d None None = ((λ h. refl), (λ e. refl))
options_decide {K} d None (Some y) = ((λ h. absurd (false≢true h)), (λ e. absurd (apart e)))
  where
    apart : None ≡ Some y → ⊥
    apart e = true≢false (ap (λ (o : Option K). is_none o) e)
options_decide {K} d (Some x) None = ((λ h. absurd (false≢true h)), (λ e. absurd (apart e)))
  where
    apart : Some x ≡ None → ⊥
    apart e = false≢true (ap (λ (o : Option K). is_none o) e)
options_decide d (Some x) (Some y) = Decides-like _ (λ e. ap (λ z. Some z) e) (λ e. ap (is_some_of x) e) (d x y)

module _ {names : List Name → List Name → Bool} {text : Name → Name → Bool} (names_decide : DecidesEqual names) (text_decides : DecidesEqual text) where
  pub foreign_drafts_decide : {given : Option (List Name) → Option (List Name) → Bool} → DecidesEqual given
      → DecidesEqual {K = ForeignDraft} (λ x y. names x.columns y.columns && (text x.target y.target && given x.target_columns y.target_columns))
  foreign_drafts_decide given_decides x y =
      Decides-like _ (λ p i. record { columns = p.0 i; target = p.1.0 i; target_columns = p.1.1 i }) (λ e. (ap (λ d. d.columns) e, (ap (λ d. d.target) e, ap (λ d. d.target_columns) e)))
      (Decides-and _ _ (names_decide x.columns y.columns) (Decides-and _ _ (text_decides x.target y.target) (given_decides x.target_columns y.target_columns)))

module _ {text : Name → Name → Bool} {columns : List Column → List Column → Bool} (text_decides : DecidesEqual text) (columns_decide : DecidesEqual columns) where
  pub table_drafts_decide : {lists : List (List Name) → List (List Name) → Bool} {foreign : List ForeignDraft → List ForeignDraft → Bool} → DecidesEqual lists → DecidesEqual foreign
      → DecidesEqual {K = TableDraft} (λ x y. text x.name y.name && (columns x.columns y.columns && (lists x.primaries y.primaries && (lists x.uniques y.uniques && foreign x.foreign y.foreign))))
  table_drafts_decide lists_decide foreign_decide x y =
      Decides-like _ (λ p i. record { name = p.0 i; columns = p.1.0 i; primaries = p.1.1.0 i; uniques = p.1.1.1.0 i; foreign = p.1.1.1.1 i })
      (λ e. (ap (λ d. d.name) e, (ap (λ d. d.columns) e, (ap (λ d. d.primaries) e, (ap (λ d. d.uniques) e, ap (λ d. d.foreign) e)))))
      (Decides-and _ _ (text_decides x.name y.name) (Decides-and _ _ (columns_decide x.columns y.columns)
      (Decides-and _ _ (lists_decide x.primaries y.primaries) (Decides-and _ _ (lists_decide x.uniques y.uniques) (foreign_decide x.foreign y.foreign)))))

  pub tables_decide : {places : Option (List ℕ) → Option (List ℕ) → Bool} {lists : List (List ℕ) → List (List ℕ) → Bool} {foreign : List ForeignKey → List ForeignKey → Bool}
      → DecidesEqual places → DecidesEqual lists → DecidesEqual foreign
      → DecidesEqual {K = Table} (λ x y. text x.name y.name && (columns x.columns y.columns && (places x.primary y.primary && (lists x.uniques y.uniques && foreign x.foreign y.foreign))))
  tables_decide places_decide lists_decide foreign_decide x y =
      Decides-like _ (λ p i. record { name = p.0 i; columns = p.1.0 i; primary = p.1.1.0 i; uniques = p.1.1.1.0 i; foreign = p.1.1.1.1 i })
      (λ e. (ap (λ d. d.name) e, (ap (λ d. d.columns) e, (ap (λ d. d.primary) e, (ap (λ d. d.uniques) e, ap (λ d. d.foreign) e)))))
      (Decides-and _ _ (text_decides x.name y.name) (Decides-and _ _ (columns_decide x.columns y.columns)
      (Decides-and _ _ (places_decide x.primary y.primary) (Decides-and _ _ (lists_decide x.uniques y.uniques) (foreign_decide x.foreign y.foreign)))))

  pub shape_tables_decide : DecidesEqual {K = ShapeTable} (λ x y. text x.name y.name && columns x.columns y.columns)
  shape_tables_decide x y =
      Decides-like _ (λ p i. record { name = p.0 i; columns = p.1 i }) (λ e. (ap (λ d. d.name) e, ap (λ d. d.columns) e))
      (Decides-and _ _ (text_decides x.name y.name) (columns_decide x.columns y.columns))
