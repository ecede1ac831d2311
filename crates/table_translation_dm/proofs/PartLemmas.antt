-- The columns of a table, the certain ones apart.
use Rattle.std.proofs.Common.{◌≡◌, ◌∙◌, ◌<◌, ◌≤◌, ◌+◌, ◌⊎◌, ◌↔◌, ◌++◌, ℕ, List, [], ◌∷◌, Some, None, Bool, true, false, IsTrue, refl, sym, ap, subst, inl, inr, ⊎_elim, arith, length}
use Rattle.std.specs.Prelude.{slice_get}
use Rattle.std.specs.Option.{option_map}
use Rattle.std.proofs.lemmas.List.{length-map}
use Rattle.std.proofs.lemmas.Bool.{cases_lt, false≢true}
use Rattle.std.proofs.lemmas.Option.{none-some, same_Some, slice_get-map}
use Rattle.members_dm.specs.Membership.{IsIn, IsRising, NoRepeats}
use Rattle.members_dm.proofs.ElementsLemmas.{index_of_item, item_at_index, one_by_key, one_index}
use Rattle.members_dm.proofs.MembershipLemmas.{IsIn-append, IsIn-back, IsIn-front, IsIn-map, IsRising-append}
use Rattle.schema_dm.specs.Naming.{Name, column_names, column_place}
use Rattle.schema_dm.specs.declared.draft.Column.{Column}
use Rattle.schema_dm.specs.declared.table.Table.{Table}
use Rattle.algebra_dm.specs.Certain.{IsCertainColumn, IsNotNull, IsOfPrimaryKey}
use Rattle.algebra_dm.specs.declared.query.Mode.TheVariants.{Map, MapKeys}
use Rattle.graph_layouts_dm.proofs.Columns.{place_is}
use Rattle.table_patterns_dm.specs.TablePatterns.{AreDeclared}

abbrev column_name : Column → Name
column_name c = c.name

-- ---- one column

module _ (table : Table) (once : NoRepeats (column_names table.columns)) (k : ℕ) (c : Column) (at : slice_get table.columns k ≡ Some c) where
  named_at : slice_get (column_names table.columns) k ≡ Some c.name
  named_at = slice_get-map column_name table.columns k ∙ ap (option_map column_name) at

  not_null_at : (c.not_null ≡ true) ↔ IsNotNull table c.name
  not_null_at = (
    (λ e. (c, item_at_index c table.columns k at, refl, e)),
    (λ h. subst (λ (d : Column). d.not_null ≡ true) (one_by_key column_name table.columns once h.0 c h.1 (item_at_index c table.columns k at) h.2) h.3),
  )

  of_key_at : ((places : List ℕ) × (table.primary ≡ Some places) × IsIn k places) ↔ IsOfPrimaryKey table c.name
  of_key_at = (
    (λ h. (h.0, k, h.1, h.2, named_at)),
    (λ h. (h.0, h.2, subst (λ i. IsIn i h.0) (one_index (column_names table.columns) c.name h.1 k once h.4 named_at) h.3)),
  )

  pub certain_in_map : (r s t : Bool) → (IsTrue t ↔ ((r ≡ true) ⊎ (s ≡ true))) → r ≡ c.not_null → (IsTrue s ↔ ((places : List ℕ) × (table.primary ≡ Some places) × IsIn k places)) → IsTrue t ↔ IsCertainColumn Map table c.name
  certain_in_map r s t either same key = (
    (λ h. ⊎_elim (λ e. inl (not_null_at.0 (sym same ∙ e))) (λ e. inr (of_key_at.0 (key.0 e))) (either.0 h)),
    (λ h. either.1 (⊎_elim (λ e. inl (same ∙ not_null_at.1 e)) (λ e. inr (key.1 (of_key_at.1 e))) h)),
  )

  pub certain_in_keys : (r : Bool) → r ≡ c.not_null → IsTrue r ↔ IsCertainColumn MapKeys table c.name
  certain_in_keys r same = ((λ h. not_null_at.0 (sym same ∙ h)), (λ h. same ∙ not_null_at.1 h))

-- ---- the columns one by one

-- those of the first i columns with the property, in declared order
pub record AreDeclaredTo (columns : List Column) (i : ℕ) (P : Name → Type 0) (names : List Name) : Type 0 where
  pub declared : IsRising (λ a b. column_place columns a < column_place columns b) names
  pub exact : (a : Name) → IsIn a names ↔ ((k : ℕ) × (k < i) × (slice_get (column_names columns) k ≡ Some a) × P a)

module _ (columns : List Column) (P : Name → Type 0) where
  pub all_declared : (i : ℕ) (names : List Name) → length columns ≤ i → AreDeclaredTo columns i P names → AreDeclared columns P names
  all_declared i names l h = record {
    declared = h.declared;
    exact = λ a. (
      (λ k. let f = (h.exact a).0 k in (item_at_index a (column_names columns) f.0 f.2, f.3)),
      (λ k. let f = index_of_item a (column_names columns) k.0 in (h.exact a).1 (f.0, omega (arith, f.1, length-map columns column_name, l), f.2, k.1)),
    );
  }

  module _ (once : NoRepeats (column_names columns)) (i : ℕ) (c : Column) (at : slice_get columns i ≡ Some c) (names : List Name) (h : AreDeclaredTo columns i P names) where
    name_here : slice_get (column_names columns) i ≡ Some c.name
    name_here = slice_get-map column_name columns i ∙ ap (option_map column_name) at

    place_of : (k : ℕ) (a : Name) → slice_get (column_names columns) k ≡ Some a → column_place columns a ≡ k
    place_of k a e =
        let b = IsIn-map column_name a columns (item_at_index a (column_names columns) k e) in
        let j = index_of_item b.0 columns b.1 in
        let there : slice_get (column_names columns) j.0 ≡ Some a = slice_get-map column_name columns j.0 ∙ ap (option_map column_name) j.2 ∙ ap (λ (x : Name). Some x) b.2 in
        ap (column_place columns) (sym b.2) ∙ place_is columns j.0 b.0 once j.2 ∙ one_index (column_names columns) a j.0 k once there e

    pub one_more_declared : P c.name → AreDeclaredTo columns (i + 1) P (names ++ c.name ∷ [])
    one_more_declared p = record {
      declared = IsRising-append (λ a b. column_place columns a < column_place columns b) names (c.name ∷ []) h.declared ((λ y n. absurd n), tt) before;
      exact = λ a. (
        (λ k. ⊎_elim
            (λ j. let f = (h.exact a).0 j in (f.0, omega (arith, f.1), f.2, f.3))
            (λ j. ⊎_elim (λ e. (i, omega arith, name_here ∙ ap (λ (x : Name). Some x) e, subst P e p)) (λ n. absurd n) j)
            (IsIn-append a names (c.name ∷ []) k)),
        (λ k. go a k.0 k.1 k.2 k.3),
      );
    }
      where
        before : (x y : Name) → IsIn x names → IsIn y (c.name ∷ []) → column_place columns x < column_place columns y
        before x y j k =
            let f = (h.exact x).0 j in
            ⊎_elim (λ e. omega (arith, f.1, place_of f.0 x f.2, place_of i y (name_here ∙ ap (λ (z : Name). Some z) e))) (λ n. absurd n) k

        go : (a : Name) (k : ℕ) → k < i + 1 → slice_get (column_names columns) k ≡ Some a → P a → IsIn a (names ++ c.name ∷ [])
        go a k l e pa = ⊎_elim
            (λ below. IsIn-front a names (c.name ∷ []) ((h.exact a).1 (k, below, e, pa)))
            (λ is. IsIn-back a names (c.name ∷ []) (inl (same_Some c.name a (sym name_here ∙ ap (slice_get (column_names columns)) (sym is) ∙ e))))
            (below_or_same k l)
          where
            below_or_same : (k : ℕ) → k < i + 1 → (k < i) ⊎ (k ≡ i)
            below_or_same k l = ⊎_elim (λ below. inl below) (λ past. inr (omega (arith, l, past))) (cases_lt k i)

    pub none_more_declared : ¬ P c.name → AreDeclaredTo columns (i + 1) P names
    none_more_declared n = record {
      declared = h.declared;
      exact = λ a. (
        (λ k. let f = (h.exact a).0 k in (f.0, omega (arith, f.1), f.2, f.3)),
        (λ k. (h.exact a).1 (k.0, less a k.0 k.1 k.2 k.3, k.2, k.3)),
      );
    }
      where
        less : (a : Name) (k : ℕ) → k < i + 1 → slice_get (column_names columns) k ≡ Some a → P a → k < i
        less a k l e pa = ⊎_elim
            (λ below. below)
            (λ is. absurd (n (subst P (sym (same_Some c.name a (sym name_here ∙ ap (slice_get (column_names columns)) (sym is) ∙ e))) pa)))
            (below_or_same k l)
          where
            below_or_same : (k : ℕ) → k < i + 1 → (k < i) ⊎ (k ≡ i)
            below_or_same k l = ⊎_elim (λ below. inl below) (λ past. inr (omega (arith, l, past))) (cases_lt k i)

-- ---- the primary key

pub of_key_none : (table : Table) (k : ℕ) → table.primary ≡ None → IsTrue false ↔ ((places : List ℕ) × (table.primary ≡ Some places) × IsIn k places)
of_key_none table k e = ((λ h. absurd (false≢true h)), (λ h. absurd (none-some h.0 (sym e ∙ h.1))))

pub of_key_some : (table : Table) (k : ℕ) (r : Bool) (places : List ℕ) → table.primary ≡ Some places → (IsTrue r ↔ IsIn k places) → IsTrue r ↔ ((places : List ℕ) × (table.primary ≡ Some places) × IsIn k places)
of_key_some table k r places e h = (
  (λ t. (places, e, h.0 t)),
  (λ i. h.1 (subst (λ ps. IsIn k ps) (same_Some i.0 places (sym i.1 ∙ e)) i.2)),
)
