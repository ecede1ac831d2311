-- Tables by their names, and the names of columns one by one.
use Rattle.std.proofs.Common.{◌≡◌, ◌∙◌, ◌⊎◌, ◌↔◌, ℕ, ◌<◌, ◌≤◌, ◌+◌, List, [], ◌∷◌, ◌++◌, Option, Some, None, Bool, true, false, IsTrue, refl, sym, ap, subst, inl, inr, arith, get_or, take, length, map}
use Rattle.std.specs.Prelude.{slice_get, is_some}
use Rattle.std.specs.Option.{IfNone, IfSome, option_map}
use Rattle.std.proofs.lemmas.List.{take_more}
use Rattle.std.proofs.lemmas.Option.{none-some, same_Some, slice_get-get_or, slice_get-map, slice_get_within, slice_get_past}
use Rattle.members_dm.specs.InOrder.{IsFirstPlace}
use Rattle.members_dm.specs.Membership.{IsIn}
use Rattle.members_dm.proofs.ElementsLemmas.{index_of_item, item_at_index, item_within}
use Rattle.members_dm.proofs.MembershipLemmas.{IsIn-append, IsIn-back, IsIn-front, map-IsIn}
use Rattle.schema_dm.specs.Naming.{Name, column_names}
use Rattle.schema_dm.specs.declared.draft.Column.{Column}
use Rattle.schema_dm.specs.declared.table.Table.{Table as SchemaTable}
use Rattle.algebra_dm.specs.Attributes.{HasTable, IsNamed}
use Rattle.algebra_dm.specs.Certain.{IsCertainColumn}
use Rattle.algebra_dm.specs.Checking.{IsKeyName, IsNotNullName}
use Rattle.algebra_dm.specs.declared.query.Mode.TheVariants.{Map}
use Rattle.algebra_dm.proofs.RisingLemmas.{push_iff}

abbrev table_name : SchemaTable → Name
table_name t = t.name

abbrev column_name : Column → Name
column_name c = c.name

pub place_tells : (xs : List Name) (a : Name) (o : Option ℕ) (b : Bool) → IsFirstPlace xs a o → b ≡ is_some o → IsTrue b ↔ IsIn a xs
place_tells xs a None b none e = (
  (λ h. (let both : true ≡ false = sym h ∙ e in absurd (cc))),
  (λ h. (let k = index_of_item a xs h in absurd (none k.0 k.2))),
)
place_tells xs a (Some k) b first e = ((λ h. item_at_index a xs k first.0), (λ h. e))

pub no_table_named : (tables : List SchemaTable) (names : List Name) (name : Name) → names ≡ map table_name tables → IsFirstPlace names name None → ¬ HasTable tables name
no_table_named tables names name e none h =
    let k = index_of_item name names (subst (λ xs. IsIn name xs) (sym e) (subst (λ x. IsIn x (map table_name tables)) h.1.1 (map-IsIn table_name h.0 tables h.1.0))) in
    none k.0 k.2

pub table_there : (tables : List SchemaTable) (names : List Name) (name : Name) (k : ℕ) → names ≡ map table_name tables → IsFirstPlace names name (Some k) → ¬ (length tables ≤ k)
table_there tables names name k e first past =
    none-some name (sym (slice_get-map table_name tables k ∙ ap (option_map table_name) (slice_get_past tables k past)) ∙ (subst (λ xs. slice_get xs k ≡ Some name) e first.0))

pub table_found : (tables : List SchemaTable) (names : List Name) (name : Name) (k : ℕ) (table : SchemaTable) → names ≡ map table_name tables → IsFirstPlace names name (Some k)
    → slice_get tables k ≡ Some table → IsNamed tables name table
table_found tables names name k table e first here =
    let both : Some table.name ≡ Some name = sym (slice_get-map table_name tables k ∙ ap (option_map table_name) here) ∙ subst (λ xs. slice_get xs k ≡ Some name) e first.0 in
    (item_at_index table tables k here, same_Some table.name name both)

-- ---- columns one by one

module _ (columns : List Column) (i : ℕ) (column : Column) (below : i < length columns) (is : column ≡ get_or columns i column) where
  more : take (i + 1) columns ≡ take i columns ++ column ∷ []
  more = take_more columns i column below ∙ ap (λ c. take i columns ++ c ∷ []) (sym is)

  kept_on : (c : Column) → IsIn c (take i columns) → IsIn c (take (i + 1) columns)
  kept_on c h = subst (λ cs. IsIn c cs) (sym more) (IsIn-front c (take i columns) (column ∷ []) h)

  last_or : (c : Column) → IsIn c (take (i + 1) columns) → IsIn c (take i columns) ⊎ (column ≡ c)
  last_or c h = elim (IsIn-append c (take i columns) (column ∷ []) (subst (λ cs. IsIn c cs) more h)) [ inl k ↦ inl k | inr k ↦ elim k [ inl e ↦ inr e | inr n ↦ absurd n ] ]

  module _ (names : List Name) (so_far : (a : Name) → IsIn a names ↔ IsNotNullName (take i columns) a) where
    pub not_null_more : column.not_null ≡ true → (a : Name) → IsIn a (names ++ column.name ∷ []) ↔ IsNotNullName (take (i + 1) columns) a
    not_null_more flag a = (
      (λ h. elim ((push_iff names column.name a).0 h) [
        | inl k ↦ (let old = (so_far a).0 k in (old.0, kept_on old.0 old.1, old.2, old.3))
        | inr e ↦ (column, subst (λ cs. IsIn column cs) (sym more) (IsIn-back column (take i columns) (column ∷ []) (inl refl)), e, flag)
      ]),
      (λ h. elim (last_or h.0 h.1) [
        | inl k ↦ (push_iff names column.name a).1 (inl ((so_far a).1 (h.0, k, h.2, h.3)))
        | inr e ↦ (push_iff names column.name a).1 (inr (ap column_name e ∙ h.2))
      ]),
    )

    pub not_null_less : column.not_null ≡ false → (a : Name) → IsIn a names ↔ IsNotNullName (take (i + 1) columns) a
    not_null_less flag a = (
      (λ h. (let old = (so_far a).0 h in (old.0, kept_on old.0 old.1, old.2, old.3))),
      (λ h. elim (last_or h.0 h.1) [
        | inl k ↦ (so_far a).1 (h.0, k, h.2, h.3)
        | inr e ↦ (let both : false ≡ true = sym flag ∙ ap (λ (c : Column). c.not_null) e ∙ h.3 in absurd (cc))
      ]),
    )

pub key_name_at : (columns : List Column) (place : ℕ) (column : Column) (names : List Name) → place < length columns → column ≡ get_or columns place column
    → (a : Name) → IsIn a (names ++ column.name ∷ []) ↔ (IsIn a names ⊎ (slice_get (column_names columns) place ≡ Some a))
key_name_at columns place column names below is a =
    let here : slice_get (column_names columns) place ≡ Some column.name =
    slice_get-map column_name columns place ∙ ap (option_map column_name) (slice_get-get_or columns place column below ∙ ap (λ (c : Column). Some c) (sym is)) in (
      (λ h. elim ((push_iff names column.name a).0 h) [ inl k ↦ inl k | inr e ↦ inr (here ∙ ap (λ (x : Name). Some x) e) ]),
      (λ h. elim h [ inl k ↦ (push_iff names column.name a).1 (inl k) | inr e ↦ (push_iff names column.name a).1 (inr (same_Some column.name a (sym here ∙ e))) ]),
    )

pub no_key_name : (columns : List Column) (place : ℕ) (names : List Name) → length columns ≤ place → (a : Name) → IsIn a names ↔ (IsIn a names ⊎ (slice_get (column_names columns) place ≡ Some a))
no_key_name columns place names past a = (
  (λ h. inl h),
  (λ h. elim h [ inl k ↦ k | inr e ↦ absurd (none-some a (sym (slice_get-map column_name columns place ∙ ap (option_map column_name) (slice_get_past columns place past)) ∙ e)) ]),
)

pub key_more : (columns : List Column) (places : List ℕ) (old now new : List Name) (i place : ℕ) → i < length places → place ≡ get_or places i 0
    → ((a : Name) → IsIn a now ↔ (IsIn a old ⊎ IsKeyName columns (take i places) a))
    → ((a : Name) → IsIn a new ↔ (IsIn a now ⊎ (slice_get (column_names columns) place ≡ Some a)))
    → (a : Name) → IsIn a new ↔ (IsIn a old ⊎ IsKeyName columns (take (i + 1) places) a)
key_more columns places old now new i place below is so_far step a =
    let more : take (i + 1) places ≡ take i places ++ place ∷ [] = take_more places i 0 below ∙ ap (λ (p : ℕ). take i places ++ p ∷ []) (sym is) in (
      (λ h. elim ((step a).0 h) [
        | inl k ↦ elim ((so_far a).0 k) [ inl o ↦ inl o | inr n ↦ inr (n.0, subst (λ ps. IsIn n.0 ps) (sym more) (IsIn-front n.0 (take i places) (place ∷ []) n.1), n.2) ]
        | inr e ↦ inr (place, subst (λ ps. IsIn place ps) (sym more) (IsIn-back place (take i places) (place ∷ []) (inl refl)), e)
      ]),
      (λ h. elim h [
        | inl o ↦ (step a).1 (inl ((so_far a).1 (inl o)))
        | inr n ↦ elim (IsIn-append n.0 (take i places) (place ∷ []) (subst (λ ps. IsIn n.0 ps) more n.1)) [
          | inl k ↦ (step a).1 (inl ((so_far a).1 (inr (n.0, k, n.2))))
          | inr k ↦ elim k [ inl e ↦ (step a).1 (inr (subst (λ p. slice_get (column_names columns) p ≡ Some a) (sym e) n.2)) | inr z ↦ absurd z ]
        ]
      ]),
    )

-- ---- the columns that are certain

pub map_columns : (table : SchemaTable) (places : List ℕ) (first all : List Name) → table.primary ≡ Some places → ((a : Name) → IsIn a first ↔ IsNotNullName table.columns a)
    → ((a : Name) → IsIn a all ↔ (IsIn a first ⊎ IsKeyName table.columns places a)) → (a : Name) → IsIn a all ↔ IsCertainColumn Map table a
map_columns table places first all is named more a = (
  (λ h. elim ((more a).0 h) [ inl k ↦ inl ((named a).0 k) | inr n ↦ inr (places, n.0, is, n.1, n.2) ]),
  (λ h. (more a).1 (elim h [
    | inl k ↦ inl ((named a).1 k)
    | inr n ↦ inr (n.1, subst (λ (ps : List ℕ). IsIn n.1 ps) (same_Some n.0 places (sym n.2 ∙ is)) n.3, n.4)
  ])),
)

pub map_columns_alone : (table : SchemaTable) (first : List Name) → table.primary ≡ None → ((a : Name) → IsIn a first ↔ IsNotNullName table.columns a) → (a : Name) → IsIn a first ↔ IsCertainColumn Map table a
map_columns_alone table first is named a = (
  (λ h. inl ((named a).0 h)),
  (λ h. elim h [ inl k ↦ (named a).1 k | inr n ↦ absurd (none-some n.0 (sym is ∙ n.2)) ]),
)

-- ---- clauses on an answer

pub none_along : {X : Type 0} {P Q : Type 0} (o : Option X) → (P → Q) → IfNone o P → IfNone o Q
none_along None f h = f h
none_along (Some x) f h = tt

pub some_along : {X : Type 0} (P Q : X → Type 0) (o : Option X) → ((x : X) → P x → Q x) → IfSome o P → IfSome o Q
some_along P Q None f h = tt
some_along P Q (Some x) f h = f x h
