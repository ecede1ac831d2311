-- Readers give the names that made an IRI, exactly where there are some.
use Rattle.std.proofs.Common.{◌≡◌, ◌∙◌, ◌∷◌, ◌&&◌, [], ℕ, List, Bool, true, false, refl, sym, ap, inl, inr, Option, Some, None, arith, length, ltb, suc}
use Rattle.std.proofs.lemmas.Bool.{cases_Bool, lt-ltb}
use Rattle.names_dm.proofs.Ascii.{and_parts}
use Rattle.std.specs.List.{list_all}
use Rattle.names_dm.specs.declared.names.RefName.{RefName}
use Rattle.names_dm.specs.Names.{column_iri, ref_iri, rel_iri, table_iri}
use Rattle.names_dm.specs.Reading.{Tells, are_names, is_column_name, is_name, is_ref_name, is_rel_name, only, read_column, read_ref, read_rel, read_table, told_column, told_ref, told_rel, told_table}
use Rattle.names_dm.proofs.Told.{column_iri-told, ref_iri-told, rel_iri-told, table_iri-told, told_column-column, told_ref-ref, told_rel-rel, told_table-table}

some_same : {A : Type 0} (x y : A) → Some x ≡ Some y → x ≡ y
some_same x y e = cc

-- from what is told and what was made
tells : {A : Type 0} (test : A → Bool) (made : A → List ℕ) (text : List ℕ) (told : Option A)
    → ((x : A) → told ≡ Some x → made x ≡ text) → ((x : A) → test x ≡ true → made x ≡ text → told ≡ Some x) → Tells test made text (only test told)
tells test made text None sound complete = λ x good same. let h = complete x good same in cc h
tells test made text (Some x) sound complete = elim (cases_Bool (test x)) [
  | inl good ↦ rw good (good, sound x refl)
  | inr bad ↦ rw bad (
      λ y good same. let told : x ≡ y = some_same x y (complete y good same) in cc (sym bad ∙ ap test told ∙ good)
      )
]

pub tells_table : (base iri : List ℕ) → Tells is_name (table_iri base) iri (read_table base iri)
unfolding read_table
tells_table base iri =
    tells is_name (table_iri base) iri (told_table base iri) (λ x. table_iri-told base iri x) (λ x good same. ap (told_table base) (sym same) ∙ told_table-table base x)

pub tells_column : (base iri : List ℕ) → Tells is_column_name (column_iri base) iri (read_column base iri)
unfolding read_column
tells_column base iri =
    tells is_column_name (column_iri base) iri (told_column base iri) (λ x. column_iri-told base iri x)
    (λ x good same. ap (told_column base) (sym same) ∙ told_column-column base x)

-- a reference has a column
told_ref-name : (base : List ℕ) (name : RefName) → is_ref_name name ≡ true → told_ref base (ref_iri base name) ≡ Some name
told_ref-name base name good = go name.columns refl where
  go : (columns : List (List ℕ)) → name.columns ≡ columns → told_ref base (ref_iri base name) ≡ Some name
  go [] e = cc (rw e at (and_parts (is_name name.table) (are_names name.columns) good).1)
  go (column ∷ columns) e =
      let same : ◌≡◌ {A = RefName} name (record { table = name.table; columns = column ∷ columns }) = λ i. record { table = name.table; columns = e i } in
      rw same (told_ref-ref base name.table column columns)

pub tells_ref : (base iri : List ℕ) → Tells is_ref_name (ref_iri base) iri (read_ref base iri)
unfolding read_ref
tells_ref base iri =
    tells is_ref_name (ref_iri base) iri (told_ref base iri) (λ x. ref_iri-told base iri x) (λ x good same. ap (told_ref base) (sym same) ∙ told_ref-name base x good)

pub tells_rel : (base iri : List ℕ) → Tells is_rel_name (rel_iri base) iri (read_rel base iri)
unfolding read_rel
tells_rel base iri =
    tells is_rel_name (rel_iri base) iri (told_rel base iri) (λ x. rel_iri-told base iri x) (λ x good same. ap (told_rel base) (sym same) ∙ told_rel-rel base x)

one_or_more : (a : Bool) (n : ℕ) → (a && ltb 0 (suc n)) ≡ a
one_or_more a n = let some : ltb 0 (suc n) ≡ true = lt-ltb 0 (suc n) (omega arith) in rw some (and_true a) where
  and_true : (a : Bool) → (a && true) ≡ a
  and_true true = refl
  and_true false = refl

pub are_names-from_loop : (texts : List (List ℕ)) → (list_all is_name texts && ltb 0 (length texts)) ≡ are_names texts
are_names-from_loop [] = refl
are_names-from_loop (text ∷ texts) = one_or_more (is_name text && list_all is_name texts) (length texts)
