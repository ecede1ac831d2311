-- Different names have different IRIs.
use Rattle.std.proofs.Common.{◌≡◌, ◌≢◌, ◌∙◌, ◌++◌, ◌∷◌, [], ℕ, List, true, false, eqb, refl, sym, ap, inl, inr, Option, Some, append_assoc, get_or}
use Rattle.std.proofs.lemmas.Bool.{cases_Bool}
use Rattle.std.specs.Prelude.{codes}
use Rattle.names_dm.specs.Apart.{NamesApart}
use Rattle.names_dm.specs.declared.names.ColumnName.{ColumnName}
use Rattle.names_dm.specs.declared.names.RefName.{RefName}
use Rattle.names_dm.specs.declared.names.RelName.{RelName}
use Rattle.names_dm.specs.IriSafe.{safe_form, stays}
use Rattle.names_dm.specs.Names.{column_iri, column_list, equals_sign, number_sign, pairing, ref_iri, rel_iri, semicolon, table_iri}
use Rattle.names_dm.specs.Reading.{after, local_parts, told_column, told_ref, told_rel, told_table}
use Rattle.names_dm.proofs.Parts.{after-append, eqb-same, lacks}
use Rattle.names_dm.proofs.ReadBack.{safe_form-injective}
use Rattle.names_dm.proofs.SafeForms.{in_safe}
use Rattle.names_dm.proofs.Told.{form_lacks, local_parts-append, told_column-column, told_ref-ref, told_rel-rel, told_table-table}

some_same : {A : Type 0} (x y : A) → Some x ≡ Some y → x ≡ y
some_same x y e = cc

-- what is told of one IRI is one
told_once : {A : Type 0} (told : List ℕ → Option A) (x y : List ℕ) (a b : A) → told x ≡ Some a → told y ≡ Some b → x ≡ y → a ≡ b
told_once told x y a b one other same = some_same a b (sym one ∙ ap told same ∙ other)

told_some_ref : (base : List ℕ) (name : RefName) → name.columns ≢ [] → told_ref base (ref_iri base name) ≡ Some name
told_some_ref base name some = go name.columns refl where
  go : (columns : List (List ℕ)) → name.columns ≡ columns → told_ref base (ref_iri base name) ≡ Some name
  go [] e = absurd (some e)
  go (column ∷ columns) e =
      let same : ◌≡◌ {A = RefName} name (record { table = name.table; columns = column ∷ columns }) = λ i. record { table = name.table; columns = e i } in
      rw same (told_ref-ref base name.table column columns)

-- below one base the parts are the same
pub same_part : (base a b : List ℕ) → base ++ a ≡ base ++ b → a ≡ b
same_part base a b same = some_same a b (sym (after-append base a) ∙ ap (after base) same ∙ after-append base b)

pub has_mark : (c : ℕ) (front back : List ℕ) → lacks c (front ++ c ∷ back) ≡ false
has_mark c [] back = rw (eqb-same c) refl
has_mark c (d ∷ front) back = elim (cases_Bool (eqb d c)) [
  | inl same ↦ rw same refl
  | inr other ↦ rw other (has_mark c front back)
]

number_sign_out : in_safe number_sign ≡ false
unfolding stays
number_sign_out = refl

semicolon_out : in_safe semicolon ≡ false
unfolding stays
semicolon_out = refl

equals_sign_out : in_safe equals_sign ≡ false
unfolding stays
equals_sign_out = refl

-- a safe form holds no mark
pub no_mark : (c : ℕ) (text front back : List ℕ) → in_safe c ≡ false → safe_form text ≡ front ++ c ∷ back → ⊥
no_mark c text front back out same = cc (sym (has_mark c front back) ∙ ap (lacks c) (sym same) ∙ form_lacks c text out)

table_is_no_local : (base table other rest : List ℕ) → table_iri base table ≡ base ++ (safe_form other ++ number_sign ∷ rest) → ⊥
table_is_no_local base table other rest same =
    no_mark number_sign table (safe_form other) rest number_sign_out (same_part base (safe_form table) (safe_form other ++ number_sign ∷ rest) same)

-- the parts round the number sign are the same
same_local : (base t a u b : List ℕ) → base ++ (safe_form t ++ number_sign ∷ a) ≡ base ++ (safe_form u ++ number_sign ∷ b) → (safe_form t ≡ safe_form u) × (a ≡ b)
same_local base t a u b same =
    let e : ◌≡◌ {A = Option (List ℕ × List ℕ)} (Some (safe_form t, a)) (Some (safe_form u, b)) =
    sym (local_parts-append base t a) ∙ ap (local_parts base) same ∙ local_parts-append base u b in
    let r : ◌≡◌ {A = List ℕ × List ℕ} (safe_form t, a) (safe_form u, b) = cc in
    (ap (λ (p : List ℕ × List ℕ). p.0) r, ap (λ (p : List ℕ × List ℕ). p.1) r)

-- the mark before a reference stays as it is
ref_mark_safe : (text : List ℕ) → safe_form (codes "ref-" ++ text) ≡ codes "ref-" ++ safe_form text
unfolding stays
ref_mark_safe text = refl

column_is_ref : (base : List ℕ) (a : ColumnName) (b : RefName) → b.columns ≢ [] → column_iri base a ≡ ref_iri base b
    → (column : List ℕ) × (b.columns ≡ column ∷ []) × (a ≡ record { table = b.table; column = codes "ref-" ++ column })
column_is_ref base a b some same = go b.columns refl where
  parts : (safe_form a.table ≡ safe_form b.table) × (safe_form a.column ≡ codes "ref-" ++ column_list b.columns)
  parts = same_local base a.table (safe_form a.column) b.table (codes "ref-" ++ column_list b.columns) same

  go : (columns : List (List ℕ)) → b.columns ≡ columns
      → (column : List ℕ) × (b.columns ≡ column ∷ []) × (a ≡ record { table = b.table; column = codes "ref-" ++ column })
  go [] e = absurd (some e)
  go (column ∷ []) e =
      let table = safe_form-injective a.table b.table parts.0 in
      let name : a.column ≡ codes "ref-" ++ column =
      safe_form-injective a.column (codes "ref-" ++ column) (parts.1 ∙ ap (λ (t : List (List ℕ)). codes "ref-" ++ column_list t) e ∙ sym (ref_mark_safe column)) in
      (column, e, λ i. record { table = table i; column = name i })
  go (column ∷ next ∷ columns) e =
      absurd (
      no_mark semicolon a.column (codes "ref-" ++ safe_form column) (column_list (next ∷ columns)) semicolon_out
      (parts.1 ∙ ap (λ (t : List (List ℕ)). codes "ref-" ++ column_list t) e ∙ sym (append_assoc (codes "ref-") (safe_form column) (semicolon ∷ column_list (next ∷ columns))))
      )

column_is_no_rel : (base : List ℕ) (a : ColumnName) (b : RelName) → column_iri base a ≡ rel_iri base b → ⊥
column_is_no_rel base a b same =
    let right = semicolon ∷ pairing b.right b.right_target in
    let parts = same_local base a.table (safe_form a.column) b.table (codes "rel-" ++ (pairing b.left b.left_target ++ right)) same in
    no_mark equals_sign a.column (codes "rel-" ++ safe_form b.left) (safe_form b.left_target ++ right) equals_sign_out (
    parts.1
    ∙ ap (λ (t : List ℕ). codes "rel-" ++ t) (append_assoc (safe_form b.left) (equals_sign ∷ safe_form b.left_target) right)
    ∙ sym (append_assoc (codes "rel-") (safe_form b.left) (equals_sign ∷ (safe_form b.left_target ++ right)))
    )

marks_differ : (a b : List ℕ) → codes "ref-" ++ a ≡ codes "rel-" ++ b → ⊥
marks_differ a b same = let h : true ≡ false = ap (λ (t : List ℕ). eqb (get_or t 2 0) 102) same in cc h

ref_is_no_rel : (base : List ℕ) (a : RefName) (b : RelName) → ref_iri base a ≡ rel_iri base b → ⊥
ref_is_no_rel base a b same =
    let parts = same_local base a.table (codes "ref-" ++ column_list a.columns) b.table
    (codes "rel-" ++ (pairing b.left b.left_target ++ semicolon ∷ pairing b.right b.right_target)) same in
    marks_differ (column_list a.columns) (pairing b.left b.left_target ++ semicolon ∷ pairing b.right b.right_target) parts.1

pub names_apart : (base : List ℕ) → NamesApart base
names_apart base = record {
  tables = λ a b same. told_once (told_table base) (table_iri base a) (table_iri base b) a b (told_table-table base a) (told_table-table base b) same;
  columns = λ a b same. told_once (told_column base) (column_iri base a) (column_iri base b) a b (told_column-column base a) (told_column-column base b) same;
  refs = λ a b some_a some_b same. told_once (told_ref base) (ref_iri base a) (ref_iri base b) a b (told_some_ref base a some_a) (told_some_ref base b some_b) same;
  rels = λ a b same. told_once (told_rel base) (rel_iri base a) (rel_iri base b) a b (told_rel-rel base a) (told_rel-rel base b) same;
  table_column = λ a b same. table_is_no_local base a b.table (safe_form b.column) same;
  table_ref = λ a b same. table_is_no_local base a b.table (codes "ref-" ++ column_list b.columns) same;
  table_rel = λ a b same. table_is_no_local base a b.table (codes "rel-" ++ (pairing b.left b.left_target ++ semicolon ∷ pairing b.right b.right_target)) same;
  column_ref = column_is_ref base;
  column_rel = column_is_no_rel base;
  ref_rel = ref_is_no_rel base;
}
