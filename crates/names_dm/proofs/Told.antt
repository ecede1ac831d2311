-- An IRI tells the names that made it, and no others.
use Rattle.std.proofs.Common.{◌≡◌, ◌∙◌, ◌++◌, ◌∷◌, [], ℕ, List, true, false, eqb, refl, sym, ap, Option, Some, None, map}
use Rattle.std.specs.Prelude.{codes, option_and_then}
use Rattle.std.specs.List.{join_with_byte, slice_split}
use Rattle.std.proofs.lemmas.List.Splits.{join_with_byte-slice_split}
use Rattle.names_dm.specs.declared.names.ColumnName.{ColumnName}
use Rattle.names_dm.specs.declared.names.RefName.{RefName}
use Rattle.names_dm.specs.declared.names.RelName.{RelName}
use Rattle.names_dm.specs.IriSafe.{safe_form, stays}
use Rattle.names_dm.specs.Names.{column_iri, column_list, equals_sign, number_sign, pairing, ref_iri, rel_iri, semicolon, table_iri}
use Rattle.names_dm.specs.Reading.{after, both_pairings, both_texts, column_of, cut_at, list_of, local_parts, pairing_of, pairings_of, ref_of, rel_name, rel_of, texts_of, told_column, told_ref, told_rel, told_table, unsafe_form}
use Rattle.names_dm.proofs.Parts.{after-append, append-after, append-cut_at, cut_at-append, lacks, lacks-append, safe_lacks, split-append, split-lacks}
use Rattle.names_dm.proofs.ReadBack.{safe_form-unsafe_form, unsafe_form-safe_form}
use Rattle.names_dm.proofs.SafeForms.{all_in_safe, in_safe}

pub number_sign_out : in_safe number_sign ≡ false
unfolding stays
number_sign_out = refl

semicolon_out : in_safe semicolon ≡ false
unfolding stays
semicolon_out = refl

equals_sign_out : in_safe equals_sign ≡ false
unfolding stays
equals_sign_out = refl

pub form_lacks : (c : ℕ) (text : List ℕ) → in_safe c ≡ false → lacks c (safe_form text) ≡ true
form_lacks c text none = safe_lacks c (safe_form text) none (all_in_safe text)

pub local_parts-append : (base table rest : List ℕ) → ◌≡◌ {A = Option (List ℕ × List ℕ)} (local_parts base (base ++ (safe_form table ++ number_sign ∷ rest))) (Some (safe_form table, rest))
unfolding local_parts
local_parts-append base table rest =
    rw (after-append base (safe_form table ++ number_sign ∷ rest)) (cut_at-append number_sign (safe_form table) rest (form_lacks number_sign table number_sign_out))

-- ---- makers, then readers

pub told_table-table : (base table : List ℕ) → told_table base (table_iri base table) ≡ Some table
unfolding told_table
told_table-table base table = rw (after-append base (safe_form table)) (unsafe_form-safe_form table)

pub told_column-column : (base : List ℕ) (name : ColumnName) → told_column base (column_iri base name) ≡ Some name
unfolding told_column
told_column-column base name =
    rw (local_parts-append base name.table (safe_form name.column), unsafe_form-safe_form name.table, unsafe_form-safe_form name.column) refl

split-column_list : (column : List ℕ) (columns : List (List ℕ)) → slice_split (λ c. eqb c semicolon) (column_list (column ∷ columns)) ≡ map safe_form (column ∷ columns)
split-column_list column [] = split-lacks semicolon (safe_form column) (form_lacks semicolon column semicolon_out)
split-column_list column (next ∷ columns) =
    split-append semicolon (safe_form column) (column_list (next ∷ columns)) (form_lacks semicolon column semicolon_out)
    ∙ ap (λ (t : List (List ℕ)). safe_form column ∷ t) (split-column_list next columns)

texts_of-map : (texts : List (List ℕ)) → texts_of (map safe_form texts) ≡ Some texts
texts_of-map [] = refl
texts_of-map (text ∷ texts) = rw (unsafe_form-safe_form text, texts_of-map texts) refl

list_of-column_list : (column : List ℕ) (columns : List (List ℕ)) → list_of (column_list (column ∷ columns)) ≡ Some (column ∷ columns)
unfolding list_of
list_of-column_list column columns = ap texts_of (split-column_list column columns) ∙ texts_of-map (column ∷ columns)

pub told_ref-ref : (base table column : List ℕ) (columns : List (List ℕ))
    → told_ref base (ref_iri base record { table = table; columns = column ∷ columns }) ≡ Some (record { table = table; columns = column ∷ columns })
unfolding told_ref
told_ref-ref base table column columns =
    rw (
      local_parts-append base table (codes "ref-" ++ column_list (column ∷ columns)),
      unsafe_form-safe_form table,
      list_of-column_list column columns,
    )
    refl

pairing_of-pairing : (column target : List ℕ) → ◌≡◌ {A = Option (List ℕ × List ℕ)} (pairing_of (pairing column target)) (Some (column, target))
unfolding pairing_of
pairing_of-pairing column target =
    rw (cut_at-append equals_sign (safe_form column) (safe_form target) (form_lacks equals_sign column equals_sign_out), unsafe_form-safe_form column, unsafe_form-safe_form target) refl

pairings_of-pairings : (left left_target right right_target : List ℕ)
    → ◌≡◌ {A = Option ((List ℕ × List ℕ) × (List ℕ × List ℕ))} (pairings_of (pairing left left_target ++ semicolon ∷ pairing right right_target)) (Some ((left, left_target), (right, right_target)))
unfolding pairings_of
pairings_of-pairings left left_target right right_target =
    rw (
      cut_at-append semicolon (pairing left left_target) (pairing right right_target)
          (lacks-append semicolon equals_sign (safe_form left) (safe_form left_target) (form_lacks semicolon left semicolon_out) refl (form_lacks semicolon left_target semicolon_out)),
      pairing_of-pairing left left_target,
      pairing_of-pairing right right_target,
    )
    refl

pub told_rel-rel : (base : List ℕ) (name : RelName) → told_rel base (rel_iri base name) ≡ Some name
unfolding told_rel
told_rel-rel base name =
    let sides = pairing name.left name.left_target ++ semicolon ∷ pairing name.right name.right_target in
    rw (
      local_parts-append base name.table (codes "rel-" ++ sides),
      unsafe_form-safe_form name.table,
      pairings_of-pairings name.left name.left_target name.right name.right_target,
    )
    refl

-- ---- readers, then makers

told_by : {A B : Type 0} (f : A → Option B) (r : Option A) (b : B) → option_and_then f r ≡ Some b → (a : A) × (r ≡ Some a) × (f a ≡ Some b)
told_by f None b told = cc told
told_by f (Some a) b told = (a, refl, told)

pub table_iri-told : (base iri table : List ℕ) → told_table base iri ≡ Some table → table_iri base table ≡ iri
unfolding told_table
table_iri-told base iri table told =
    let h = told_by unsafe_form (after base iri) table told in
    ap (λ (t : List ℕ). base ++ t) (safe_form-unsafe_form h.0 table h.2) ∙ append-after base iri h.0 h.1

whole_of-local_parts : (base iri : List ℕ) (parts : List ℕ × List ℕ) → local_parts base iri ≡ Some parts → base ++ (parts.0 ++ number_sign ∷ parts.1) ≡ iri
unfolding local_parts
whole_of-local_parts base iri parts told =
    let h = told_by (cut_at number_sign) (after base iri) parts told in
    ap (λ (t : List ℕ). base ++ t) (append-cut_at number_sign h.0 parts.0 parts.1 h.2) ∙ append-after base iri h.0 h.1

some_same : {A : Type 0} (x y : A) → Some x ≡ Some y → x ≡ y
some_same x y e = cc

-- the two safe forms round a number sign, put together
joined_parts : (base iri a b x y : List ℕ) → a ≡ x → b ≡ y → base ++ (x ++ number_sign ∷ y) ≡ iri → base ++ (a ++ number_sign ∷ b) ≡ iri
joined_parts base iri a b x y one other whole = rw (one, other) whole

-- both safe forms are those of the pair
both_forms : (parts pair : List ℕ × List ℕ) → ◌≡◌ {A = Option (List ℕ × List ℕ)} (both_texts parts) (Some pair) → (safe_form pair.0 ≡ parts.0) × (safe_form pair.1 ≡ parts.1)
both_forms parts pair told =
    let one = told_by (λ one. option_and_then (λ other. Some (one, other)) (unsafe_form parts.1)) (unsafe_form parts.0) pair told in
    let other = told_by (λ other. Some (one.0, other)) (unsafe_form parts.1) pair one.2 in
    let made : List ℕ × List ℕ = (one.0, other.0) in
    let same : made ≡ pair = some_same made pair other.2 in (
      ap (λ (p : List ℕ × List ℕ). safe_form p.0) (sym same) ∙ safe_form-unsafe_form parts.0 one.0 one.1,
      ap (λ (p : List ℕ × List ℕ). safe_form p.1) (sym same) ∙ safe_form-unsafe_form parts.1 other.0 other.1,
    )

pub column_iri-told : (base iri : List ℕ) (name : ColumnName) → told_column base iri ≡ Some name → column_iri base name ≡ iri
unfolding told_column
column_iri-told base iri name told =
    let parts = told_by column_of (local_parts base iri) name told in
    let column_name : List ℕ × List ℕ → Option ColumnName = λ pair. Some (record { table = pair.0; column = pair.1 }) in
    let pair = told_by column_name (both_texts parts.0) name parts.2 in
    let forms = both_forms parts.0 pair.0 pair.1 in
    let made : ColumnName = record { table = pair.0.0; column = pair.0.1 } in
    let same : made ≡ name = some_same made name pair.2 in
    ap (column_iri base) (sym same)
    ∙ joined_parts base iri (safe_form pair.0.0) (safe_form pair.0.1) parts.0.0 parts.0.1 forms.0 forms.1 (whole_of-local_parts base iri parts.0 parts.1)

map-texts_of : (forms texts : List (List ℕ)) → texts_of forms ≡ Some texts → map safe_form texts ≡ forms
map-texts_of [] texts told = ap (map safe_form) (sym (some_same [] texts told))
map-texts_of (form ∷ forms) texts told =
    let text = told_by (λ text. option_and_then (λ more. Some (text ∷ more)) (texts_of forms)) (unsafe_form form) texts told in
    let more = told_by (λ more. Some (text.0 ∷ more)) (texts_of forms) texts text.2 in
    ap (map safe_form) (sym (some_same (text.0 ∷ more.0) texts more.2))
    ∙ rw (safe_form-unsafe_form form text.0 text.1, map-texts_of forms more.0 more.1) refl

column_list-list_of : (text : List ℕ) (columns : List (List ℕ)) → list_of text ≡ Some columns → column_list columns ≡ text
unfolding list_of
column_list-list_of text columns told =
    ap (join_with_byte semicolon) (map-texts_of (slice_split (λ c. eqb c semicolon) text) columns told) ∙ join_with_byte-slice_split semicolon text

pub ref_iri-told : (base iri : List ℕ) (name : RefName) → told_ref base iri ≡ Some name → ref_iri base name ≡ iri
unfolding told_ref
ref_iri-told base iri name told =
    let parts = told_by ref_of (local_parts base iri) name told in
    let list = option_and_then list_of (after (codes "ref-") parts.0.1) in
    let table = told_by (λ table. option_and_then (λ columns. Some (record { table = table; columns = columns })) list) (unsafe_form parts.0.0) name parts.2 in
    let columns = told_by (λ columns. Some (record { table = table.0; columns = columns })) list name table.2 in
    let rest = told_by list_of (after (codes "ref-") parts.0.1) columns.0 columns.1 in
    let made : RefName = record { table = table.0; columns = columns.0 } in
    let same : made ≡ name = some_same made name columns.2 in
    let local : codes "ref-" ++ column_list columns.0 ≡ parts.0.1 =
    ap (λ (t : List ℕ). codes "ref-" ++ t) (column_list-list_of rest.0 columns.0 rest.2) ∙ append-after (codes "ref-") parts.0.1 rest.0 rest.1 in
    ap (ref_iri base) (sym same)
    ∙ joined_parts base iri (safe_form table.0) (codes "ref-" ++ column_list columns.0) parts.0.0 parts.0.1 (safe_form-unsafe_form parts.0.0 table.0 table.1) local
    (whole_of-local_parts base iri parts.0 parts.1)

pairing-pairing_of : (text : List ℕ) (pair : List ℕ × List ℕ) → pairing_of text ≡ Some pair → pairing pair.0 pair.1 ≡ text
unfolding pairing_of
pairing-pairing_of text pair told =
    let parts = told_by both_texts (cut_at equals_sign text) pair told in
    let forms = both_forms parts.0 pair parts.2 in
    rw (forms.0, forms.1) (append-cut_at equals_sign text parts.0.0 parts.0.1 parts.1)

-- both pairings, put together
two_pairings : (List ℕ × List ℕ) × (List ℕ × List ℕ) → List ℕ
two_pairings sides = pairing sides.0.0 sides.0.1 ++ semicolon ∷ pairing sides.1.0 sides.1.1

pairings-pairings_of : (text : List ℕ) (sides : (List ℕ × List ℕ) × (List ℕ × List ℕ)) → pairings_of text ≡ Some sides → two_pairings sides ≡ text
unfolding pairings_of two_pairings
pairings-pairings_of text sides told =
    let parts = told_by both_pairings (cut_at semicolon text) sides told in
    let left = told_by (λ left. option_and_then (λ right. Some (left, right)) (pairing_of parts.0.1)) (pairing_of parts.0.0) sides parts.2 in
    let right = told_by (λ right. Some (left.0, right)) (pairing_of parts.0.1) sides left.2 in
    let made : (List ℕ × List ℕ) × (List ℕ × List ℕ) = (left.0, right.0) in
    let same : made ≡ sides = some_same made sides right.2 in
    ap two_pairings (sym same)
    ∙ rw (pairing-pairing_of parts.0.0 left.0 left.1, pairing-pairing_of parts.0.1 right.0 right.1) (append-cut_at semicolon text parts.0.0 parts.0.1 parts.1)

pub rel_iri-told : (base iri : List ℕ) (name : RelName) → told_rel base iri ≡ Some name → rel_iri base name ≡ iri
unfolding told_rel two_pairings
rel_iri-told base iri name told =
    let parts = told_by rel_of (local_parts base iri) name told in
    let pairings = option_and_then pairings_of (after (codes "rel-") parts.0.1) in
    let table = told_by (λ table. option_and_then (λ sides. Some (rel_name table sides)) pairings) (unsafe_form parts.0.0) name parts.2 in
    let sides = told_by (λ sides. Some (rel_name table.0 sides)) pairings name table.2 in
    let rest = told_by pairings_of (after (codes "rel-") parts.0.1) sides.0 sides.1 in
    let made : RelName = rel_name table.0 sides.0 in
    let same : made ≡ name = some_same made name sides.2 in
    let local : codes "rel-" ++ two_pairings sides.0 ≡ parts.0.1 =
    ap (λ (t : List ℕ). codes "rel-" ++ t) (pairings-pairings_of rest.0 sides.0 rest.2) ∙ append-after (codes "rel-") parts.0.1 rest.0 rest.1 in
    ap (rel_iri base) (sym same)
    ∙ joined_parts base iri (safe_form table.0) (codes "rel-" ++ two_pairings sides.0) parts.0.0 parts.0.1 (safe_form-unsafe_form parts.0.0 table.0 table.1) local
    (whole_of-local_parts base iri parts.0 parts.1)
