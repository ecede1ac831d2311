-- The keys of rows in their IRIs.
use Rattle.std.proofs.Common.{◌≡◌, ◌∙◌, ◌++◌, ◌∷◌, [], ℕ, List, Bool, true, false, eqb, refl, sym, ap, append_assoc, map, Option, Some}
use Rattle.std.specs.Prelude.{codes, if◌then◌else◌}
use Rattle.std.proofs.lemmas.List.{map-append}
use Rattle.std.specs.List.{join_with_byte, slice_split}
use Rattle.value_dm.specs.Kinds.{kind_of}
use Rattle.value_dm.specs.Lawful.{IsLawful}
use Rattle.value_dm.specs.Lexical.{lexical_form}
use Rattle.value_dm.proofs.Values.{lexical_form_one}
use Rattle.names_dm.specs.declared.key.KeyPart.{KeyPart}
use Rattle.names_dm.specs.declared.names.RefName.{RefName}
use Rattle.names_dm.specs.IriSafe.{safe_form, stays}
use Rattle.names_dm.specs.Names.{column_list, equals_sign, number_sign, pairing, semicolon}
use Rattle.names_dm.specs.Reading.{cut_at}
use Rattle.names_dm.specs.Rows.{AreLawful, RowsApart, SameKinds, key_list, key_pair, row_iri, slash}
use Rattle.names_dm.proofs.Lists.{join-push}
use Rattle.names_dm.proofs.NamesApart.{has_mark, no_mark, same_part}
use Rattle.names_dm.proofs.Parts.{cut_at-append, lacks, lacks-append, split-append, split-lacks}
use Rattle.names_dm.proofs.ReadBack.{safe_form-injective}
use Rattle.names_dm.proofs.SafeForms.{in_safe}
use Rattle.names_dm.proofs.Told.{form_lacks, number_sign_out}
use Rattle.names_dm.proofs.Words.{is_empty_list}

is_empty-map : (key : List KeyPart) → is_empty_list (map key_pair key) ≡ is_empty_list key
is_empty-map [] = refl
is_empty-map (part ∷ key) = refl

pub key_list-push : (key : List KeyPart) (part : KeyPart) → key_list (key ++ part ∷ []) ≡ key_list key ++ ((if is_empty_list key then [] else semicolon ∷ []) ++ key_pair part)
key_list-push key part =
    ap (join_with_byte semicolon) (map-append key_pair key (part ∷ [])) ∙ join-push semicolon (map key_pair key) (key_pair part)
    ∙ ap (λ (b : Bool). key_list key ++ ((if b then [] else semicolon ∷ []) ++ key_pair part)) (is_empty-map key)

pub is_empty-key_push : (key : List KeyPart) (part : KeyPart) → false ≡ is_empty_list (key ++ part ∷ [])
is_empty-key_push [] part = refl
is_empty-key_push (one ∷ key) part = refl

pub AreLawful-push : (key : List KeyPart) (part : KeyPart) → AreLawful key → IsLawful part.value → AreLawful (key ++ part ∷ [])
AreLawful-push [] part all one = (one, tt)
AreLawful-push (first ∷ key) part all one = (all.0, AreLawful-push key part all.1 one)

-- ---- different rows

semicolon_out : in_safe semicolon ≡ false
unfolding stays
semicolon_out = refl

equals_sign_out : in_safe equals_sign ≡ false
unfolding stays
equals_sign_out = refl

slash_out : in_safe slash ≡ false
unfolding stays
slash_out = refl

pair_lacks : (c : ℕ) (part : KeyPart) → in_safe c ≡ false → eqb equals_sign c ≡ false → lacks c (key_pair part) ≡ true
unfolding key_pair
pair_lacks c part out other =
    lacks-append c equals_sign (safe_form part.column) (safe_form (lexical_form part.value)) (form_lacks c part.column out) other (form_lacks c (lexical_form part.value) out)

split-key_list : (part : KeyPart) (key : List KeyPart) → slice_split (λ c. eqb c semicolon) (key_list (part ∷ key)) ≡ map key_pair (part ∷ key)
split-key_list part [] = split-lacks semicolon (key_pair part) (pair_lacks semicolon part semicolon_out refl)
split-key_list part (next ∷ key) =
    split-append semicolon (key_pair part) (key_list (next ∷ key)) (pair_lacks semicolon part semicolon_out refl)
    ∙ ap (λ (t : List (List ℕ)). key_pair part ∷ t) (split-key_list next key)

-- cut at the same mark, both sides are the same
same_sides : (c : ℕ) (a b x y : List ℕ) → lacks c a ≡ true → lacks c x ≡ true → a ++ c ∷ b ≡ x ++ c ∷ y → (a ≡ x) × (b ≡ y)
same_sides c a b x y none_a none_x same =
    let e : ◌≡◌ {A = Option (List ℕ × List ℕ)} (Some (a, b)) (Some (x, y)) = sym (cut_at-append c a b none_a) ∙ ap (cut_at c) same ∙ cut_at-append c x y none_x in
    let r : ◌≡◌ {A = List ℕ × List ℕ} (a, b) (x, y) = cc in
    (ap (λ (p : List ℕ × List ℕ). p.0) r, ap (λ (p : List ℕ × List ℕ). p.1) r)

same_part_of_key : (a b : KeyPart) → IsLawful a.value → IsLawful b.value → kind_of a.value ≡ kind_of b.value → key_pair a ≡ key_pair b → a ≡ b
unfolding key_pair
same_part_of_key a b lawful_a lawful_b kinds same =
    let sides = same_sides equals_sign (safe_form a.column) (safe_form (lexical_form a.value)) (safe_form b.column) (safe_form (lexical_form b.value))
    (form_lacks equals_sign a.column equals_sign_out) (form_lacks equals_sign b.column equals_sign_out) same in
    let column = safe_form-injective a.column b.column sides.0 in
    let form = safe_form-injective (lexical_form a.value) (lexical_form b.value) sides.1 in
    let value = lexical_form_one a.value b.value lawful_a lawful_b kinds form in
    λ i. record { column = column i; value = value i }

same_pairs : (a b : List KeyPart) → AreLawful a → AreLawful b → SameKinds a b → map key_pair a ≡ map key_pair b → a ≡ b
same_pairs [] [] lawful_a lawful_b kinds same = refl
same_pairs [] (y ∷ b) lawful_a lawful_b kinds same = cc same
same_pairs (x ∷ a) [] lawful_a lawful_b kinds same = cc same
same_pairs (x ∷ a) (y ∷ b) lawful_a lawful_b kinds same =
    let pair : key_pair x ≡ key_pair y = cc in
    let pairs : map key_pair a ≡ map key_pair b = cc in
    let head = same_part_of_key x y lawful_a.0 lawful_b.0 kinds.0 pair in
    let tail = same_pairs a b lawful_a.1 lawful_b.1 kinds.1 pairs in
    λ i. head i ∷ tail i

-- a key with a part has an equals sign in its text
has_equals_sign : (part : KeyPart) (key : List KeyPart) → lacks equals_sign (key_list (part ∷ key)) ≡ false
unfolding key_pair
has_equals_sign part [] = has_mark equals_sign (safe_form part.column) (safe_form (lexical_form part.value))
has_equals_sign part (next ∷ key) =
    let rest = semicolon ∷ key_list (next ∷ key) in
    ap (lacks equals_sign) (append_assoc (safe_form part.column) (equals_sign ∷ safe_form (lexical_form part.value)) rest)
    ∙ has_mark equals_sign (safe_form part.column) (safe_form (lexical_form part.value) ++ rest)

same_key : (a b : List KeyPart) → AreLawful a → AreLawful b → SameKinds a b → key_list a ≡ key_list b → a ≡ b
same_key [] [] lawful_a lawful_b kinds same = refl
same_key [] (y ∷ b) lawful_a lawful_b kinds same = cc (ap (lacks equals_sign) same ∙ has_equals_sign y b)
same_key (x ∷ a) [] lawful_a lawful_b kinds same = cc (sym (has_equals_sign x a) ∙ ap (lacks equals_sign) same)
same_key (x ∷ a) (y ∷ b) lawful_a lawful_b kinds same =
    same_pairs (x ∷ a) (y ∷ b) lawful_a lawful_b kinds (sym (split-key_list x a) ∙ ap (slice_split (λ c. eqb c semicolon)) same ∙ split-key_list y b)

row_sides : (base t u : List ℕ) (a b : List KeyPart) → row_iri base t a ≡ row_iri base u b → (t ≡ u) × (key_list a ≡ key_list b)
row_sides base t u a b same =
    let sides = same_sides slash (safe_form t) (key_list a) (safe_form u) (key_list b) (form_lacks slash t slash_out) (form_lacks slash u slash_out)
    (same_part base (safe_form t ++ slash ∷ key_list a) (safe_form u ++ slash ∷ key_list b) same) in
    (safe_form-injective t u sides.0, sides.1)

-- whatever the keys
pub same_table : (base t u : List ℕ) (a b : List KeyPart) → row_iri base t a ≡ row_iri base u b → t ≡ u
same_table base t u a b same = (row_sides base t u a b same).0

pub same_row : (base t u : List ℕ) (a b : List KeyPart) → AreLawful a → AreLawful b → SameKinds a b → row_iri base t a ≡ row_iri base u b → (t ≡ u) × (a ≡ b)
same_row base t u a b lawful_a lawful_b kinds same =
    let sides = row_sides base t u a b same in
    (sides.0, same_key a b lawful_a lawful_b kinds sides.1)

-- ---- rows and other names

key_list_lacks : (key : List KeyPart) → lacks number_sign (key_list key) ≡ true
key_list_lacks [] = refl
key_list_lacks (part ∷ []) = pair_lacks number_sign part number_sign_out refl
key_list_lacks (part ∷ next ∷ key) =
    lacks-append number_sign semicolon (key_pair part) (key_list (next ∷ key)) (pair_lacks number_sign part number_sign_out refl) refl (key_list_lacks (next ∷ key))

row_is_no_local : (base table : List ℕ) (key : List KeyPart) (other rest : List ℕ) → row_iri base table key ≡ base ++ (safe_form other ++ number_sign ∷ rest) → ⊥
row_is_no_local base table key other rest same =
    let part = same_part base (safe_form table ++ slash ∷ key_list key) (safe_form other ++ number_sign ∷ rest) same in
    let none : lacks number_sign (safe_form table ++ slash ∷ key_list key) ≡ true =
    lacks-append number_sign slash (safe_form table) (key_list key) (form_lacks number_sign table number_sign_out) refl (key_list_lacks key) in
    cc (sym (has_mark number_sign (safe_form other) rest) ∙ ap (lacks number_sign) (sym part) ∙ none)

ref_is_local : (base table : List ℕ) (key : List KeyPart) (other : RefName) → row_iri base table key ≡ base ++ (safe_form other.table ++ number_sign ∷ (codes "ref-" ++ column_list other.columns)) → ⊥
ref_is_local base table key other same = row_is_no_local base table key other.table (codes "ref-" ++ column_list other.columns) same

pub rows_apart : (base : List ℕ) → RowsApart base
rows_apart base = record {
  row_table = λ table key other same.
      no_mark slash other (safe_form table) (key_list key) slash_out (sym (same_part base (safe_form table ++ slash ∷ key_list key) (safe_form other) same));
  row_column = λ table key other same. row_is_no_local base table key other.table (safe_form other.column) same;
  row_ref = ref_is_local base;
  row_rel = λ table key other same.
      row_is_no_local base table key other.table (codes "rel-" ++ (pairing other.left other.left_target ++ semicolon ∷ pairing other.right other.right_target)) same;
}
