-- Which names an IRI tells: the inverse of the makers, as functions of the text.
use Rattle.std.specs.Prelude.{ℕ, ◌==◌, ◌≡◌, ◌≢◌, IsTrue, MatchOption, ◌&&◌, Bool, false, not, List, [], ◌∷◌, Option, Some, None, if◌then◌else◌, codes, chars, encode_utf8_all, nat_eq, option_and_then}
use Rattle.std.specs.Cmp.Lexicographic.{pointwise}
use Rattle.std.specs.List.{list_all, slice_split}
use Rattle.percent_encoding.specs.Percent.{percent_decode}
use Rattle.names_dm.specs.IriSafe.{safe_form}
use Rattle.names_dm.specs.Names.{equals_sign, number_sign, semicolon}
use Rattle.names_dm.specs.declared.names.ColumnName.{ColumnName}
use Rattle.names_dm.specs.declared.names.RefName.{RefName}
use Rattle.names_dm.specs.declared.names.RelName.{RelName}

-- the text with its escapes read
unfoldable pub decoded : List ℕ → List ℕ
decoded text = chars (percent_decode (encode_utf8_all text))

-- the text whose safe form this is
unfoldable pub unsafe_form : List ℕ → Option (List ℕ)
unsafe_form text = if pointwise nat_eq (safe_form (decoded text)) text then Some (decoded text) else None

-- ---- parts of a text

-- what stands after the front
abbrev pub after : List ℕ → List ℕ → Option (List ℕ)
after [] text = Some text
after (c ∷ front) [] = None
after (c ∷ front) (d ∷ text) = if c == d then after front text else None

abbrev pub before_more : ℕ → Option (List ℕ × List ℕ) → Option (List ℕ × List ℕ)
before_more d None = None
before_more d (Some parts) = Some (d ∷ parts.0, parts.1)

-- what stands before and after the first c
abbrev pub cut_at : ℕ → List ℕ → Option (List ℕ × List ℕ)
cut_at c [] = None
cut_at c (d ∷ text) = if d == c then Some ([], text) else before_more d (cut_at c text)

-- what stands before and after the number sign, behind the base
unfoldable pub local_parts : List ℕ → List ℕ → Option (List ℕ × List ℕ)
local_parts base iri = option_and_then (cut_at number_sign) (after base iri)

-- ---- all texts that an IRI tells

unfoldable pub told_table : List ℕ → List ℕ → Option (List ℕ)
told_table base iri = option_and_then unsafe_form (after base iri)

-- the texts of which both are the safe forms
abbrev pub both_texts : List ℕ × List ℕ → Option (List ℕ × List ℕ)
both_texts parts = option_and_then (λ column. option_and_then (λ target. Some (column, target)) (unsafe_form parts.1)) (unsafe_form parts.0)

abbrev pub column_of : List ℕ × List ℕ → Option ColumnName
column_of parts = option_and_then (λ pair. Some (record { table = pair.0; column = pair.1 })) (both_texts parts)

unfoldable pub told_column : List ℕ → List ℕ → Option ColumnName
told_column base iri = option_and_then column_of (local_parts base iri)

-- the texts of which these are the safe forms
abbrev pub texts_of : List (List ℕ) → Option (List (List ℕ))
texts_of [] = Some []
texts_of (form ∷ forms) = option_and_then (λ text. option_and_then (λ texts. Some (text ∷ texts)) (texts_of forms)) (unsafe_form form)

-- the texts between semicolons
unfoldable pub list_of : List ℕ → Option (List (List ℕ))
list_of text = texts_of (slice_split (λ c. c == semicolon) text)

abbrev pub ref_of : List ℕ × List ℕ → Option RefName
ref_of parts =
    option_and_then (λ table. option_and_then (λ columns. Some (record { table = table; columns = columns })) (option_and_then list_of (after (codes "ref-") parts.1))) (unsafe_form parts.0)

unfoldable pub told_ref : List ℕ → List ℕ → Option RefName
told_ref base iri = option_and_then ref_of (local_parts base iri)

-- the texts on both sides of an equals sign
unfoldable pub pairing_of : List ℕ → Option (List ℕ × List ℕ)
pairing_of text = option_and_then both_texts (cut_at equals_sign text)

-- the pairings on both sides of a semicolon
abbrev pub both_pairings : List ℕ × List ℕ → Option ((List ℕ × List ℕ) × (List ℕ × List ℕ))
both_pairings parts = option_and_then (λ left. option_and_then (λ right. Some (left, right)) (pairing_of parts.1)) (pairing_of parts.0)

unfoldable pub pairings_of : List ℕ → Option ((List ℕ × List ℕ) × (List ℕ × List ℕ))
pairings_of text = option_and_then both_pairings (cut_at semicolon text)

abbrev pub rel_name : List ℕ → (List ℕ × List ℕ) × (List ℕ × List ℕ) → RelName
rel_name table sides = record { table = table; left = sides.0.0; left_target = sides.0.1; right = sides.1.0; right_target = sides.1.1 }

abbrev pub rel_of : List ℕ × List ℕ → Option RelName
rel_of parts =
    option_and_then (λ table. option_and_then (λ sides. Some (rel_name table sides)) (option_and_then pairings_of (after (codes "rel-") parts.1))) (unsafe_form parts.0)

unfoldable pub told_rel : List ℕ → List ℕ → Option RelName
told_rel base iri = option_and_then rel_of (local_parts base iri)

-- ---- names alone

-- a name is not empty and doesn't begin with U+FEFF
abbrev pub is_name : List ℕ → Bool
is_name [] = false
is_name (c ∷ cs) = not (c == 0xFEFF)

abbrev pub is_column_name : ColumnName → Bool
is_column_name name = is_name name.table && is_name name.column

-- one or more names
abbrev pub are_names : List (List ℕ) → Bool
are_names [] = false
are_names (name ∷ names) = is_name name && list_all is_name names

abbrev pub is_ref_name : RefName → Bool
is_ref_name name = is_name name.table && are_names name.columns

abbrev pub is_rel_name : RelName → Bool
is_rel_name name = is_name name.table && is_name name.left && is_name name.left_target && is_name name.right && is_name name.right_target

-- what passes the test
abbrev pub only : {A : Type 0} → (A → Bool) → Option A → Option A
only test None = None
only test (Some x) = if test x then Some x else None

unfoldable pub read_table : List ℕ → List ℕ → Option (List ℕ)
read_table base iri = only is_name (told_table base iri)

unfoldable pub read_column : List ℕ → List ℕ → Option ColumnName
read_column base iri = only is_column_name (told_column base iri)

unfoldable pub read_ref : List ℕ → List ℕ → Option RefName
read_ref base iri = only is_ref_name (told_ref base iri)

unfoldable pub read_rel : List ℕ → List ℕ → Option RelName
read_rel base iri = only is_rel_name (told_rel base iri)

-- what is found is a name that passes the test and whose text this is; where nothing is found there is none
abbrev pub Tells : {A : Type 0} → (A → Bool) → (A → List ℕ) → List ℕ → Option A → Type 0
Tells {A} test made text found =
    MatchOption found ((name : A) → IsTrue (test name) → made name ≢ text) (λ name. IsTrue (test name) × (made name ≡ text))
