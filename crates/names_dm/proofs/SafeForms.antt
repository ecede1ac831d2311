-- What stands in a safe form, and that IRIs hold it.
use Rattle.std.proofs.Common.{◌≡◌, ◌∙◌, ◌++◌, ◌∷◌, ◌||◌, ◌&&◌, ◌<◌, ◌≤◌, ◌/◌, ◌%◌, [], ℕ, List, Bool, true, false, not, eqb, leb, refl, sym, ap, arith, inl, inr, flat_map}
use Rattle.std.proofs.lemmas.Bool.{cases_Bool, cases_lt, agree_below, agree_below_at, lt-leb, ltb-true}
use Rattle.std.proofs.lemmas.List.Folds.{list_all-append, list_any-append}
use Rattle.std.specs.Char.{encode_utf8}
use Rattle.std.specs.Fmt.{digit_glyph}
use Rattle.std.specs.List.{list_all, list_any}
use Rattle.percent_encoding.specs.Percent.{percent_encode_byte}
use Rattle.std.specs.Str.{IsAscii}
use Rattle.std.proofs.lemmas.Str.Ascii.{IsAscii-nil}
use Rattle.names_dm.specs.Characters.{is_ascii}
use Rattle.names_dm.specs.IriSafe.{escapes, safe_character, safe_form, stays}
use Rattle.names_dm.specs.Namespaces.{is_base, is_empty_text, namespaces, one_begins}
use Rattle.names_dm.specs.Terminals.{is_forbidden, is_iri, is_mark}
use Rattle.names_dm.proofs.Ascii.{and_parts, apart, ascii_cons}

-- what stands in a safe form
abbrev pub in_safe : ℕ → Bool
in_safe c = stays c || eqb c 37

digits_stay : agree_below (λ d. in_safe (digit_glyph true d)) (λ d. true) 16 ≡ true
unfolding stays
digits_stay = refl

digit_stays : (d : ℕ) → d < 16 → in_safe (digit_glyph true d) ≡ true
digit_stays d small = agree_below_at (λ d. in_safe (digit_glyph true d)) (λ d. true) 16 d digits_stay small

percent_in : in_safe 37 ≡ true
unfolding stays
percent_in = refl

byte_in : (b : ℕ) → list_all in_safe (percent_encode_byte b) ≡ true
unfolding percent_encode_byte
byte_in b = rw (percent_in, digit_stays (b / 16 % 16) (omega arith), digit_stays (b % 16) (omega arith)) refl

pub list_all-both : (test : ℕ → Bool) (xs ys : List ℕ) → list_all test xs ≡ true → list_all test ys ≡ true → list_all test (xs ++ ys) ≡ true
list_all-both test xs ys one other = list_all-append test xs ys ∙ rw (one, other) refl

bytes_in : (bs : List ℕ) → list_all in_safe (flat_map percent_encode_byte bs) ≡ true
bytes_in [] = refl
bytes_in (b ∷ bs) = list_all-both in_safe (percent_encode_byte b) (flat_map percent_encode_byte bs) (byte_in b) (bytes_in bs)

character_in : (c : ℕ) → list_all in_safe (safe_character c) ≡ true
unfolding escapes
character_in c = elim (cases_Bool (stays c)) [
  | inl keeps ↦ rw (keeps, keeps) refl
  | inr gone ↦ rw gone (bytes_in (encode_utf8 c))
]

-- each character of a safe form stays for itself or is a percent sign
pub all_in_safe : (text : List ℕ) → list_all in_safe (safe_form text) ≡ true
all_in_safe [] = refl
all_in_safe (c ∷ cs) = list_all-both in_safe (safe_character c) (safe_form cs) (character_in c) (all_in_safe cs)

-- ---- IRIs

safe_or_forbidden : agree_below (λ c. not (in_safe c) || not (is_forbidden c)) (λ c. true) 128 ≡ true
unfolding stays
safe_or_forbidden = refl

not_both : (a b : Bool) → (not a || not b) ≡ true → a ≡ true → b ≡ false
not_both true true e f = sym e
not_both true false e f = refl
not_both false b e f = cc f

no_low : (a b : Bool) → b ≡ false → (a && b) ≡ false
no_low true b e = e
no_low false b e = refl

past_allowed : (c : ℕ) → 128 ≤ c → is_forbidden c ≡ false
past_allowed c large =
    rw (
      no_low (leb 0 c) (leb c 32) (lt-leb c 32 (omega arith)),
      apart c 60 (omega arith) large,
      apart c 62 (omega arith) large,
      apart c 34 (omega arith) large,
      apart c 123 (omega arith) large,
      apart c 125 (omega arith) large,
      apart c 124 (omega arith) large,
      apart c 94 (omega arith) large,
      apart c 96 (omega arith) large,
      apart c 92 (omega arith) large,
    )
    refl

allowed : (c : ℕ) → in_safe c ≡ true → is_forbidden c ≡ false
allowed c safe = elim (cases_lt c 128) [
  | inl small ↦ not_both _ _ (agree_below_at (λ c. not (in_safe c) || not (is_forbidden c)) (λ c. true) 128 c safe_or_forbidden small) safe
  | inr large ↦ past_allowed c large
]

none_forbidden : (text : List ℕ) → list_all in_safe text ≡ true → list_any is_forbidden text ≡ false
none_forbidden [] all = refl
none_forbidden (c ∷ cs) all =
    let h = and_parts (in_safe c) (list_all in_safe cs) all in
    rw (allowed c h.0) (none_forbidden cs h.1)

pub is_iri-safe_form : (text : List ℕ) → is_iri (safe_form text) ≡ true
unfolding is_iri
is_iri-safe_form text = ap not (none_forbidden (safe_form text) (all_in_safe text))

not_true : (a : Bool) → not a ≡ true → a ≡ false
not_true true e = sym e
not_true false e = refl

pub is_iri-append : (xs ys : List ℕ) → is_iri xs ≡ true → is_iri ys ≡ true → is_iri (xs ++ ys) ≡ true
unfolding is_iri
is_iri-append xs ys one other =
    rw (list_any-append is_forbidden xs ys, not_true (list_any is_forbidden xs) one, not_true (list_any is_forbidden ys) other) refl

pub is_iri-base : (base : List ℕ) → is_base base ≡ true → is_iri base ≡ true
unfolding is_base
is_iri-base base ok =
    let first = and_parts (not (is_empty_text base) && is_iri base) (not (list_any (one_begins base) namespaces)) ok in
    (and_parts (not (is_empty_text base)) (is_iri base) first.0).1

pub is_iri-marks : (marks : List ℕ) → list_all is_mark marks ≡ true → is_iri marks ≡ true
unfolding is_iri
is_iri-marks [] all = refl
is_iri-marks (c ∷ cs) all =
    let h = and_parts (is_mark c) (list_all is_mark cs) all in
    rw (not_true (is_forbidden c) (and_parts (is_ascii c) (not (is_forbidden c)) h.0).1) (is_iri-marks cs h.1)

pub marks_ascii : (marks : List ℕ) → list_all is_mark marks ≡ true → IsAscii marks
marks_ascii [] all = IsAscii-nil
marks_ascii (c ∷ cs) all =
    let h = and_parts (is_mark c) (list_all is_mark cs) all in
    ascii_cons c cs (ltb-true c 128 (and_parts (is_ascii c) (not (is_forbidden c)) h.0).0) (marks_ascii cs h.1)
