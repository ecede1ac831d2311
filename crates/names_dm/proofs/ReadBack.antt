-- A safe form reads back.
use Rattle.std.proofs.Common.{◌≡◌, ◌≢◌, ◌∙◌, ◌++◌, ◌∷◌, ◌||◌, ◌&&◌, ◌<◌, [], ℕ, List, Bool, true, false, leb, ltb, refl, sym, ap, arith, inl, inr, append_assoc, Option, Some, None, encode_utf8_all, chars, nat_eq, flat_map}
use Rattle.std.specs.Prelude.{if◌then◌else◌}
use Rattle.std.proofs.lemmas.Bool.{cases_Bool, cases_lt, leb-false, le-leb, lt-ltb, le-ltb, ltb-false}
use Rattle.std.proofs.lemmas.List.{append-nil}
use Rattle.std.proofs.Math.Utf8.{scalar, scalars}
use Rattle.std.proofs.lemmas.Str.{encodes-append, encodes-chars, scalars-chars}
use Rattle.std.specs.Str.{IsUtf8}
use Rattle.std.specs.Char.{encode_utf8}
use Rattle.std.specs.Cmp.Lexicographic.{bytes_decides, pointwise}
use Rattle.percent_encoding.specs.Percent.{percent_decode, percent_encode_byte}
use Rattle.percent_encoding.proofs.PercentLemmas.{percent_decode-nil, percent_decode-percent_encode_byte, percent_decode_not_percent}
use Rattle.names_dm.specs.IriSafe.{escapes, is_iri_character, is_no_character, is_unreserved, safe_character, safe_form, stays}
use Rattle.names_dm.specs.Reading.{decoded, unsafe_form}
use Rattle.names_dm.proofs.Escapes.{escapes_ascii}
use Rattle.names_dm.proofs.Utf8.{chars-encodes_any}

-- none of these is a percent sign
NoPercent : List ℕ → Type 0
NoPercent [] = Unit {0}
NoPercent (b ∷ bs) = (b ≢ 37) × NoPercent bs

Small : List ℕ → Type 0
Small [] = Unit {0}
Small (b ∷ bs) = (b < 256) × Small bs

decode_kept : (bs rest : List ℕ) → NoPercent bs → percent_decode (bs ++ rest) ≡ bs ++ percent_decode rest
unfolding NoPercent
decode_kept [] rest h = refl
decode_kept (b ∷ bs) rest h = percent_decode_not_percent b (bs ++ rest) h.0 ∙ ap (λ (t : List ℕ). b ∷ t) (decode_kept bs rest h.1)

decode_escapes : (bs rest : List ℕ) → Small bs → percent_decode (flat_map percent_encode_byte bs ++ rest) ≡ bs ++ percent_decode rest
unfolding Small
decode_escapes [] rest h = refl
decode_escapes (b ∷ bs) rest h =
    ap percent_decode (append_assoc (percent_encode_byte b) (flat_map percent_encode_byte bs) rest)
    ∙ percent_decode-percent_encode_byte b (flat_map percent_encode_byte bs ++ rest) h.0 ∙ ap (λ (t : List ℕ). b ∷ t) (decode_escapes bs rest h.1)

percent_goes : (c : ℕ) → stays c ≡ true → c ≢ 37
unfolding stays
percent_goes c keeps same = cc (rw same at keeps)

kept_bytes : (c : ℕ) → stays c ≡ true → NoPercent (encode_utf8 c)
unfolding NoPercent encode_utf8
kept_bytes c keeps = elim (cases_lt c 128) [
  | inl one ↦ rw (lt-ltb c 128 one) (percent_goes c keeps, tt)
  | inr more ↦ rw (le-ltb c 128 more) (elim (cases_Bool (ltb c 2048)) [
    | inl two ↦ rw two (omega arith, (omega arith, tt))
    | inr still ↦ rw still (elim (cases_Bool (ltb c 65536)) [
      | inl three ↦ rw three (omega arith, (omega arith, (omega arith, tt)))
      | inr four ↦ rw four (omega arith, (omega arith, (omega arith, (omega arith, tt))))
    ])
  ])
]

small_bytes : (c : ℕ) → c < 1114112 → Small (encode_utf8 c)
unfolding Small encode_utf8
small_bytes c below = elim (cases_lt c 128) [
  | inl one ↦ rw (lt-ltb c 128 one) (omega arith, tt)
  | inr more ↦ rw (le-ltb c 128 more) (elim (cases_lt c 2048) [
    | inl two ↦ rw (lt-ltb c 2048 two) (omega arith, (omega arith, tt))
    | inr still ↦ rw (le-ltb c 2048 still) (elim (cases_lt c 65536) [
      | inl three ↦ rw (lt-ltb c 65536 three) (omega arith, (omega arith, (omega arith, tt)))
      | inr four ↦ rw (le-ltb c 65536 four) (omega arith, (omega arith, (omega arith, (omega arith, tt))))
    ])
  ])
]

or_false_parts : (a b : Bool) → (a || b) ≡ false → (a ≡ false) × (b ≡ false)
or_false_parts true b e = cc e
or_false_parts false b e = (refl, e)

gone_below : (c : ℕ) → stays c ≡ false → c < 1114112
unfolding stays
gone_below c gone =
    let none = (or_false_parts (is_unreserved c || is_iri_character c) (is_no_character c) gone).1 in
    let above = (or_false_parts _ (ltb 1114111 c) none).1 in
    let high = ltb-false 1114111 c above in
    omega arith

decode_gone : (c : ℕ) (rest : List ℕ) → stays c ≡ false → percent_decode (escapes c ++ rest) ≡ encode_utf8 c ++ percent_decode rest
unfolding escapes
decode_gone c rest gone = decode_escapes (encode_utf8 c) rest (small_bytes c (gone_below c gone))

decode_character : (c : ℕ) (rest : List ℕ) → percent_decode (encode_utf8_all (safe_character c) ++ rest) ≡ encode_utf8 c ++ percent_decode rest
decode_character c rest = elim (cases_Bool (stays c)) [
  | inl keeps ↦ rw (keeps, append-nil (encode_utf8 c)) (decode_kept (encode_utf8 c) rest (kept_bytes c keeps))
  | inr gone ↦ rw (gone, escapes_ascii c gone) (decode_gone c rest gone)
]

pub decode_form : (text : List ℕ) → percent_decode (encode_utf8_all (safe_form text)) ≡ encode_utf8_all text
decode_form [] = percent_decode-nil
decode_form (c ∷ cs) =
    ap percent_decode (encodes-append (safe_character c) (safe_form cs)) ∙ decode_character c (encode_utf8_all (safe_form cs))
    ∙ ap (λ (t : List ℕ). encode_utf8 c ++ t) (decode_form cs)

pub decoded-safe_form : (text : List ℕ) → decoded (safe_form text) ≡ text
unfolding decoded
decoded-safe_form text = ap chars (decode_form text) ∙ chars-encodes_any text

pub unsafe_form-safe_form : (text : List ℕ) → unsafe_form (safe_form text) ≡ Some text
unfolding unsafe_form
unsafe_form-safe_form text =
    rw (decoded-safe_form text, (bytes_decides (safe_form text) (safe_form text)).1 refl) refl

chosen : (b : Bool) (found text : List ℕ) → (if b then Some found else None) ≡ Some text → (b ≡ true) × (found ≡ text)
chosen true found text e = (refl, cc e)
chosen false found text e = cc e

pub safe_form-unsafe_form : (form text : List ℕ) → unsafe_form form ≡ Some text → safe_form text ≡ form
unfolding unsafe_form
safe_form-unsafe_form form text told =
    let h = chosen (pointwise nat_eq (safe_form (decoded form)) form) (decoded form) text told in
    ap safe_form (sym h.1) ∙ (bytes_decides (safe_form (decoded form)) form).0 h.0

-- and none is told where there is none
pub unsafe_form-none : (form : List ℕ) → ((text : List ℕ) → safe_form text ≢ form) → unsafe_form form ≡ None
unsafe_form-none form lacks = go (unsafe_form form) refl where
  go : (r : Option (List ℕ)) → unsafe_form form ≡ r → unsafe_form form ≡ None
  go None e = e
  go (Some text) e = absurd (lacks text (safe_form-unsafe_form form text e))

-- texts with one safe form are the same
pub safe_form-injective : (a b : List ℕ) → safe_form a ≡ safe_form b → a ≡ b
safe_form-injective a b same = sym (decoded-safe_form a) ∙ ap decoded same ∙ decoded-safe_form b

-- ---- texts

not_and : (a b : Bool) → (a && b) ≡ false → a ≡ true → b ≡ false
not_and true b e h = e
not_and false b e h = cc h

scalar-no_character : (c : ℕ) → is_no_character c ≡ false → scalar c ≡ true
scalar-no_character c none = elim (cases_lt c 55296) [
  | inl low ↦ rw (lt-ltb c 55296 low) refl
  | inr high ↦
      let parts = or_false_parts (leb 55296 c && leb c 57343) (ltb 1114111 c) none in
      let past = leb-false c 57343 (not_and (leb 55296 c) (leb c 57343) parts.0 (le-leb 55296 c high)) in
      let below = ltb-false 1114111 c parts.1 in
      rw (le-ltb c 55296 high, le-leb 57344 c (omega arith), lt-ltb c 1114112 (omega arith)) refl
]

both : (a b : Bool) → (a && b) ≡ true → (a ≡ true) × (b ≡ true)
both true b e = (refl, e)
both false b e = cc e

rest_scalars : (xs ys : List ℕ) → scalars (xs ++ ys) ≡ true → scalars ys ≡ true
rest_scalars [] ys e = e
rest_scalars (x ∷ xs) ys e = rest_scalars xs ys (both (scalar x) (scalars (xs ++ ys)) e).1

gone_scalar : (c : ℕ) → stays c ≡ false → scalar c ≡ true
unfolding stays
gone_scalar c gone = scalar-no_character c (or_false_parts (is_unreserved c || is_iri_character c) (is_no_character c) gone).1

first_scalar : (c : ℕ) (rest : List ℕ) → scalars (safe_character c ++ rest) ≡ true → scalar c ≡ true
first_scalar c rest e = elim (cases_Bool (stays c)) [
  | inl keeps ↦ (both (scalar c) (scalars rest) (rw keeps at e)).0
  | inr gone ↦ gone_scalar c gone
]

-- what has the safe form of characters is characters
scalars-safe_form : (text : List ℕ) → scalars (safe_form text) ≡ true → scalars text ≡ true
scalars-safe_form [] e = refl
scalars-safe_form (c ∷ cs) e =
    rw (first_scalar c (safe_form cs) e, scalars-safe_form cs (rest_scalars (safe_character c) (safe_form cs) e)) refl

pub its_text : (bs text : List ℕ) → IsUtf8 bs → safe_form text ≡ chars bs → IsUtf8 (encode_utf8_all text)
its_text bs text is_text same =
    (text, (scalars-safe_form text (ap scalars same ∙ scalars-chars bs is_text), refl))

pub its_bytes : (bs text : List ℕ) → IsUtf8 bs → safe_form text ≡ chars bs → percent_decode bs ≡ encode_utf8_all text
its_bytes bs text is_text same = ap percent_decode (sym (ap encode_utf8_all same ∙ encodes-chars bs is_text)) ∙ decode_form text
