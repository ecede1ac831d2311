-- What stands in a safe form, and how the crate makes it.
use Rattle.std.proofs.Common.{◌≡◌, ◌∙◌, ◌++◌, ◌∷◌, ◌||◌, ◌&&◌, ◌<◌, ◌≤◌, [], ℕ, List, Bool, true, false, ltb, leb, refl, sym, ap, subst, arith, inl, inr, encode_utf8_all}
use Rattle.std.proofs.lemmas.Bool.{cases_Bool, cases_lt, agree_below, agree_below_at, lt-ltb, lt-leb, le-ltb}
use Rattle.std.proofs.lemmas.Str.{encodes-IsAscii}
use Rattle.std.specs.Char.{encode_utf8}
use Rattle.std.specs.List.{flat_map}
use Rattle.std.specs.Str.{IsAscii}
use Rattle.percent_encoding.specs.AsciiSet.{contains, should_percent_encode}
use Rattle.percent_encoding.specs.Percent.{encode_byte, percent_encode, percent_encode_byte}
use Rattle.percent_encoding.specs.declared.ascii_set.TheConstants.{NON_ALPHANUMERIC}
use Rattle.percent_encoding.proofs.PercentLemmas.{IsAscii-percent_encode}
use Rattle.std.proofs.Math.Utf8.{scalar, scalar_cases}
use Rattle.names_dm.specs.IriSafe.{escapes, is_no_character, stays}

-- the crate's set has each of these bytes
Escaped : List ℕ → Type 0
Escaped [] = Unit {0}
Escaped (b ∷ bs) = (should_percent_encode NON_ALPHANUMERIC b ≡ true) × Escaped bs

escape_each : (bs : List ℕ) → Escaped bs → flat_map (encode_byte NON_ALPHANUMERIC) bs ≡ flat_map percent_encode_byte bs
unfolding Escaped
escape_each [] h = refl
escape_each (b ∷ bs) h = rw h.0 (ap (λ (t : List ℕ). percent_encode_byte b ++ t) (escape_each bs h.1))

set_or_stays : agree_below (λ b. contains NON_ALPHANUMERIC b || stays b) (λ b. true) 128 ≡ true
unfolding stays
set_or_stays = refl

left_of_or : (a b : Bool) → (a || b) ≡ true → b ≡ false → a ≡ true
left_of_or true b e f = refl
left_of_or false b e f = cc (sym e ∙ f)

ascii_escaped : (b : ℕ) → b < 128 → stays b ≡ false → should_percent_encode NON_ALPHANUMERIC b ≡ true
unfolding should_percent_encode
ascii_escaped b small gone =
    rw (lt-ltb b 128 small) (left_of_or _ _ (agree_below_at (λ b. contains NON_ALPHANUMERIC b || stays b) (λ b. true) 128 b set_or_stays small) gone)

past_escaped : (b : ℕ) → 128 ≤ b → should_percent_encode NON_ALPHANUMERIC b ≡ true
unfolding should_percent_encode
past_escaped b large = rw (le-ltb b 128 large) refl

bytes_escaped : (c : ℕ) → stays c ≡ false → Escaped (encode_utf8 c)
unfolding Escaped encode_utf8
bytes_escaped c gone = elim (cases_lt c 128) [
  | inl one ↦ rw (lt-ltb c 128 one) (ascii_escaped c one gone, tt)
  | inr more ↦ rw (le-ltb c 128 more) (elim (cases_Bool (ltb c 2048)) [
    | inl two ↦ rw two (past_escaped _ (omega arith), (past_escaped _ (omega arith), tt))
    | inr still ↦ rw still (elim (cases_Bool (ltb c 65536)) [
      | inl three ↦ rw three (past_escaped _ (omega arith), (past_escaped _ (omega arith), (past_escaped _ (omega arith), tt)))
      | inr four ↦ rw four (past_escaped _ (omega arith), (past_escaped _ (omega arith), (past_escaped _ (omega arith), (past_escaped _ (omega arith), tt))))
    ])
  ])
]

-- what the crate makes of a character that does not stay
pub escapes_made : (c : ℕ) → stays c ≡ false → percent_encode NON_ALPHANUMERIC (encode_utf8 c) ≡ escapes c
unfolding percent_encode escapes
escapes_made c gone = escape_each (encode_utf8 c) (bytes_escaped c gone)

-- escapes are ASCII, so their bytes are their characters
pub escapes_ascii : (c : ℕ) → stays c ≡ false → encode_utf8_all (escapes c) ≡ escapes c
escapes_ascii c gone = encodes-IsAscii (escapes c) (subst IsAscii (escapes_made c gone) (IsAscii-percent_encode NON_ALPHANUMERIC (encode_utf8 c)))

no_left : (a : Bool) → (a && false) ≡ false
no_left true = refl
no_left false = refl

-- a character is no number that is none
pub no_character-scalar : (c : ℕ) → scalar c ≡ true → is_no_character c ≡ false
no_character-scalar c fits = elim (scalar_cases c fits) [
  | inl low ↦ rw (lt-leb 55296 c low, le-ltb 1114111 c (omega arith)) refl
  | inr high ↦ rw (lt-leb c 57343 (omega arith), no_left (leb 55296 c), le-ltb 1114111 c (omega arith)) refl
]

pub or_nothing : (a b : Bool) → b ≡ false → a ≡ (a || b)
or_nothing true b e = refl
or_nothing false b e = sym e
