-- Variables of names: their grammar, and that different names have different ones.
use Rattle.std.proofs.Common.{◌≡◌, ◌∙◌, ◌++◌, ◌∷◌, ◌||◌, ◌&&◌, ◌<◌, ◌≤◌, ◌/◌, ◌%◌, [], ℕ, List, Bool, true, false, eqb, leb, ltb, refl, sym, ap, arith, inl, inr, flat_map, encode_utf8_all, length, get_or, zero, suc}
use Rattle.std.proofs.lemmas.Bool.{cases_Bool, cases_lt, eqb-true, ltb-false, agree_below, agree_below_at, lt-leb, le-ltb}
use Rattle.std.proofs.lemmas.Str.{encodes_same}
use Rattle.std.specs.Char.{digit_value}
use Rattle.std.specs.Fmt.{digit_glyph}
use Rattle.std.specs.List.{list_all}
use Rattle.names_dm.specs.Terminals.{is_letter_or_digit, is_variable, is_variable_character}
use Rattle.names_dm.specs.Variables.{IsReserved, stays_in_variable, variable_byte, variable_of}
use Rattle.std.specs.Str.{IsAscii}
use Rattle.std.proofs.lemmas.Str.Ascii.{IsAscii-nil}
use Rattle.names_dm.proofs.Ascii.{apart, ascii_cons}
use Rattle.names_dm.proofs.SafeForms.{list_all-both}
use Rattle.names_dm.proofs.Words.{is_nonempty, is_word_of-from_loop}

-- ---- the digits

digits_read : agree_below (λ d. eqb (digit_value (digit_glyph true d)) d && is_variable_character (digit_glyph true d)) (λ d. true) 16 ≡ true
digits_read = refl

digit_reads : (d : ℕ) → d < 16 → (eqb (digit_value (digit_glyph true d)) d && is_variable_character (digit_glyph true d)) ≡ true
digit_reads d small = agree_below_at (λ d. eqb (digit_value (digit_glyph true d)) d && is_variable_character (digit_glyph true d)) (λ d. true) 16 d digits_read small

both : (a b : Bool) → (a && b) ≡ true → (a ≡ true) × (b ≡ true)
both true b e = (refl, e)
both false b e = cc e

digit_back : (d : ℕ) → d < 16 → digit_value (digit_glyph true d) ≡ d
digit_back d small = eqb-true _ _ (both (eqb (digit_value (digit_glyph true d)) d) (is_variable_character (digit_glyph true d)) (digit_reads d small)).0

digit_fits : (d : ℕ) → d < 16 → is_variable_character (digit_glyph true d) ≡ true
digit_fits d small = (both (eqb (digit_value (digit_glyph true d)) d) (is_variable_character (digit_glyph true d)) (digit_reads d small)).1

-- ---- the grammar

left_of_or : (a b : Bool) → (a || b) ≡ true → b ≡ false → a ≡ true
left_of_or true b e f = refl
left_of_or false b e f = cc (sym e ∙ f)

no_low : (a b : Bool) → b ≡ false → (a && b) ≡ false
no_low true b e = e
no_low false b e = refl

past_letters : (b : ℕ) → 128 ≤ b → is_letter_or_digit b ≡ false
past_letters b large =
    rw (
      no_low (leb 65 b) (leb b 90) (lt-leb b 90 (omega arith)),
      no_low (leb 97 b) (leb b 122) (lt-leb b 122 (omega arith)),
      no_low (leb 48 b) (leb b 57) (lt-leb b 57 (omega arith)),
    )
    refl

pub letter_small : (b : ℕ) → is_letter_or_digit b ≡ true → b < 128
letter_small b letter = elim (cases_lt b 128) [
  | inl small ↦ small
  | inr large ↦ cc (sym (past_letters b large) ∙ letter)
]

pub letter_stays : (b : ℕ) → is_letter_or_digit b ≡ true → stays_in_variable b ≡ true
unfolding stays_in_variable
letter_stays b letter = rw letter refl

other_goes : (a b : Bool) → a ≡ false → b ≡ false → (a || b) ≡ false
other_goes true b e f = e
other_goes false b e f = f

pub other_byte_goes : (b : ℕ) → b < 256 → is_letter_or_digit b ≡ false → stays_in_variable b ≡ false
unfolding stays_in_variable
other_byte_goes b small other = other_goes (is_letter_or_digit b) (ltb 255 b) other (le-ltb 255 b (omega arith))

character_small : (c : ℕ) → is_variable_character c ≡ true → c < 128
character_small c fits = elim (cases_lt c 128) [
  | inl small ↦ small
  | inr large ↦ cc (sym (other_goes (is_letter_or_digit c) (eqb c 95) (past_letters c large) (apart c 95 (omega arith) large)) ∙ fits)
]

pub digit_small : (d : ℕ) → d < 16 → digit_glyph true d < 128
digit_small d small = character_small (digit_glyph true d) (digit_fits d small)

pub fits_ascii : (text : List ℕ) → list_all is_variable_character text ≡ true → IsAscii text
fits_ascii [] fits = IsAscii-nil
fits_ascii (c ∷ cs) fits =
    let h = both (is_variable_character c) (list_all is_variable_character cs) fits in
    ascii_cons c cs (character_small c h.0) (fits_ascii cs h.1)

small_stays : (b : ℕ) → b < 256 → stays_in_variable b ≡ true → is_variable_character b ≡ true
unfolding stays_in_variable
small_stays b small keeps =
    let none : ltb 255 b ≡ false = le-ltb 255 b (omega arith) in
    let letter : is_letter_or_digit b ≡ true = left_of_or (is_letter_or_digit b) (ltb 255 b) keeps none in
    rw letter refl

byte_fits : (b : ℕ) → b < 256 → list_all is_variable_character (variable_byte b) ≡ true
byte_fits b small = elim (cases_Bool (stays_in_variable b)) [
  | inl keeps ↦ rw (keeps, small_stays b small keeps) refl
  | inr gone ↦ rw (gone, digit_fits (b / 16) (omega arith), digit_fits (b % 16) (omega arith)) refl
]

pub bytes_fit : (bs : List ℕ) → ((i : ℕ) → get_or bs i 0 < 256) → list_all is_variable_character (flat_map variable_byte bs) ≡ true
bytes_fit [] small = refl
bytes_fit (b ∷ bs) small = list_all-both is_variable_character (variable_byte b) (flat_map variable_byte bs) (byte_fits b (small zero)) (bytes_fit bs (λ i. small (suc i)))

some_character : (b : ℕ) (rest : List ℕ) → is_nonempty (variable_byte b ++ rest) ≡ true
some_character b rest = elim (cases_Bool (stays_in_variable b)) [
  | inl keeps ↦ rw keeps refl
  | inr gone ↦ rw gone refl
]

nonempty : (bs : List ℕ) → 0 < length bs → is_nonempty (flat_map variable_byte bs) ≡ true
nonempty [] some = let bad : ⊥ = omega arith in absurd bad
nonempty (b ∷ bs) some = some_character b (flat_map variable_byte bs)

pub is_variable-bytes : (bs : List ℕ) → 0 < length bs → ((i : ℕ) → get_or bs i 0 < 256) → is_variable (flat_map variable_byte bs) ≡ true
unfolding is_variable
is_variable-bytes bs some small =
    sym (is_word_of-from_loop is_variable_character (flat_map variable_byte bs)) ∙ rw (nonempty bs some, bytes_fit bs small) refl

-- ---- different names

underscore_goes : stays_in_variable 95 ≡ false
unfolding stays_in_variable
underscore_goes = refl

right_of_or : (a b : Bool) → (a || b) ≡ false → b ≡ false
right_of_or true b e = cc e
right_of_or false b e = e

gone_small : (b : ℕ) → stays_in_variable b ≡ false → b < 256
unfolding stays_in_variable
gone_small b gone = let past = ltb-false 255 b (right_of_or (is_letter_or_digit b) (ltb 255 b) gone) in omega arith

no_underscore : (b : ℕ) → stays_in_variable b ≡ true → b ≡ 95 → ⊥
no_underscore b keeps same = cc (sym underscore_goes ∙ ap stays_in_variable (sym same) ∙ keeps)

-- the first byte and the rest are told by what they become
byte_told : (b d : ℕ) (r t : List ℕ) → variable_byte b ++ r ≡ variable_byte d ++ t → (b ≡ d) × (r ≡ t)
byte_told b d r t same = elim (cases_Bool (stays_in_variable b)) [
  | inl keeps ↦ elim (cases_Bool (stays_in_variable d)) [
    | inl also ↦ let s = rw (keeps, also) at same in (cc, cc)
    | inr gone ↦ let s = rw (keeps, gone) at same in let head : b ≡ 95 = cc in absurd (no_underscore b keeps head)
  ]
  | inr gone ↦ elim (cases_Bool (stays_in_variable d)) [
    | inl keeps ↦ let s = rw (gone, keeps) at same in let head : 95 ≡ d = cc in absurd (no_underscore d keeps (sym head))
    | inr also ↦
        let s = rw (gone, also) at same in
        let high : digit_glyph true (b / 16) ≡ digit_glyph true (d / 16) = cc in
        let low : digit_glyph true (b % 16) ≡ digit_glyph true (d % 16) = cc in
        let small_b = gone_small b gone in
        let small_d = gone_small d also in
        let high_same : b / 16 ≡ d / 16 = sym (digit_back (b / 16) (omega arith)) ∙ ap digit_value high ∙ digit_back (d / 16) (omega arith) in
        let low_same : b % 16 ≡ d % 16 = sym (digit_back (b % 16) (omega arith)) ∙ ap digit_value low ∙ digit_back (d % 16) (omega arith) in
        (omega arith, cc)
  ]
]

bytes_told : (bs ds : List ℕ) → flat_map variable_byte bs ≡ flat_map variable_byte ds → bs ≡ ds
bytes_told [] [] same = refl
bytes_told [] (d ∷ ds) same = cc (ap is_nonempty same ∙ some_character d (flat_map variable_byte ds))
bytes_told (b ∷ bs) [] same = cc (sym (ap is_nonempty same) ∙ some_character b (flat_map variable_byte bs))
bytes_told (b ∷ bs) (d ∷ ds) same =
    let h = byte_told b d (flat_map variable_byte bs) (flat_map variable_byte ds) same in
    let rest = bytes_told bs ds h.1 in
    λ i. h.0 i ∷ rest i

pub variable_of-injective : (a b : List ℕ) → variable_of a ≡ variable_of b → a ≡ b
variable_of-injective a b same = encodes_same a b (bytes_told (encode_utf8_all a) (encode_utf8_all b) same)

-- ---- no reserved variables

digits_low : agree_below (λ d. ltb (digit_glyph true d) 91) (λ d. true) 16 ≡ true
digits_low = refl

-- behind an underscore that stands first there is no letter of lower case
second_low : (bs : List ℕ) (c : ℕ) (rest : List ℕ) → flat_map variable_byte bs ≡ 95 ∷ c ∷ rest → ltb c 91 ≡ true
second_low [] c rest same = cc (ap is_nonempty same)
second_low (b ∷ bs) c rest same = elim (cases_Bool (stays_in_variable b)) [
  | inl keeps ↦ let s = rw keeps at same in let head : b ≡ 95 = cc in absurd (no_underscore b keeps head)
  | inr gone ↦
      let s = rw gone at same in
      let second : digit_glyph true (b / 16) ≡ c = cc in
      let small = gone_small b gone in
      rw (← second) (agree_below_at (λ d. ltb (digit_glyph true d) 91) (λ d. true) 16 (b / 16) digits_low (omega arith))
]

pub never_reserved : (name : List ℕ) → IsReserved (variable_of name) → ⊥
never_reserved name (inl row) = cc (second_low (encode_utf8_all name) 114 [] row)
never_reserved name (inr (inl subject)) = cc (second_low (encode_utf8_all name) 115 [] subject)
never_reserved name (inr (inr (inl marker))) = cc (second_low (encode_utf8_all name) 109 [] marker)
never_reserved name (inr (inr (inr (rest, query)))) = cc (second_low (encode_utf8_all name) 113 rest query)
