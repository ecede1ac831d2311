-- A text that spells a value of another kind than text is ASCII.
use Rattle.std.proofs.Common.{◌≡◌, ◌≢◌, ◌⊎◌, ℕ, suc, zero, ◌<◌, Bool, true, false, List, [], ◌∷◌, refl, ap, ◌∙◌, sym, subst, arith, inl, inr}
use Rattle.std.specs.Prelude.{codes, map}
use Rattle.std.specs.Char.{to_ascii_lowercase}
use Rattle.std.specs.List.{AllPass}
use Rattle.std.specs.Str.{IsAscii, chars, IsUtf8}
use Rattle.std.proofs.lemmas.Bool.Decides.{nat_tests}
use Rattle.std.proofs.lemmas.Fmt.{IsAscii-from_digits}
use Rattle.std.proofs.lemmas.List.Elements.{All-head, All-tail}
use Rattle.std.proofs.lemmas.Str.{IsAscii-append, encodes-IsAscii, chars-IsAscii, encodes-chars}
use Rattle.hex.specs.Hex.{is_hex_digit}
use Rattle.hex.proofs.HexLemmas.{decode_of-ok}
use Rattle.value_dm.specs.Digits.{fixed_digits}
use Rattle.value_dm.specs.Kinds.{kind_of}
use Rattle.value_dm.specs.Lexical.{date_text, clock_text}
use Rattle.value_dm.specs.Spelling.{IsSign, IsPoint, SpellsFraction, SpellsBoolean, SpellsBinary, SpellsTime, SpellsValue}
use Rattle.value_dm.specs.Written.{Writes}
use Rattle.value_dm.specs.declared.calendar.Date.{Date}
use Rattle.value_dm.specs.declared.calendar.Time.{Time}
use Rattle.value_dm.specs.declared.kind.Kind.TheVariants as kind
use Rattle.value_dm.specs.declared.value.Value.{Value}
use Rattle.value_dm.specs.declared.value.Value.TheVariants as value
use Rattle.value_dm.proofs.FixedDigits.{AllDigits-fixed_digits}
use Rattle.value_dm.proofs.Numerals.{AllDigits-front, AllDigits-back}

ascii_nil : IsAscii []
ascii_nil i = omega arith

ascii_cons : (c : ℕ) (cs : List ℕ) → c < 128 → IsAscii cs → IsAscii (c ∷ cs)
ascii_cons c cs small rest zero = small
ascii_cons c cs small rest (suc i) = rest i

ascii_tail : (c : ℕ) (cs : List ℕ) → IsAscii (c ∷ cs) → IsAscii cs
ascii_tail c cs h i = h (suc i)

ascii_one : (c : ℕ) → c < 128 → IsAscii (c ∷ [])
ascii_one c small = ascii_cons c [] small ascii_nil

ascii_along : (xs ys : List ℕ) → xs ≡ ys → IsAscii ys → IsAscii xs
ascii_along xs ys e h = let P : List ℕ → Type 0 = IsAscii in subst P (sym e) h

ascii_fixed : (count n : ℕ) → IsAscii (fixed_digits count n)
ascii_fixed count n = IsAscii-from_digits (fixed_digits count n) (AllDigits-fixed_digits count n)

ascii_sign : (sign : List ℕ) (negative : Bool) → IsSign sign negative → IsAscii sign
ascii_sign sign negative (inl (e, n)) = ascii_along sign [] e ascii_nil
ascii_sign sign negative (inr (inl (e, n))) = ascii_along sign (43 ∷ []) e (ascii_one 43 (omega arith))
ascii_sign sign negative (inr (inr (e, n))) = ascii_along sign (45 ∷ []) e (ascii_one 45 (omega arith))

ascii_point : (point fraction : List ℕ) → IsPoint point fraction → IsAscii point
ascii_point point fraction (inl (e, f)) = ascii_along point [] e ascii_nil
ascii_point point fraction (inr e) = ascii_along point (46 ∷ []) e (ascii_one 46 (omega arith))

lowered_below : (c : ℕ) → to_ascii_lowercase c < 128 → c < 128
lowered_below c h = grind (arith, nat_tests)

ascii_lowered : (text : List ℕ) → IsAscii (map to_ascii_lowercase text) → IsAscii text
ascii_lowered [] h = ascii_nil
ascii_lowered (c ∷ cs) h = ascii_cons c cs (lowered_below c (h zero)) (ascii_lowered cs (ascii_tail _ _ h))

ascii_word : (text word : List ℕ) → map to_ascii_lowercase text ≡ word → IsAscii word → IsAscii text
ascii_word text word e h = ascii_lowered text (ascii_along _ word e h)

ascii_letters : (a b c d e : ℕ) → a < 128 → b < 128 → c < 128 → d < 128 → e < 128 → IsAscii (a ∷ b ∷ c ∷ d ∷ e ∷ [])
ascii_letters a b c d e p q r s t = ascii_cons a (b ∷ c ∷ d ∷ e ∷ []) p (ascii_cons b (c ∷ d ∷ e ∷ []) q (ascii_cons c (d ∷ e ∷ []) r (ascii_cons d (e ∷ []) s (ascii_one e t))))

ascii_boolean : (text : List ℕ) (b : Bool) → SpellsBoolean text b → IsAscii text
ascii_boolean text true (inl e) = ascii_word text (codes "true") e (ascii_tail 116 (116 ∷ 114 ∷ 117 ∷ 101 ∷ []) (ascii_letters 116 116 114 117 101 (omega arith) (omega arith) (omega arith) (omega arith) (omega arith)))
ascii_boolean text true (inr (inl e)) = ascii_word text (codes "t") e (ascii_one 116 (omega arith))
ascii_boolean text true (inr (inr e)) = ascii_word text (codes "1") e (ascii_one 49 (omega arith))
ascii_boolean text false (inl e) = ascii_word text (codes "false") e (ascii_letters 102 97 108 115 101 (omega arith) (omega arith) (omega arith) (omega arith) (omega arith))
ascii_boolean text false (inr (inl e)) = ascii_word text (codes "f") e (ascii_one 102 (omega arith))
ascii_boolean text false (inr (inr e)) = ascii_word text (codes "0") e (ascii_one 48 (omega arith))

ascii_date : (d : Date) → IsAscii (date_text d)
ascii_date d =
    IsAscii-append _ _ (IsAscii-append _ _ (IsAscii-append _ _ (IsAscii-append _ _ (ascii_fixed 4 d.year) (ascii_one 45 (omega arith))) (ascii_fixed 2 d.month)) (ascii_one 45 (omega arith))) (ascii_fixed 2 d.day)

ascii_clock : (t : Time) → IsAscii (clock_text t)
ascii_clock t =
    IsAscii-append _ _ (IsAscii-append _ _ (IsAscii-append _ _ (IsAscii-append _ _ (ascii_fixed 2 t.hour) (ascii_one 58 (omega arith))) (ascii_fixed 2 t.minute)) (ascii_one 58 (omega arith))) (ascii_fixed 2 t.second)

ascii_fraction : (rest : List ℕ) (n : ℕ) → SpellsFraction rest n → IsAscii rest
ascii_fraction rest n (inl (e, z)) = ascii_along rest [] e ascii_nil
ascii_fraction rest n (inr h) = ascii_along rest (46 ∷ h.digits) h.text (ascii_cons 46 h.digits (omega arith) (IsAscii-from_digits h.digits h.is_numeral.1))

ascii_time : (text : List ℕ) (t : Time) → SpellsTime text t → IsAscii text
ascii_time text t h = ascii_along text _ h.text (IsAscii-append _ _ (ascii_clock t) (ascii_fraction h.rest t.nanosecond h.fraction))

ascii_separator : (separator : List ℕ) → ((separator ≡ codes "T") ⊎ (separator ≡ codes " ")) → IsAscii separator
ascii_separator separator (inl e) = ascii_along separator (84 ∷ []) e (ascii_one 84 (omega arith))
ascii_separator separator (inr e) = ascii_along separator (32 ∷ []) e (ascii_one 32 (omega arith))

hex_below : (c : ℕ) → is_hex_digit c ≡ true → c < 128
hex_below c h = grind (arith, nat_tests)

ascii_hex : (digits : List ℕ) → AllPass is_hex_digit digits → IsAscii digits
ascii_hex [] h = ascii_nil
ascii_hex (c ∷ cs) h =
    ascii_cons c cs (hex_below c (All-head (λ x. is_hex_digit x ≡ true) c cs h)) (ascii_hex cs (All-tail (λ x. is_hex_digit x ≡ true) c cs h))

ascii_binary : (text bytes : List ℕ) → SpellsBinary text bytes → IsAscii text
ascii_binary text bytes (inl h) = ascii_hex text (decode_of-ok text bytes h).1
ascii_binary text bytes (inr (digits, e, h)) =
    ascii_along text (92 ∷ 120 ∷ digits) e (ascii_cons 92 (120 ∷ digits) (omega arith) (ascii_cons 120 digits (omega arith) (ascii_hex digits (decode_of-ok digits bytes h).1)))

pub spelled_ascii : (text : List ℕ) (v : Value) → kind_of v ≢ kind.Text → SpellsValue text v → IsAscii text
spelled_ascii text (value.Text t) other h = absurd (other refl)
spelled_ascii text (value.Integer z) other h =
    ascii_along text _ h.text (IsAscii-append h.sign h.digits (ascii_sign h.sign h.negative h.is_sign) (IsAscii-from_digits h.digits h.is_numeral.1))
spelled_ascii text (value.Decimal d) other h =
    let t = h.text in
    ascii_along text _ t.text
    (IsAscii-append t.sign _ (ascii_sign t.sign h.negative t.is_sign)
    (IsAscii-append h.whole _ (IsAscii-from_digits h.whole (AllDigits-front h.whole h.fraction t.is_numeral.1))
    (IsAscii-append t.point h.fraction (ascii_point t.point h.fraction t.is_point) (IsAscii-from_digits h.fraction (AllDigits-back h.whole h.fraction t.is_numeral.1)))))
spelled_ascii text (value.Boolean b) other h = ascii_boolean text b h
spelled_ascii text (value.Date d) other h = ascii_along text _ h (ascii_date d)
spelled_ascii text (value.Time t) other h = ascii_time text t h
spelled_ascii text (value.DateTime x) other h =
    ascii_along text _ h.text (IsAscii-append _ _ (IsAscii-append _ _ (ascii_date x.date) (ascii_separator h.separator h.is_separator)) (ascii_time h.rest x.time h.time))
spelled_ascii text (value.Binary b) other h = ascii_binary text b h

pub ascii_written : (characters bytes : List ℕ) → IsAscii characters → bytes ≡ characters → Writes bytes characters
ascii_written characters bytes h e = record {
  encoded = e ∙ sym (encodes-IsAscii characters h);
  decoded = ap chars e ∙ chars-IsAscii characters h;
}

-- where the characters spell a value, they are the bytes
pub spelled_bytes : (text : List ℕ) → IsUtf8 text → (v : Value) → kind_of v ≢ kind.Text → SpellsValue (chars text) v → (IsAscii text) × SpellsValue text v
spelled_bytes text utf8 v other h =
    let ascii = spelled_ascii (chars text) v other h in
    let same : chars text ≡ text = sym (encodes-IsAscii (chars text) ascii) ∙ encodes-chars text utf8 in
    let P : List ℕ → Type 0 = IsAscii in
    let Q : List ℕ → Type 0 = λ x. SpellsValue x v in
    (subst P same ascii, subst Q same h)

pub spelled_characters : (text : List ℕ) → IsAscii text → (v : Value) → SpellsValue text v → SpellsValue (chars text) v
spelled_characters text ascii v h = let Q : List ℕ → Type 0 = λ x. SpellsValue x v in subst Q (sym (chars-IsAscii text ascii)) h
