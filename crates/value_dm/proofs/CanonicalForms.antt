-- The canonical form of a value spells it.
use Rattle.std.proofs.Common.{◌≡◌, ◌≤◌, ◌⊎◌, ℕ, suc, zero, ◌+◌, ◌-◌, ◌*◌, ◌/◌, ◌%◌, ◌^◌, ◌<◌, Bool, true, false, List, [], ◌∷◌, ◌++◌, length, refl, ap, ◌∙◌, sym, arith, append_assoc, length-append, inl, inr, lit<, lit≤}
use Rattle.std.specs.Prelude.{ℤ, pos, negsuc, unsigned_abs, FitsSigned, codes}
use Rattle.std.specs.Int.{w64, is_negative}
use Rattle.std.specs.Fmt.{decimal, signed_decimal, sign_text}
use Rattle.std.specs.Str.Parse.{IsNumeral, digits_value}
use Rattle.std.proofs.lemmas.Fmt.{decimal_is_IsNumeral_wide}
use Rattle.std.proofs.Math.Nat.{one-le-pow, div-le_self}
use Rattle.std.proofs.lemmas.Bool.Decides.{eqb_tells, leb_tells}
use Rattle.hex.proofs.HexLemmas.{decode_of-encode_upper}
use Rattle.value_dm.specs.Digits.{fixed_digits, fraction_text, short_fraction_text}
use Rattle.value_dm.specs.Lawful.{IsLawful}
use Rattle.value_dm.specs.Lexical.{lexical_form, decimal_text, boolean_text}
use Rattle.value_dm.specs.Spelling.{IsPoint, IsSign, SpellsFraction, SpellsInteger, SpellsDecimal, SpellsBoolean, SpellsTime, SpellsValue, signed}
use Rattle.value_dm.specs.declared.calendar.Time.{Time}
use Rattle.value_dm.specs.declared.decimal.Decimal.{Decimal}
use Rattle.value_dm.specs.declared.value.Value.{Value}
use Rattle.value_dm.specs.declared.value.Value.TheVariants as value
use Rattle.value_dm.proofs.FixedDigits.{length-fixed_digits, AllDigits-fixed_digits, digits_value-fixed_digits, short_fraction-none, short_fraction-shorter, short_fraction-shortest}
use Rattle.value_dm.proofs.Numerals.{ten_power, AllDigits-append, digits_value-append}

mag_fits : (z : ℤ) → FitsSigned w64 z → unsigned_abs z < 10 ^ 64
mag_fits (pos n) h = let f = h.sfits in omega arith
mag_fits (negsuc n) h = let f = h.sfits in omega arith

not_negative : (n : ℕ) → is_negative (pos n) ≡ false
not_negative n = elim (leb_tells (suc n) 0) [ inl p ↦ absurd (let h = p.1 in omega arith) | inr p ↦ p.0 ]

sign_of : (z : ℤ) → IsSign (sign_text (is_negative z)) (is_negative z)
sign_of (pos n) = rw (not_negative n) (inl (refl, refl))
sign_of (negsuc n) = inr (inr (refl, refl))

signed_of : (z : ℤ) → z ≡ signed (is_negative z) (unsigned_abs z)
signed_of (pos n) = rw (not_negative n) refl
signed_of (negsuc n) = refl

signed_decimal_of : (z : ℤ) → signed_decimal z ≡ sign_text (is_negative z) ++ decimal (unsigned_abs z)
signed_decimal_of (pos n) = rw (not_negative n) refl
signed_decimal_of (negsuc n) = refl

integer_form : (z : ℤ) → FitsSigned w64 z → SpellsInteger (signed_decimal z) z
integer_form z fits =
    let numeral = decimal_is_IsNumeral_wide (unsigned_abs z) (mag_fits z fits) in
    record {
      sign = sign_text (is_negative z);
      negative = is_negative z;
      digits = decimal (unsigned_abs z);
      text = signed_decimal_of z;
      is_sign = sign_of z;
      is_numeral = numeral.0;
      value = signed_of z ∙ ap (signed (is_negative z)) (sym numeral.1);
      fits = fits;
    }

-- a fraction of so many digits, as its point and its digits
record FractionParts (count n : ℕ) : Type 0 where
  pub point : List ℕ
  pub is_point : IsPoint point (fixed_digits count n)
  pub text : fraction_text count n ≡ point ++ fixed_digits count n

fraction_parts : (count n : ℕ) → FractionParts count n
unfolding fixed_digits
fraction_parts zero n = record { point = []; is_point = inl (refl, refl); text = refl }
fraction_parts (suc count) n = record { point = codes "."; is_point = inr refl; text = refl }

digits_of_number : (n p : ℕ) (s : ℕ) → p ≡ 10 ^ s → n < 10 ^ 38
    → (IsNumeral 10 (decimal (n / p) ++ fixed_digits s (n % p))) × (digits_value 10 (decimal (n / p) ++ fixed_digits s (n % p)) ≡ n)
digits_of_number n p s e small =
    let some : 1 ≤ 10 ^ s = one-le-pow s 10 (lit< tt) in
    let low : n / p ≤ n = quotient_le n p (omega arith) in
    let numeral = decimal_is_IsNumeral_wide (n / p) (omega arith) in
    let rest : n % p < 10 ^ s = omega arith in
    let len = length-fixed_digits s (n % p) in (
      (omega (arith, length-append (decimal (n / p)) (fixed_digits s (n % p)), numeral.0.0), AllDigits-append _ _ numeral.0.1 (AllDigits-fixed_digits s (n % p))),
      digits_value-append (decimal (n / p)) (fixed_digits s (n % p))
          ∙ rw (numeral.1, len, digits_value-fixed_digits s (n % p) rest, ← e) (whole n p (omega arith)),
    )
  where
    quotient_le : (n p : ℕ) → 0 < p → n / p ≤ n
    quotient_le n p h = div-le_self n p

    whole : (n p : ℕ) → 0 < p → n / p * p + n % p ≡ n
    whole n p h = omega arith

decimal_form : (d : Decimal) → SpellsDecimal (decimal_text d) d
decimal_form d =
    let n = unsigned_abs d.coefficient in
    let parts = fraction_parts d.scale (unsigned_abs d.coefficient % 10 ^ d.scale) in
    let digits = digits_of_number (unsigned_abs d.coefficient) (10 ^ d.scale) d.scale refl d.in_digits in
    let len = length-fixed_digits d.scale (unsigned_abs d.coefficient % 10 ^ d.scale) in
    record {
      negative = is_negative d.coefficient;
      whole = decimal (unsigned_abs d.coefficient / 10 ^ d.scale);
      fraction = fixed_digits d.scale (unsigned_abs d.coefficient % 10 ^ d.scale);
      text = record {
        sign = sign_text (is_negative d.coefficient);
        point = parts.point;
        text =
            append_assoc (sign_text (is_negative d.coefficient)) (decimal (unsigned_abs d.coefficient / 10 ^ d.scale)) _
            ∙ ap (λ r. sign_text (is_negative d.coefficient) ++ (decimal (unsigned_abs d.coefficient / 10 ^ d.scale) ++ r)) parts.text;
        is_sign = sign_of d.coefficient;
        is_point = parts.is_point;
        is_numeral = digits.0;
      };
      number = record {
        size = rw (digits.1, len) refl;
        side = signed_of d.coefficient;
      };
    }

pub boolean_form : (b : Bool) → SpellsBoolean (boolean_text b) b
boolean_form true = inl refl
boolean_form false = inl refl

-- the fraction without the zeros at its end is the same part of a second
short_fraction : (count n : ℕ) → n < 10 ^ count → count ≤ 9
    → ((short_fraction_text count n ≡ []) × (n ≡ 0)) ⊎ ((digits : List ℕ) × (short_fraction_text count n ≡ 46 ∷ digits) × IsNumeral 10 digits × (length digits ≤ count) × (digits_value 10 digits * 10 ^ count ≡ n * 10 ^ length digits))
short_fraction zero n small short = inl (short_fraction-none zero n refl, omega arith)
short_fraction (suc k) n small short =
    let power = ten_power k in
    let some : 0 < suc k = omega arith in
    elim (eqb_tells (n % 10) 0) [
      | inl zero_last ↦
          let shorter : short_fraction_text (suc k) n ≡ short_fraction_text k (n / 10) =
          short_fraction-shorter (suc k) n some zero_last.1 ∙ ap (λ c. short_fraction_text c (n / 10)) (suc_less k) in
          let last : n % 10 ≡ 0 = zero_last.1 in
          elim (short_fraction k (n / 10) (omega arith) (omega arith)) [
            | inl none ↦ (let high : n / 10 ≡ 0 = none.1 in inl (shorter ∙ none.0, omega arith))
            | inr found ↦ inr (found.0, shorter ∙ found.1, found.2, longer found.3, scaled (digits_value 10 found.0) (10 ^ k) (10 ^ suc k) n (10 ^ length found.0) power last found.4)
          ]
      | inr other ↦
          let len = length-fixed_digits (suc k) n in
          inr (
            fixed_digits (suc k) n,
            short_fraction-shortest (suc k) n some other.1,
            (omega arith, AllDigits-fixed_digits (suc k) n),
            omega arith,
            rw (digits_value-fixed_digits (suc k) n small, len) refl,
          )
    ]
  where
    suc_less : (k : ℕ) → suc k - 1 ≡ k
    suc_less k = omega arith

    longer : {x y : ℕ} → x ≤ y → x ≤ suc y
    longer h = omega arith

    scaled : (v p q n l : ℕ) → q ≡ 10 * p → n % 10 ≡ 0 → v * p ≡ n / 10 * l → v * q ≡ n * l
    scaled v p q n l e last h =
        let whole : n ≡ 10 * (n / 10) = omega arith in
        rw (e, whole) (tenfold v p (n / 10) l h)
      where
        tenfold : (v p m l : ℕ) → v * p ≡ m * l → v * (10 * p) ≡ 10 * m * l
        tenfold v p m l h = omega (arith, h)

time_fraction : (n : ℕ) → n < 10 ^ 9 → SpellsFraction (short_fraction_text 9 n) n
time_fraction n small =
    elim (short_fraction 9 n small (lit≤ tt)) [
      | inl none ↦ inl none
      | inr some ↦ inr (record { digits = some.0; text = some.1; is_numeral = some.2; at_most_nine = some.3; value = some.4 })
    ]

time_form : (t : Time) → SpellsTime (lexical_form (value.Time t)) t
time_form t = record { rest = short_fraction_text 9 t.nanosecond; text = refl; fraction = time_fraction t.nanosecond t.exists.3 }

pub lexical_form_spells : (v : Value) → IsLawful v → SpellsValue (lexical_form v) v
lexical_form_spells (value.Text t) h = (refl, h)
lexical_form_spells (value.Integer z) h = integer_form z h
lexical_form_spells (value.Decimal d) h = decimal_form d
lexical_form_spells (value.Boolean b) h = boolean_form b
lexical_form_spells (value.Date d) h = refl
lexical_form_spells (value.Time t) h = time_form t
lexical_form_spells (value.DateTime x) h = record {
  separator = codes "T";
  rest = lexical_form (value.Time x.time);
  text = refl;
  is_separator = inl refl;
  time = time_form x.time;
}
lexical_form_spells (value.Binary b) h = inl (decode_of-encode_upper b h)
