-- The integer that a text spells, beside what std's `parse` says.
use Rattle.std.proofs.Common.{◌≡◌, ℕ, Bool, true, false, cond, List, refl, ap, ◌∙◌, sym}
use Rattle.std.specs.Prelude.{ℤ, pos, neg_ℤ, FitsSigned}
use Rattle.std.specs.Int.{w64}
use Rattle.std.specs.Str.Parse.{IsNumeral, digits_value, starts_with_minus, without_leading_sign, signed_digits_value}
use Rattle.value_dm.specs.Spelling.{SpellsInteger, signed}
use Rattle.value_dm.proofs.NumberTexts.{signed_text, integer_same}

signed_by_cases : (negative : Bool) (n : ℕ) → cond negative (neg_ℤ (pos n)) (pos n) ≡ signed negative n
signed_by_cases true n = refl
signed_by_cases false n = refl

pub integer_of : (text : List ℕ) (z : ℤ) → IsNumeral 10 (without_leading_sign text) → FitsSigned w64 z → signed_digits_value 10 text ≡ z → SpellsInteger text z
integer_of text z numeral fits value =
    let s = signed_text text in
    record {
      sign = s.sign;
      negative = starts_with_minus text;
      digits = without_leading_sign text;
      text = s.parts;
      is_sign = s.is_sign;
      is_numeral = numeral;
      value = sym value ∙ signed_by_cases (starts_with_minus text) (digits_value 10 (without_leading_sign text));
      fits = fits;
    }

pub integer_is : (text : List ℕ) (z : ℤ) → SpellsInteger text z → IsNumeral 10 (without_leading_sign text) × (signed_digits_value 10 text ≡ z)
integer_is text z h =
    let same = integer_same text h.sign h.digits h.negative h.text h.is_sign h.is_numeral.1 in (
      rw same.1 h.is_numeral,
      signed_by_cases (starts_with_minus text) (digits_value 10 (without_leading_sign text))
          ∙ ap (λ b. signed b (digits_value 10 (without_leading_sign text))) same.0
          ∙ ap (λ ds. signed h.negative (digits_value 10 ds)) same.1
          ∙ sym h.value,
    )

pub integer_one : (text : List ℕ) (y z : ℤ) → SpellsInteger text y → SpellsInteger text z → y ≡ z
integer_one text y z a b = sym (integer_is text y a).1 ∙ (integer_is text z b).1
