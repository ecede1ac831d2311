use Rattle.std.proofs.Common.{sym, ◌∙◌, arith}
use Rattle.value_dm.proofs.Numerals.{AllDigits-back}
use Rattle.value_dm.proofs.NumberTexts.{Parts, number_text_of, number_text_same}
use Rattle.value_dm.proofs.number.split_number.Goals as goal

pub returns-in_default : goal.returns-in_default
returns-in_default c =
    let read : Parts c.args.text.now c.split_digits.result.0.now c.split_digits.result.1.now = record {
      parts = sym c.split_sign-negative.ensures.rest ∙ c.split_digits.ensures.parts;
      digits = c.split_digits.ensures.digits;
      ends = c.split_digits.ensures.ends;
    } in
    λ negative whole fraction t.
    let same = number_text_same c.args.text.now _ _ read negative whole fraction t in
    c.in_default.ensures same.point fraction same.is_point (AllDigits-back whole fraction t.is_numeral.1) same.after

pub returns : goal.returns
returns c =
    let read : Parts c.args.text.now c.split_digits.result.0.now c.split_digits.result.1.now = record {
      parts = sym c.split_sign-negative.ensures.rest ∙ c.split_digits.ensures.parts;
      digits = c.split_digits.ensures.digits;
      ends = c.split_digits.ensures.ends;
    } in
    let h = c.in-Some.ensures in
    rw c.split_sign-negative.ensures.negative (number_text_of c.args.text.now _ _ h.0 c.in-Some.fraction.now read h.1 h.2 h.3 (omega arith))
