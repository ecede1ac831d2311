use Rattle.value_dm.proofs.Numerals.{AllDigits-front, AllDigits-back}
use Rattle.value_dm.proofs.NumberTexts.{number_text_one}
use Rattle.value_dm.proofs.DecimalValues.{same_number_along}
use Rattle.value_dm.proofs.number.read_decimal.Goals as goal

pub returns-in_default : goal.returns-in_default
returns-in_default c = λ d spelled. c.in_default.ensures spelled.negative spelled.whole spelled.fraction spelled.text

pub decimal_of-requires-clause-whole : goal.decimal_of-requires-clause-whole
decimal_of-requires-clause-whole c = AllDigits-front c.in-Some.whole.now c.in-Some.fraction.now c.in-Some.ensures.is_numeral.1

pub decimal_of-requires-clause-fraction : goal.decimal_of-requires-clause-fraction
decimal_of-requires-clause-fraction c = AllDigits-back c.in-Some.whole.now c.in-Some.fraction.now c.in-Some.ensures.is_numeral.1

pub returns-in-None : goal.returns-in-None
returns-in-None c =
    λ d spelled.
    let same = number_text_one _ _ _ _ _ _ _ c.in-Some.ensures spelled.text in
    c.in-None.ensures d (same_number_along _ _ _ _ _ _ d same.0 same.1 same.2 spelled.number)
