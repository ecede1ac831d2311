-- The canonical lexical form of a value, and its canonical field.
use Rattle.std.specs.Prelude.{ℕ, ◌^◌, ◌/◌, ◌%◌, Bool, true, false, List, ◌++◌, codes, nat_eq, unsigned_abs, if◌then◌else◌}
use Rattle.std.specs.Prelude.{Option, Some, None}
use Rattle.std.specs.Int.{is_negative}
use Rattle.std.specs.Fmt.{decimal, signed_decimal, sign_text}
use Rattle.std.specs.List.{starts_with}
use Rattle.hex.specs.Hex.{encode_upper}
use Rattle.value_dm.specs.Digits.{fixed_digits, fraction_text, short_fraction_text}
use Rattle.value_dm.specs.declared.calendar.Date.{Date}
use Rattle.value_dm.specs.declared.calendar.Time.{Time}
use Rattle.value_dm.specs.declared.calendar.DateTime.{DateTime}
use Rattle.value_dm.specs.declared.decimal.Decimal.{Decimal}
use Rattle.value_dm.specs.declared.value.Value.{Value}
use Rattle.value_dm.specs.declared.value.Value.TheVariants as value

-- XML Schema 1.1 part 2, 3.3.3.2: no leading zero but the one before the point, no zero at the end of a fraction, and
-- no point without one; a whole number as an integer
abbrev pub decimal_text : Decimal → List ℕ
decimal_text d =
    sign_text (is_negative d.coefficient)
    ++ decimal (unsigned_abs d.coefficient / 10 ^ d.scale)
    ++ fraction_text d.scale (unsigned_abs d.coefficient % 10 ^ d.scale)

-- 3.3.2.2
abbrev pub boolean_text : Bool → List ℕ
boolean_text true = codes "true"
boolean_text false = codes "false"

-- 3.3.9: `YYYY-MM-DD`
abbrev pub date_text : Date → List ℕ
date_text d = fixed_digits 4 d.year ++ codes "-" ++ fixed_digits 2 d.month ++ codes "-" ++ fixed_digits 2 d.day

-- `HH:MM:SS`
abbrev pub clock_text : Time → List ℕ
clock_text t = fixed_digits 2 t.hour ++ codes ":" ++ fixed_digits 2 t.minute ++ codes ":" ++ fixed_digits 2 t.second

-- 3.3.8: the fraction of a second without zeros at its end
abbrev pub time_text : Time → List ℕ
time_text t = clock_text t ++ short_fraction_text 9 t.nanosecond

-- 3.3.7
abbrev pub date_time_text : DateTime → List ℕ
date_time_text d = date_text d.date ++ codes "T" ++ time_text d.time

-- The canonical lexical form; one text for each value of a kind. Integers and binary values as in 3.4.13 and 3.3.15.
abbrev pub lexical_form : Value → List ℕ
lexical_form (value.Text t) = t
lexical_form (value.Integer z) = signed_decimal z
lexical_form (value.Decimal d) = decimal_text d
lexical_form (value.Boolean b) = boolean_text b
lexical_form (value.Date d) = date_text d
lexical_form (value.Time t) = time_text t
lexical_form (value.DateTime d) = date_time_text d
lexical_form (value.Binary b) = encode_upper b

-- a text with its first backslash doubled where it begins with one
abbrev pub escaped : List ℕ → List ℕ
escaped t = if starts_with nat_eq t (codes "\\") then codes "\\" ++ t else t

-- the canonical field of a cell
abbrev pub canonical_field : Option Value → List ℕ
canonical_field None = codes "\\N"
canonical_field (Some (value.Text t)) = escaped t
canonical_field (Some (value.Binary b)) = codes "\\x" ++ encode_upper b
canonical_field (Some v) = lexical_form v
