-- Which texts of a field stand for which cell.
use Rattle.std.specs.Prelude.{◌≡◌, ◌≢◌, ◌⊎◌, ℕ, ℤ, pos, neg_ℤ, ◌*◌, ◌^◌, ◌≤◌, Bool, true, false, List, [], ◌++◌, length, drop, map, codes, nat_eq, unsigned_abs, if◌then◌else◌}
use Rattle.std.specs.Prelude.{Option, Some, None, Ok, FitsSigned}
use Rattle.std.specs.Int.{w64}
use Rattle.std.specs.Char.{to_ascii_lowercase}
use Rattle.std.specs.List.{starts_with}
use Rattle.std.specs.Str.Parse.{IsNumeral, digits_value}
use Rattle.hex.specs.Hex.{decode_of}
use Rattle.value_dm.specs.Kinds.{kind_of}
use Rattle.value_dm.specs.Lexical.{date_text, clock_text}
use Rattle.value_dm.specs.Texts.{IsText}
use Rattle.value_dm.specs.declared.calendar.Time.{Time}
use Rattle.value_dm.specs.declared.calendar.DateTime.{DateTime}
use Rattle.value_dm.specs.declared.decimal.Decimal.{Decimal}
use Rattle.value_dm.specs.declared.kind.Kind.{Kind}
use Rattle.value_dm.specs.declared.kind.Kind.TheVariants as kind
use Rattle.value_dm.specs.declared.mode.NullMode.{NullMode}
use Rattle.value_dm.specs.declared.mode.NullMode.TheVariants as mode
use Rattle.value_dm.specs.declared.value.Value.{Value}
use Rattle.value_dm.specs.declared.value.Value.TheVariants as value

-- a sign before digits: none, `+`, or the `-` of a negative number
abbrev pub IsSign : List ℕ → Bool → Type 0
IsSign sign negative =
    ((sign ≡ []) × (negative ≡ false)) ⊎ (((sign ≡ codes "+") × (negative ≡ false)) ⊎ ((sign ≡ codes "-") × (negative ≡ true)))

abbrev pub signed : Bool → ℕ → ℤ
signed true n = neg_ℤ (pos n)
signed false n = pos n

-- a sign and one or more digits write the number, which has 64 bits
pub record SpellsInteger (field : List ℕ) (z : ℤ) : Type 0 where
  pub sign : List ℕ
  pub negative : Bool
  pub digits : List ℕ
  pub text : field ≡ sign ++ digits
  pub is_sign : IsSign sign negative
  pub is_numeral : IsNumeral 10 digits
  pub value : z ≡ signed negative (digits_value 10 digits)
  pub fits : FitsSigned w64 z

-- a point before the digits of a fraction; with no point there are none
abbrev pub IsPoint : List ℕ → List ℕ → Type 0
IsPoint point fraction = ((point ≡ []) × (fraction ≡ [])) ⊎ (point ≡ codes ".")

-- a sign, digits, and optionally a point and digits; at least one digit in all
pub record IsNumberText (field : List ℕ) (negative : Bool) (whole fraction : List ℕ) : Type 0 where
  pub sign : List ℕ
  pub point : List ℕ
  pub text : field ≡ sign ++ (whole ++ (point ++ fraction))
  pub is_sign : IsSign sign negative
  pub is_point : IsPoint point fraction
  pub is_numeral : IsNumeral 10 (whole ++ fraction)

-- The sign and the digits write the decimal: as whole numbers with a count of fraction digits both are one number, so
-- they are equal at the sum of both counts. That the decimal has at most 38 digits is a law of its type: they are those
-- that are left without the zeros before the point and those at the end of the fraction.
pub record IsSameNumber (negative : Bool) (whole fraction : List ℕ) (d : Decimal) : Type 0 where
  pub size : digits_value 10 (whole ++ fraction) * 10 ^ d.scale ≡ unsigned_abs d.coefficient * 10 ^ length fraction
  pub side : d.coefficient ≡ signed negative (unsigned_abs d.coefficient)

pub record SpellsDecimal (field : List ℕ) (d : Decimal) : Type 0 where
  pub negative : Bool
  pub whole : List ℕ
  pub fraction : List ℕ
  pub text : IsNumberText field negative whole fraction
  pub number : IsSameNumber negative whole fraction d

abbrev pub IsInAnyCase : List ℕ → List ℕ → Type 0
IsInAnyCase field word = map to_ascii_lowercase field ≡ word

-- one of three words, in any case of ASCII
abbrev pub SpellsBoolean : List ℕ → Bool → Type 0
SpellsBoolean field true = IsInAnyCase field (codes "true") ⊎ (IsInAnyCase field (codes "t") ⊎ IsInAnyCase field (codes "1"))
SpellsBoolean field false = IsInAnyCase field (codes "false") ⊎ (IsInAnyCase field (codes "f") ⊎ IsInAnyCase field (codes "0"))

-- a point and one to nine digits of a second; they and the nanoseconds are one number, as with decimals
pub record HasFraction (rest : List ℕ) (nanosecond : ℕ) : Type 0 where
  pub digits : List ℕ
  pub text : rest ≡ codes "." ++ digits
  pub is_numeral : IsNumeral 10 digits
  pub at_most_nine : length digits ≤ 9
  pub value : digits_value 10 digits * 10 ^ 9 ≡ nanosecond * 10 ^ length digits

-- the part of a second, which may be left out where it is 0
abbrev pub SpellsFraction : List ℕ → ℕ → Type 0
SpellsFraction rest nanosecond = ((rest ≡ []) × (nanosecond ≡ 0)) ⊎ HasFraction rest nanosecond

-- `HH:MM:SS` and the part of a second
pub record SpellsTime (field : List ℕ) (t : Time) : Type 0 where
  pub rest : List ℕ
  pub text : field ≡ clock_text t ++ rest
  pub fraction : SpellsFraction rest t.nanosecond

-- a date, `T` or one space, and a time
pub record SpellsDateTime (field : List ℕ) (d : DateTime) : Type 0 where
  pub separator : List ℕ
  pub rest : List ℕ
  pub text : field ≡ date_text d.date ++ separator ++ rest
  pub is_separator : (separator ≡ codes "T") ⊎ (separator ≡ codes " ")
  pub time : SpellsTime rest d.time

-- two hexadecimal digits a byte, in either case, after `\x` or alone
abbrev pub SpellsBinary : List ℕ → List ℕ → Type 0
SpellsBinary field bytes =
    (decode_of field ≡ Ok bytes) ⊎ ((digits : List ℕ) × (field ≡ codes "\\x" ++ digits) × (decode_of digits ≡ Ok bytes))

-- the text stands for the value, where nothing is NULL and no backslash is doubled
abbrev pub SpellsValue : List ℕ → Value → Type 0
SpellsValue field (value.Text t) = (field ≡ t) × IsText t
SpellsValue field (value.Integer z) = SpellsInteger field z
SpellsValue field (value.Decimal d) = SpellsDecimal field d
SpellsValue field (value.Boolean b) = SpellsBoolean field b
SpellsValue field (value.Date d) = field ≡ date_text d
SpellsValue field (value.Time t) = SpellsTime field t
SpellsValue field (value.DateTime d) = SpellsDateTime field d
SpellsValue field (value.Binary b) = SpellsBinary field b

-- a field of a text column that begins with two backslashes loses one
abbrev pub unescaped : Kind → List ℕ → List ℕ
unescaped kind.Text field = if starts_with nat_eq field (codes "\\\\") then drop 1 field else field
unescaped _ field = field

-- `\N` is NULL in each column. An empty field is NULL in a column of another kind than text, and in the mode
-- EmptyNull in each.
abbrev pub IsNull : Kind → List ℕ → NullMode → Type 0
IsNull k field m = (field ≡ codes "\\N") ⊎ ((field ≡ []) × ((k ≢ kind.Text) ⊎ (m ≡ mode.EmptyNull)))

-- the field of a column of this kind stands for the cell
abbrev pub Spells : Kind → List ℕ → NullMode → Option Value → Type 0
Spells k field m None = IsNull k field m
Spells k field m (Some v) = (¬ IsNull k field m) × (kind_of v ≡ k) × SpellsValue (unescaped k field) v

abbrev pub mode_plain : NullMode
mode_plain = mode.Plain
