-- What holds of each value by its type, beside the laws that decimals, dates and times keep themselves.
use Rattle.std.specs.Prelude.{FitsSigned}
use Rattle.std.specs.Int.{w64}
use Rattle.hex.specs.Hex.{IsBytes}
use Rattle.value_dm.specs.Texts.{IsText}
use Rattle.value_dm.specs.declared.value.Value.{Value}
use Rattle.value_dm.specs.declared.value.Value.TheVariants as value

-- a text has scalar values, an integer has 64 bits, and a byte has 8
abbrev pub IsLawful : Value → Type 0
IsLawful (value.Text t) = IsText t
IsLawful (value.Integer z) = FitsSigned w64 z
IsLawful (value.Binary b) = IsBytes b
IsLawful _ = Unit {0}
