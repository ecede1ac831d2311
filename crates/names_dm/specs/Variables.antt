-- The variables of names.
use Prim.Native.Char.{code}
use Rattle.std.specs.Prelude.{ℕ, ◌≡◌, ◌⊎◌, ◌/◌, ◌%◌, ◌++◌, ◌||◌, Bool, true, List, [], ◌∷◌, codes, if◌then◌else◌, nat_lt, encode_utf8_all}
use Rattle.std.specs.Fmt.{digit_glyph}
use Rattle.std.specs.List.{flat_map}
use Rattle.names_dm.specs.Terminals.{is_letter_or_digit}

-- an ASCII letter or digit, or what is no byte, so that the laws of variables hold of all lists
unfoldable pub stays_in_variable : ℕ → Bool
stays_in_variable b = is_letter_or_digit b || nat_lt 255 b

-- the byte itself, or `_` and two upper-case hexadecimal digits
abbrev pub variable_byte : ℕ → List ℕ
variable_byte b = if stays_in_variable b then b ∷ [] else code "_" ∷ digit_glyph true (b / 16) ∷ digit_glyph true (b % 16) ∷ []

-- the variable of a name, byte by byte of its UTF-8 form
abbrev pub variable_of : List ℕ → List ℕ
variable_of name = flat_map variable_byte (encode_utf8_all name)

-- what queries name themselves: `_r`, `_s`, `_m`, and whatever begins with `_q`
abbrev pub IsReserved : List ℕ → Type 0
IsReserved text = (text ≡ codes "_r") ⊎ ((text ≡ codes "_s") ⊎ ((text ≡ codes "_m") ⊎ ((rest : List ℕ) × (text ≡ codes "_q" ++ rest))))
