-- Words for the parts of a text that readers take one after another.
use Prim.Native.Char.{code}
use Rattle.std.specs.Prelude.{ℕ, ◌≡◌, ◌≢◌, ◌≤◌, List, [], ◌∷◌, ◌++◌, ◌==◌, ◌&&◌, if◌then◌else◌}
use Rattle.std.specs.Char.{digit_value}
use Rattle.value_dm.specs.Digits.{fixed_digits}

-- no digit stands first
abbrev pub BeginsWithNoDigit : List ℕ → Type 0
BeginsWithNoDigit [] = Unit {0}
BeginsWithNoDigit (c ∷ cs) = 10 ≤ digit_value c

-- no sign stands first
abbrev pub BeginsWithNoSign : List ℕ → Type 0
BeginsWithNoSign [] = Unit {0}
BeginsWithNoSign (c ∷ cs) = (c ≢ code "+") × (c ≢ code "-")

-- a number of so many digits and two numbers of two digits, each of these behind the separator, and what follows
abbrev pub three_numbers_onto : ℕ → ℕ → ℕ → ℕ → ℕ → List ℕ → List ℕ
three_numbers_onto count separator a b c rest =
    fixed_digits count a ++ (separator ∷ (fixed_digits 2 b ++ (separator ∷ (fixed_digits 2 c ++ rest))))

-- what follows `\x` where the text begins with it, and else the text
abbrev pub hex_digits_of : List ℕ → List ℕ
hex_digits_of [] = []
hex_digits_of (a ∷ []) = a ∷ []
hex_digits_of (a ∷ b ∷ rest) = if (a == code "\\") && (b == code "x") then rest else a ∷ b ∷ rest

abbrev pub BeginsWithTwoBackslashes : List ℕ → Type 0
BeginsWithTwoBackslashes [] = ⊥
BeginsWithTwoBackslashes (a ∷ []) = ⊥
BeginsWithTwoBackslashes (a ∷ b ∷ rest) = (a ≡ code "\\") × (b ≡ code "\\")

abbrev pub BeginsWithBackslash : List ℕ → Type 0
BeginsWithBackslash [] = ⊥
BeginsWithBackslash (a ∷ rest) = a ≡ code "\\"
