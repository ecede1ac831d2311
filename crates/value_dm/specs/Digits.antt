-- Numbers written in base ten with a fixed count of digits.
use Rattle.std.specs.Prelude.{ℕ, zero, suc, ◌+◌, ◌/◌, ◌%◌, List, [], ◌∷◌, ◌++◌, ◌==◌, if◌then◌else◌, codes}

-- the last digits of n, so many as count says, with zeros in front
unfoldable pub fixed_digits : ℕ → ℕ → List ℕ
fixed_digits zero n = []
fixed_digits (suc count) n = fixed_digits count (n / 10) ++ (48 + n % 10) ∷ []

-- a point and n as so many fraction digits; nothing for no digits
abbrev pub fraction_text : ℕ → ℕ → List ℕ
fraction_text zero n = []
fraction_text (suc count) n = codes "." ++ fixed_digits (suc count) n

-- the same without the zeros at its end
unfoldable pub short_fraction_text : ℕ → ℕ → List ℕ
short_fraction_text zero n = []
short_fraction_text (suc count) n =
    if n % 10 == 0 then short_fraction_text count (n / 10) else fraction_text (suc count) n
