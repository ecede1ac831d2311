-- Texts (The Unicode Standard, section 3.9: Unicode scalar values).
use Rattle.std.specs.Prelude.{ℕ, ◌≡◌, true, List}
use Rattle.std.specs.Str.{all_scalars}

-- each character of a text is a scalar value: below 0x110000, and no surrogate
abbrev pub IsText : List ℕ → Type 0
IsText characters = all_scalars characters ≡ true
