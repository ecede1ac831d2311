-- Ranges of characters.
use Prim.Native.Char.{code}
use Rattle.std.specs.Prelude.{ℕ, Bool, ◌&&◌, ◌||◌, nat_le, nat_lt}

-- from the first to the last
abbrev pub between : ℕ → ℕ → ℕ → Bool
between first last c = nat_le first c && nat_le c last

abbrev pub is_ascii_digit : ℕ → Bool
is_ascii_digit c = between (code "0") (code "9") c

abbrev pub is_ascii_letter : ℕ → Bool
is_ascii_letter c = between (code "A") (code "Z") c || between (code "a") (code "z") c

abbrev pub is_ascii : ℕ → Bool
is_ascii c = nat_lt c 128
