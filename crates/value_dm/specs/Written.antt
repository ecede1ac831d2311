-- The bytes of a text.
use Rattle.std.specs.Prelude.{◌≡◌, ℕ, List, chars, encode_utf8_all}

-- the bytes are the UTF-8 form of the characters, and are read as them
pub record Writes (bytes characters : List ℕ) : Type 0 where
  pub encoded : bytes ≡ encode_utf8_all characters
  pub decoded : chars bytes ≡ characters
