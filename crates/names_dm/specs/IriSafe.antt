-- The IRI-safe form of a text (R2RML, section 7.3, with the characters of `iunreserved` of RFC 3987, section 2.2).
use Prim.Native.Char.{code}
use Rattle.std.specs.Prelude.{ℕ, ◌%◌, ◌==◌, ◌||◌, ◌&&◌, Bool, List, [], ◌∷◌, if◌then◌else◌, nat_lt, encode_utf8}
use Rattle.std.specs.List.{flat_map}
use Rattle.percent_encoding.specs.Percent.{percent_encode_byte}
use Rattle.names_dm.specs.Characters.{between}
use Rattle.names_dm.specs.Terminals.{is_letter_or_digit}

-- an ASCII letter or digit, `-`, `.`, `_` or `~`
abbrev pub is_unreserved : ℕ → Bool
is_unreserved c = is_letter_or_digit c || (c == code "-") || (c == code ".") || (c == code "_") || (c == code "~")

-- a character past ASCII that stands in an IRI as it is: `ucschar`
abbrev pub is_iri_character : ℕ → Bool
is_iri_character c = between 0xA0 0xD7FF c || between 0xF900 0xFDCF c || between 0xFDF0 0xFFEF c
    || (between 0x10000 0xDFFFD c && nat_lt (c % 0x10000) 0xFFFE) || between 0xE1000 0xEFFFD c

-- a number that is no character, so that no text holds it
abbrev pub is_no_character : ℕ → Bool
is_no_character c = between 0xD800 0xDFFF c || nat_lt 0x10FFFF c

-- the character stands for itself; so does what is no character, which makes the laws of names hold of all lists
unfoldable pub stays : ℕ → Bool
stays c = is_unreserved c || is_iri_character c || is_no_character c

-- each byte of the character's UTF-8 form as `%` and two upper-case hexadecimal digits
unfoldable pub escapes : ℕ → List ℕ
escapes c = flat_map percent_encode_byte (encode_utf8 c)

abbrev pub safe_character : ℕ → List ℕ
safe_character c = if stays c then c ∷ [] else escapes c

-- the safe form of each character, in order
abbrev pub safe_form : List ℕ → List ℕ
safe_form text = flat_map safe_character text
