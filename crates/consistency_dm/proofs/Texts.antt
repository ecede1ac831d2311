-- Texts in ASCII, and the order of texts.
use Rattle.std.proofs.Common.{◌≡◌, ◌∙◌, ℕ, List, [], ◌∷◌, Option, None, Some, true, ltb, chars, ap, Equal, is_eq}
use Rattle.std.specs.Cmp.{IsTotalOrder}
use Rattle.std.specs.Cmp.Lexicographic.{bytes_decides, options_total}
use Rattle.std.specs.List.{list_all}
use Rattle.std.specs.Option.{option_cmp}
use Rattle.std.specs.Str.{IsAscii, encode_utf8_all}
use Rattle.std.proofs.lemmas.Bool.{ltb-true}
use Rattle.std.proofs.lemmas.Cmp.{nat_list_cmp_total, on_total}
use Rattle.std.proofs.lemmas.Str.{chars-IsAscii}
use Rattle.std.proofs.lemmas.Str.Ascii.{IsAscii-cons, IsAscii-nil}
use Rattle.value_dm.specs.Order.{byte_cmp, byte_cmp_ties}
use Rattle.names_dm.specs.Characters.{is_ascii}
use Rattle.names_dm.proofs.Ascii.{and_parts}

ascii_text : (text : List ℕ) → list_all is_ascii text ≡ true → IsAscii text
ascii_text [] e = IsAscii-nil
ascii_text (c ∷ text) e = let h = and_parts (ltb c 128) (list_all is_ascii text) e in IsAscii-cons c text (ltb-true c 128 h.0) (ascii_text text h.1)

pub ascii_chars : (text : List ℕ) → list_all is_ascii text ≡ true → chars text ≡ text
ascii_chars text e = chars-IsAscii text (ascii_text text e)

pub byte_total : IsTotalOrder byte_cmp
byte_total = on_total encode_utf8_all nat_list_cmp_total

pub datatypes_total : IsTotalOrder (option_cmp byte_cmp)
datatypes_total = options_total byte_total

pub text_ties : (xs ys : List ℕ) → byte_cmp xs ys ≡ Equal → xs ≡ ys
text_ties xs ys e = (bytes_decides xs ys).0 (byte_cmp_ties xs ys ∙ ap is_eq e)

pub datatype_ties : (a b : Option (List ℕ)) → option_cmp byte_cmp a b ≡ Equal → a ≡ b
datatype_ties None None e = λ i. None
datatype_ties None (Some y) e = cc e
datatype_ties (Some x) None e = cc e
datatype_ties (Some x) (Some y) e = ap (λ z. Some z) (text_ties x y e)
