use Rattle.std.proofs.Common.{◌≡◌, ◌∙◌, ap, sym, refl, chars, encode_utf8_all}
use Rattle.std.specs.Char.{encode_utf8}
use Rattle.std.specs.Str.{IsUtf8}
use Rattle.std.proofs.lemmas.Str.{chars-encodes}
use Rattle.names_dm.specs.Literals.{xsd_string}
use Rattle.names_dm.proofs.Ascii.{same_text}
use Rattle.names_dm.proofs.literal.is_string_type.Goals as goal

one_byte_each : encode_utf8_all xsd_string ≡ xsd_string
unfolding encode_utf8
one_byte_each = refl

is_text : IsUtf8 xsd_string
is_text = (xsd_string, (refl, one_byte_each))

its_characters : chars xsd_string ≡ xsd_string
its_characters = ap chars (sym one_byte_each) ∙ chars-encodes xsd_string refl

pub returns-in-Typed : goal.returns-in-Typed
returns-in-Typed c =
    rw c.in-Typed.is
    (c.eq.ensures ∙ same_text _ xsd_string c.as_str.utf8 is_text ∙ rw (c.as_str.ensures.chars, its_characters) refl)
