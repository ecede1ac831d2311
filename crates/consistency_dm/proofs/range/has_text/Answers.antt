use Rattle.std.proofs.Common.{◌∙◌, refl}
use Rattle.names_dm.proofs.Ascii.{same_text}
use Rattle.consistency_dm.proofs.Texts.{ascii_chars}
use Rattle.consistency_dm.proofs.range.has_text.Goals as goal

pub returns : goal.returns
returns c =
    c.eq.ensures ∙ same_text _ c.args.text.now c.as_str.utf8 c.utf8.text
    ∙ rw (c.as_str.ensures.chars, ascii_chars c.args.text.now c.requires) refl
