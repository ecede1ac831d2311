use Rattle.std.proofs.Common.{◌≡◌, ◌∙◌, ap, sym, subst, Err}
use Rattle.std.proofs.lemmas.Str.{scalars-chars}
use Rattle.value_dm.specs.Texts.{IsText}
use Rattle.value_dm.proofs.Values.{no_bytes}
use Rattle.value_dm.specs.declared.errors.ValueError.TheVariants.{BadValue}
use Rattle.value_dm.proofs.canonical.read_value.Goals as goal

pub returns-in-Err-clause-bad : goal.returns-in-Err-clause-bad
returns-in-Err-clause-bad c =
    λ is v kind spelled.
    let e : c.in-Err.error ≡ BadValue = cc is in
    no_bytes _ v (kind ∙ c.in-Binary.is) (c.in-Err.ensures.bad (ap Err e)) spelled

pub returns-in_ok-from_str-in-Text-clause-ok : goal.returns-in_ok-from_str-in-Text-clause-ok
returns-in_ok-from_str-in-Text-clause-ok c =
    let text = c.in_ok-from_str-in-Text.ensures.chars in
    (sym c.in-Text.is, (sym text, subst IsText (sym text) (scalars-chars c.args.text.now c.utf8.text)))
