use Rattle.std.proofs.Common.{◌∙◌, ap, sym, Some, chars}
use Rattle.names_dm.specs.Reading.{unsafe_form}
use Rattle.names_dm.proofs.ReadBack.{unsafe_form-none, unsafe_form-safe_form}
use Rattle.names_dm.proofs.readers.told_text.Goals as goal

pub returns-in_ok-from_str-in-Ok : goal.returns-in_ok-from_str-in-Ok
returns-in_ok-from_str-in-Ok c =
    ap Some (c.in_ok-from_str-in-Ok.ensures.chars ∙ ap chars c.as_str.ensures.value)
    ∙ sym (ap unsafe_form (sym c.in-Ok.ensures.ok) ∙ unsafe_form-safe_form _)

pub returns-in-Err-NotSafe : goal.returns-in-Err-NotSafe
returns-in-Err-NotSafe c = sym (unsafe_form-none _ (c.in-Err-NotSafe.ensures.refused (cc)))
