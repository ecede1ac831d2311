use Rattle.std.proofs.Common.{◌∙◌, sym}
use Rattle.value_dm.proofs.CanonicalFields.{field_spells, field_of_other}
use Rattle.value_dm.proofs.Texts.{writes_along}
use Rattle.value_dm.proofs.writing.value_field.Goals as goal

pub returns-in_err-form-clause-spells : goal.returns-in_err-form-clause-spells
returns-in_err-form-clause-spells c = field_spells _ c.lexical.ensures.lawful

pub returns-in-Binary-clause-spells : goal.returns-in-Binary-clause-spells
returns-in-Binary-clause-spells c = field_spells _ c.lexical.ensures.lawful

pub returns-in_default : goal.returns-in_default
returns-in_default c = record {
  written =
      writes_along _ _ _
      (sym (field_of_other _ (λ e. c.in_default.not-Text (c.kind.ensures ∙ e)) (λ e. c.in_default.not-Binary (c.kind.ensures ∙ e))))
      (record { encoded = c.in_ok-form.ensures.bytes; decoded = c.in_ok-form.ensures.characters });
  spells = field_spells _ c.lexical.ensures.lawful;
}
