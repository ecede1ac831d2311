use Rattle.std.proofs.Common.{◌≡◌, ◌∙◌, ap, sym, chars, Err}
use Rattle.std.proofs.lemmas.Str.{encodes-chars}
use Rattle.std.specs.Prelude.{encode_utf8_all, string_bytes}
use Rattle.value_dm.specs.Lexical.{lexical_form}
use Rattle.value_dm.proofs.Texts.{not_equal_texts}
use Rattle.value_dm.proofs.Values.{form_of_one, form_spells, value_one}
use Rattle.value_dm.proofs.reading.read_lexical.Goals as goal

pub returns-in-Err-BadValue-clause-bad : goal.returns-in-Err-BadValue-clause-bad
returns-in-Err-BadValue-clause-bad c =
    λ _ v lawful kind form. c.in-Err-BadValue.ensures.bad (ap Err c.in-Err-BadValue.field-0-is) v kind (form_spells _ v lawful form)

pub returns-then-ne-clause-bad : goal.returns-then-ne-clause-bad
returns-then-ne-clause-bad c =
    λ _ v lawful kind form.
    let same = value_one _ v c.in-Ok.value (kind ∙ sym c.in-Ok.ensures.ok.0) (form_spells _ v lawful form) c.in-Ok.ensures.ok.1 in
    let e : string_bytes c.in-Ok-lexical.form ≡ c.args.text.now =
    c.in-Ok-lexical.ensures.bytes ∙ ap encode_utf8_all (ap lexical_form (sym same) ∙ form) ∙ encodes-chars c.args.text.now c.utf8.text in
    not_equal_texts _ _ c.if-ne.ensures (c.as_str.ensures.value ∙ e)

pub returns-in-Err-BadValue-clause-one : goal.returns-in-Err-BadValue-clause-one
returns-in-Err-BadValue-clause-one c = form_of_one c.args.kind (chars c.args.text.now)

pub returns-in-Err-Memory-clause-one : goal.returns-in-Err-Memory-clause-one
returns-in-Err-Memory-clause-one c = form_of_one c.args.kind (chars c.args.text.now)

pub returns-in-Err-clause-one : goal.returns-in-Err-clause-one
returns-in-Err-clause-one c = form_of_one c.args.kind (chars c.args.text.now)

pub returns-then-ne-clause-one : goal.returns-then-ne-clause-one
returns-then-ne-clause-one c = form_of_one c.args.kind (chars c.args.text.now)
