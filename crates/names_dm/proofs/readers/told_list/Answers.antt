use Rattle.std.proofs.Common.{◌∙◌, ◌∷◌, [], sym, ap, chars, rules, List, ℕ, Option, Some}
use Rattle.std.specs.Prelude.{option_and_then}
use Rattle.std.specs.Str.{IsUtf8}
use Rattle.names_dm.specs.Reading.{list_of}
use Rattle.names_dm.proofs.TextLists.{list_of-bad, list_of-cut, list_of-last, with_more, with_more-none, with_more-step}
use Rattle.names_dm.proofs.readers.told_list.Goals as goal

pub parts-init : goal.parts-init
parts-init c = (rw c.new-texts.ensures (with_more-none (list_of (chars c.args.text.now))), c.utf8.text)

pub parts-preserved : goal.parts-preserved
parts-preserved c =
    let is_text : IsUtf8 c.in-Some.more.now = search rules in
    let rest = chars c.parts.rest.now in
    let more = chars c.in-Some.more.now in
    let one = c.in-Some-2.one in (
      c.parts.invariant.0
          ∙ ap (with_more c.parts.texts) (list_of-cut rest (chars c.in-Some.form.now) more one c.in-Some.ensures.parts (sym c.in_ok-one.ensures ∙ c.in-Some-2.is))
          ∙ with_more-step c.parts.texts one (list_of more) ∙ ap (λ (texts : List (List ℕ)). with_more texts (list_of more)) (sym c.in_ok-push.ensures.ok),
      is_text,
    )

pub parts-smaller : goal.parts-smaller
parts-smaller c = c.in-Some.ensures.shorter

pub returns-in_default-2 : goal.returns-in_default-2
returns-in_default-2 c =
    sym (c.parts.invariant.0
    ∙ ap (with_more c.parts.texts)
    (list_of-bad (chars c.parts.rest.now) (chars c.in-Some.form.now) (chars c.in-Some.more.now) c.in-Some.ensures.parts (sym c.in_ok-one.ensures ∙ c.in_default-2.is)))

one_more : Option (List ℕ) → Option (List (List ℕ))
one_more = option_and_then (λ one. Some (one ∷ []))

pub returns-in_default-3 : goal.returns-in_default-3
unfolding one_more
returns-in_default-3 c =
    sym (c.parts.invariant.0
    ∙ ap (with_more c.parts.texts) (list_of-last (chars c.parts.rest.now) c.in_default.ensures.parts ∙ ap one_more (sym c.in_ok-last.ensures ∙ c.in_default-3.is)))

pub returns : goal.returns
unfolding one_more
returns c =
    sym (c.parts.invariant.0
    ∙ ap (with_more c.parts.texts) (list_of-last (chars c.parts.rest.now) c.in_default.ensures.parts ∙ ap one_more (sym c.in_ok-last.ensures ∙ c.in-Some-3.is))
    ∙ ap Some (sym c.in_ok-push-2.ensures.ok))
