use Rattle.std.proofs.Common.{◌∙◌, ap, sym, subst, List, ℕ}
use Rattle.std.specs.Prelude.{chars}
use Rattle.value_dm.specs.Reading.{BeginsWithTwoBackslashes}
use Rattle.value_dm.proofs.Texts.{unescaped_two, unescaped_other}
use Rattle.value_dm.proofs.field.without_backslash.Goals as goal

pub returns-then-has_two_backslashes : goal.returns-then-has_two_backslashes
returns-then-has_two_backslashes c =
    let P : List ℕ → Type 0 = BeginsWithTwoBackslashes in
    ap chars c.range_from.ensures.value
    ∙ unescaped_two c.args.text.now c.utf8.text (subst P c.as_bytes.ensures.value c.if-has_two_backslashes.ensures)

pub returns-else-has_two_backslashes : goal.returns-else-has_two_backslashes
returns-else-has_two_backslashes c =
    let P : List ℕ → Type 0 = BeginsWithTwoBackslashes in
    unescaped_other c.args.text.now c.utf8.text (λ two. c.if-has_two_backslashes.ensures (subst P (sym c.as_bytes.ensures.value) two))
