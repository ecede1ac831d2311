use Rattle.std.proofs.Common.{◌≡◌, ◌≢◌, Err, List, Option, Result, Some, ap, chars, subst, sym, ◌∙◌, ℕ}
use Rattle.value_dm.specs.declared.errors.ValueError.{ValueError}
use Rattle.value_dm.specs.declared.kind.Kind.{Kind}
use Rattle.value_dm.specs.declared.kind.Kind.TheVariants as kind
use Rattle.value_dm.specs.declared.mode.NullMode.TheVariants.{Plain}
use Rattle.value_dm.specs.declared.value.Value.{Value}
use Rattle.value_dm.specs.Spelling.{Spells}
use Rattle.query_tokens_dm.specs.Tokens.{Fits}
use Rattle.query_tokens_dm.proofs.Lexing.{field_of}
use Rattle.query_tokens_dm.proofs.fits.spelled.Goals as goal

pub returns-in-Err-BadValue : goal.returns-in-Err-BadValue
returns-in-Err-BadValue c = λ v h.
    c.read_field.ensures.bad (c.in-Err-BadValue.is ∙ ap (λ (e : ValueError). an_error e) c.in-Err-BadValue.field-0-is) (Some v)
    (subst (λ (t : List ℕ). Spells c.args.kind t Plain (Some v)) (sym c.as_str.ensures.chars) (field_of c.args.kind c.args.text.now v c.requires h))
  where
    an_error : ValueError → Result (Option Value) ValueError
    an_error e = Err e
