use Rattle.std.proofs.Common.{◌≡◌, ◌∙◌, ◌∷◌, ◌++◌, ap, sym, subst, List, ℕ, lit<}
use Rattle.std.specs.Prelude.{chars, string_bytes}
use Rattle.std.proofs.lemmas.Str.{IsUtf8-string_bytes}
use Rattle.value_dm.specs.Reading.{BeginsWithBackslash}
use Rattle.value_dm.specs.Written.{Writes}
use Rattle.value_dm.proofs.Texts.{escaped_one, escaped_none, writes_along, writes_own, writes_cons}
use Rattle.value_dm.proofs.writing.escaped_field.Goals as goal

pub returns-then-not-has_backslash : goal.returns-then-not-has_backslash
returns-then-not-has_backslash c =
    let utf8 = IsUtf8-string_bytes c.args.text in
    let P : List ℕ → Type 0 = BeginsWithBackslash in
    let bytes = c.as_bytes.ensures.value ∙ c.as_str.ensures.value in
    writes_along _ _ _ (sym (escaped_none (string_bytes c.args.text) utf8 (λ h. c.if-not-has_backslash.ensures (subst P (sym bytes) h)))) (writes_own _ utf8)

pub returns : goal.returns
returns c =
    let utf8 = IsUtf8-string_bytes c.args.text in
    let P : List ℕ → Type 0 = BeginsWithBackslash in
    let bytes = c.as_bytes.ensures.value ∙ c.as_str.ensures.value in
    let e : string_bytes c.push_str.new.self ≡ 92 ∷ string_bytes c.args.text =
    c.in_ok-push_str.ensures.bytes ∙ ap (λ x. x ++ c.as_str-2.result.now) c.in_ok-field.ensures.ok ∙ ap (λ x. 92 ∷ x) c.as_str-2.ensures.value in
    let Q : List ℕ → Type 0 = λ x. Writes x (92 ∷ chars (string_bytes c.args.text)) in
    writes_along _ _ _ (sym (escaped_one (string_bytes c.args.text) utf8 (subst P bytes c.if-not-has_backslash.ensures)))
    (subst Q (sym e) (writes_cons 92 _ _ (lit< tt) utf8 (writes_own _ utf8)))
