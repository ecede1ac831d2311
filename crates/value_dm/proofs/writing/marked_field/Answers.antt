use Rattle.std.proofs.Common.{◌≡◌, ◌∙◌, ◌∷◌, ◌++◌, ap, sym, subst, List, ℕ, lit<}
use Rattle.std.specs.Prelude.{chars, string_bytes}
use Rattle.std.proofs.lemmas.Str.{IsUtf8-string_bytes}
use Rattle.value_dm.specs.Written.{Writes}
use Rattle.value_dm.proofs.Texts.{writes_own, writes_cons, utf8_cons}
use Rattle.value_dm.proofs.writing.marked_field.Goals as goal

pub returns : goal.returns
returns c =
    let utf8 = IsUtf8-string_bytes c.args.digits in
    let e : string_bytes c.push_str.new.self ≡ 92 ∷ 120 ∷ string_bytes c.args.digits =
    c.in_ok-push_str.ensures.bytes ∙ ap (λ x. x ++ c.as_str.result.now) c.in_ok-field.ensures.ok ∙ ap (λ x. 92 ∷ 120 ∷ x) c.as_str.ensures.value in
    let Q : List ℕ → Type 0 = λ x. Writes x (92 ∷ 120 ∷ chars (string_bytes c.args.digits)) in
    subst Q (sym e) (writes_cons 92 _ _ (lit< tt) (utf8_cons 120 _ (lit< tt) utf8) (writes_cons 120 _ _ (lit< tt) utf8 (writes_own _ utf8)))
