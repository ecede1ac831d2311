use Rattle.std.proofs.Common.{◌≡◌, ◌∙◌, List, [], ◌∷◌, ap, arith, length, refl, sym, ℕ}
use Rattle.std.proofs.lemmas.Bool.{eqb-true}
use Rattle.std.proofs.lemmas.Str.{chars-nil}
use Rattle.std.specs.Prelude.{chars}
use Rattle.query_text_dm.specs.Words.{some_name}
use Rattle.query_text_dm.proofs.reader.some_name.Goals as goal

nil_of : (ts : List ℕ) → length ts ≡ 0 → ts ≡ []
nil_of [] e = refl
nil_of (c ∷ ts) e = absurd (omega (arith, e))

pub returns-then-is_empty : goal.returns-then-is_empty
returns-then-is_empty c =
    let none = nil_of c.as_str.result.now (eqb-true (length c.as_str.result.now) 0 (sym c.is_empty.ensures ∙ c.if-is_empty.true)) in
    ap some_name (sym (sym c.as_str.ensures.chars ∙ ap chars none ∙ chars-nil))
