use Rattle.std.proofs.Common.{◌≡◌, ◌∙◌, ◌++◌, IsTrue, List, ℕ, subst, sym, ap, codes}
use Rattle.names_dm.specs.Terminals.{is_variable}
use Rattle.pattern_parts_dm.proofs.TextLemmas.{front_text, front_utf8, longer_variable, right_text}
use Rattle.pattern_parts_dm.proofs.variables.right_variable.Goals as goal

pub reserved-requires : goal.reserved-requires
reserved-requires c =
    let made : c.from_string.result ≡ codes "_q" ++ c.in_ok-own.own = c.from_string.ensures ∙ right_text _ c.in_ok-own.own _ _ front_utf8 front_text c.as_str.ensures.chars (c.in_ok-push_str.ensures.bytes ∙ ap (λ b. b ++ c.as_str.result.now) c.in_ok-text.ensures.ok) in
    subst (λ (t : List ℕ). IsTrue (is_variable t)) (sym made) (longer_variable c.in_ok-own.own c.as_str.ensures.grammar)

pub returns : goal.returns
returns c =
    let made : c.from_string.result ≡ codes "_q" ++ c.in_ok-own.own = c.from_string.ensures ∙ right_text _ c.in_ok-own.own _ _ front_utf8 front_text c.as_str.ensures.chars (c.in_ok-push_str.ensures.bytes ∙ ap (λ b. b ++ c.as_str.result.now) c.in_ok-text.ensures.ok) in
    c.reserved.ensures ∙ made ∙ ap (λ v. codes "_q" ++ v) c.in_ok-own.ensures
