use Rattle.std.proofs.Common.{◌≡◌, ◌∙◌, ℕ, List, false, true, refl, sym, subst}
use Rattle.std.specs.Prelude.{IsTrue}
use Rattle.names_dm.specs.Namespaces.{is_base}
use Rattle.names_dm.specs.Terminals.{is_iri}
use Rattle.bench_dm.proofs.Texts.{chars_letters}
use Rattle.bench_lines_dm.specs.Bench.{base_text}
use Rattle.bench_lines_dm.proofs.lines.base.Goals as goal

is_good : IsTrue (is_base base_text)
unfolding is_base is_iri
is_good = refl

pub unreachable-requires : goal.unreachable-requires
unreachable-requires c =
    let text : c.in_ok-from_str.field-0 ≡ base_text = c.in_ok-from_str.ensures.chars ∙ chars_letters base_text refl in
    let none : false ≡ true = c.in-Err.ensures.grammar.1 (subst (λ (t : List ℕ). IsTrue (is_base t)) (sym text) is_good) in
    cc

pub returns : goal.returns
returns c = c.in-Ok.ensures.text ∙ (c.in_ok-from_str.ensures.chars ∙ chars_letters base_text refl)
