use Rattle.std.proofs.Common.{◌≡◌, ◌∙◌, List, ℕ, ap}
use Rattle.std.proofs.lemmas.Result.{IfOk-weaker}
use Rattle.names_dm.specs.Names.{table_iri}
use Rattle.pattern_dm.specs.declared.pattern.Operand.TheVariants as operands
use Rattle.pattern_dm.specs.declared.pattern.Pattern.{Pattern}
use Rattle.pattern_dm.specs.declared.pattern.Pattern.TheVariants as patterns
use Rattle.table_patterns_dm.specs.TablePatterns.{type_triple}
use Rattle.table_translation_dm.proofs.triples.type_triple.Goals as goal

pub returns : goal.returns
returns c =
    let base = c.args.base.now in
    let table = c.args.table.now in
    let class : c.in_ok-object.object ≡ table_iri base table = c.in_ok-object.ensures.text ∙ ap (λ (n : List ℕ). table_iri base n) c.as_str.ensures.chars in
    IfOk-weaker c.triple.result (λ (p : Pattern). p ≡ patterns.Triple (operands.Var c.in_ok-subject.subject) (operands.Iri c.in_ok-predicate.predicate) (operands.Iri c.in_ok-object.object))
    (λ (p : Pattern). p ≡ type_triple base table)
    (λ p e. e ∙ (λ i. patterns.Triple (operands.Var (c.in_ok-subject.ensures i)) (operands.Iri (c.in_ok-predicate.ensures i)) (operands.Iri (class i)))) c.triple.ensures
