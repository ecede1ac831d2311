use Rattle.std.proofs.Common.{◌≡◌, ◌∙◌}
use Rattle.std.proofs.lemmas.Result.{IfOk-weaker}
use Rattle.names_dm.specs.Names.{column_iri}
use Rattle.pattern_dm.specs.declared.pattern.Operand.TheVariants as operands
use Rattle.pattern_dm.specs.declared.pattern.Pattern.{Pattern}
use Rattle.pattern_dm.specs.declared.pattern.Pattern.TheVariants as patterns
use Rattle.table_patterns_dm.specs.TablePatterns.{value_triple}
use Rattle.table_translation_dm.proofs.triples.value_triple.Goals as goal

pub returns : goal.returns
returns c =
    let base = c.args.base.now in
    let node = c.args.node in
    let table = c.args.table.now in
    let column = c.args.column.now in
    let property : c.in_ok-predicate.predicate ≡ column_iri base (record { table = table; column = column }) = c.in_ok-predicate.ensures.text ∙ (λ i. column_iri base (record { table = c.as_str.ensures.chars i; column = c.as_str-2.ensures.chars i })) in
    IfOk-weaker c.triple.result (λ (p : Pattern). p ≡ patterns.Triple (operands.Var node) (operands.Iri c.in_ok-predicate.predicate) (operands.Var c.in_ok-object.object))
    (λ (p : Pattern). p ≡ value_triple base node table column c.args.attribute.now)
    (λ p e. e ∙ (λ i. patterns.Triple (operands.Var node) (operands.Iri (property i)) (operands.Var (c.in_ok-object.ensures i)))) c.triple.ensures
