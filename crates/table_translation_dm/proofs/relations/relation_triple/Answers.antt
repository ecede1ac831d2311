use Rattle.std.proofs.Common.{◌≡◌, ◌∙◌}
use Rattle.std.proofs.lemmas.Result.{IfOk-weaker}
use Rattle.names_dm.specs.Names.{rel_iri}
use Rattle.pattern_dm.specs.declared.pattern.Operand.TheVariants as operands
use Rattle.pattern_dm.specs.declared.pattern.Pattern.{Pattern}
use Rattle.pattern_dm.specs.declared.pattern.Pattern.TheVariants as patterns
use Rattle.table_patterns_dm.specs.TablePatterns.{row_variable, second_variable}
use Rattle.table_translation_dm.proofs.relations.relation_triple.Goals as goal

pub returns : goal.returns
returns c =
    IfOk-weaker c.triple.result (λ (p : Pattern). p ≡ patterns.Triple (operands.Var c.in_ok-subject.subject) (operands.Iri c.in_ok-predicate.predicate) (operands.Var c.in_ok-object.object))
    (λ (p : Pattern). p ≡ patterns.Triple (operands.Var row_variable) (operands.Iri (rel_iri c.args.base.now c.args.name.now)) (operands.Var second_variable))
    (λ p e. e ∙ (λ i. patterns.Triple (operands.Var (c.in_ok-subject.ensures i)) (operands.Iri (c.in_ok-predicate.ensures.text i)) (operands.Var (c.in_ok-object.ensures i)))) c.triple.ensures
