use Rattle.std.proofs.Common.{◌∙◌, true, false, sym}
use Rattle.std.proofs.lemmas.Result.{IfOk-weaker}
use Rattle.pattern_dm.specs.declared.masks.Masks.{Masks}
use Rattle.pattern_dm.specs.declared.operands.Side.TheVariants as sides
use Rattle.pattern_dm.specs.declared.pattern.Condition.TheVariants.{SameTerm}
use Rattle.pattern_dm.specs.Masks.{AreMasks, AreSplit}
use Rattle.pattern_dm.specs.Says.{AreSame}
use Rattle.pattern_dm.specs.Sides.{side_value}
use Rattle.pattern_dm.specs.Solved.{mapping_at}
use Rattle.pattern_dm.proofs.SideLemmas.{operand_masks}
use Rattle.pattern_dm.proofs.conditions.same_term.Goals as goal

pub returns-in-Var : goal.returns-in-Var
returns-in-Var c =
    let terms = c.args.graph.now.terms in
    let s = c.args.rows.now in
    let a = sides.Var c.in-Var.name in
    let b = c.in_ok-other.other in
    IfOk-weaker c.variable_and.result (λ (k : Masks). AreSplit s.rows (λ i. AreSame true (side_value a (mapping_at terms s i)) (side_value b (mapping_at terms s i))) (λ i. AreSame false (side_value a (mapping_at terms s i)) (side_value b (mapping_at terms s i))) k)
    (λ (k : Masks). AreMasks terms (SameTerm c.args.first.now c.args.second.now) s k)
    (λ k h. operand_masks terms s c.args.first.now c.args.second.now a b k (sym c.in-Var.is ∙ c.in_ok-name.ensures) c.in_ok-other.ensures h) c.variable_and.ensures

pub returns : goal.returns
returns c =
    let terms = c.args.graph.now.terms in
    let s = c.args.rows.now in
    let a = sides.Term c.in-Term.term in
    let b = c.in_ok-other.other in
    IfOk-weaker c.term_and.result (λ (k : Masks). AreSplit s.rows (λ i. AreSame true (side_value a (mapping_at terms s i)) (side_value b (mapping_at terms s i))) (λ i. AreSame false (side_value a (mapping_at terms s i)) (side_value b (mapping_at terms s i))) k)
    (λ (k : Masks). AreMasks terms (SameTerm c.args.first.now c.args.second.now) s k)
    (λ k h. operand_masks terms s c.args.first.now c.args.second.now a b k (sym c.in-Term.is ∙ c.in_ok-name.ensures) c.in_ok-other.ensures h) c.term_and.ensures
