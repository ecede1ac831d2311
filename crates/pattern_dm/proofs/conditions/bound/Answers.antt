use Rattle.std.proofs.Common.{◌≡◌, ◌≢◌, true, false, length, slice_index, subst}
use Rattle.std.proofs.lemmas.Result.{IfOk-weaker}
use Rattle.pattern_dm.specs.declared.masks.Masks.{Masks}
use Rattle.pattern_dm.specs.declared.pattern.Condition.TheVariants.{Bound}
use Rattle.pattern_dm.specs.Masks.{AreMasks, AreSplit}
use Rattle.pattern_dm.proofs.ConditionLemmas.{bound_nowhere, bound_where}
use Rattle.pattern_dm.proofs.conditions.bound.Goals as goal

pub returns-in-None : goal.returns-in-None
returns-in-None c =
    let s = c.args.rows.now in
    IfOk-weaker c.constant.result (λ (k : Masks). AreSplit c.len.result (λ _. false ≡ true) (λ _. true ≡ true) k) (λ (k : Masks). AreMasks c.args.graph.now.terms (Bound c.args.name.now) s k)
    (λ k h. bound_nowhere c.args.graph.now.terms s c.args.name.now k c.in-None.ensures (subst (λ n. AreSplit n (λ _. false ≡ true) (λ _. true ≡ true) k) c.len.ensures h)) c.constant.ensures

pub returns-in-Some : goal.returns-in-Some
returns-in-Some c =
    let s = c.args.rows.now in
    let numbers = c.in-Some.numbers.now in
    IfOk-weaker c.is_bound.result (λ (k : Masks). AreSplit (length numbers) (λ i. slice_index numbers i ≢ 0) (λ i. slice_index numbers i ≡ 0) k) (λ (k : Masks). AreMasks c.args.graph.now.terms (Bound c.args.name.now) s k)
    (λ k h. bound_where c.args.graph.now.terms s c.args.name.now k numbers c.in-Some.ensures.1 c.in-Some.ensures.2 c.requires h) c.is_bound.ensures
