use Rattle.std.proofs.Common.{◌≡◌, subst, sym}
use Rattle.std.proofs.lemmas.Result.{IfOk-weaker}
use Rattle.pattern_dm.specs.declared.masks.Masks.{Masks}
use Rattle.pattern_dm.specs.declared.pattern.Condition.{Condition}
use Rattle.pattern_dm.specs.Masks.{AreMasks, both_flags, either_flags}
use Rattle.pattern_dm.proofs.SideLemmas.{not_masks, and_masks, or_masks}
use Rattle.pattern_dm.proofs.conditions.+masks_of.Goals as goal

pub returns-in_ok-part-in-Not : goal.returns-in_ok-part-in-Not
returns-in_ok-part-in-Not t c =
    let terms = c.args.graph.now.terms in
    let s = c.args.rows.now in
    subst (λ (f : Condition). AreMasks terms f s c.not.result) (sym c.in-Not.is)
    (not_masks terms s c.in-Not.part c.in_ok-part-in-Not.part c.not.result c.not.ensures.holds c.not.ensures.fails
    (subst (λ (f : Condition). AreMasks terms f s c.in_ok-part-in-Not.part) c.get.ensures c.in_ok-part-in-Not.ensures))

pub returns-in_ok-right-in-And : goal.returns-in_ok-right-in-And
returns-in_ok-right-in-And t c =
    let terms = c.args.graph.now.terms in
    let s = c.args.rows.now in
    let a = c.in_ok-left-in-And.left in
    let b = c.in_ok-right-in-And.right in
    IfOk-weaker c.and.result (λ (k : Masks). (k.holds.items ≡ both_flags a.holds.items b.holds.items) × (k.fails.items ≡ either_flags a.fails.items b.fails.items)) (λ (k : Masks). AreMasks terms c.args.condition.now s k)
    (λ k e. subst (λ (f : Condition). AreMasks terms f s k) (sym c.in-And.is)
    (and_masks terms s c.in-And.left c.in-And.right a b k e (subst (λ (f : Condition). AreMasks terms f s a) c.get-in-And.ensures c.in_ok-left-in-And.ensures) (subst (λ (f : Condition). AreMasks terms f s b) c.get-in-And-2.ensures c.in_ok-right-in-And.ensures)))
    c.and.ensures

pub returns-in_ok-right-in-Or : goal.returns-in_ok-right-in-Or
returns-in_ok-right-in-Or t c =
    let terms = c.args.graph.now.terms in
    let s = c.args.rows.now in
    let a = c.in_ok-left-in-Or.left in
    let b = c.in_ok-right-in-Or.right in
    IfOk-weaker c.or.result (λ (k : Masks). (k.holds.items ≡ either_flags a.holds.items b.holds.items) × (k.fails.items ≡ both_flags a.fails.items b.fails.items)) (λ (k : Masks). AreMasks terms c.args.condition.now s k)
    (λ k e. subst (λ (f : Condition). AreMasks terms f s k) (sym c.in-Or.is)
    (or_masks terms s c.in-Or.left c.in-Or.right a b k e (subst (λ (f : Condition). AreMasks terms f s a) c.get-in-Or.ensures c.in_ok-left-in-Or.ensures) (subst (λ (f : Condition). AreMasks terms f s b) c.get-in-Or-2.ensures c.in_ok-right-in-Or.ensures)))
    c.or.ensures
