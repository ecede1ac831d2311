use Rattle.std.proofs.Common.{◌≡◌, ◌∙◌}
use Rattle.std.proofs.lemmas.Result.{IfOk-weaker}
use Rattle.pattern_dm.specs.declared.pattern.Pattern.{Pattern}
use Rattle.pattern_dm.specs.declared.pattern.Pattern.TheVariants as patterns
use Rattle.keeping_dm.specs.Guards.{are_same_cells, marker_triple, right_names}
use Rattle.pattern_parts_dm.proofs.differences.tried.Goals as goal

pub returns : goal.returns
returns c =
    let names = c.args.names.now in
    let same : c.into_inner.result ≡ are_same_cells names = c.into_inner.ensures ∙ c.in_ok-same.ensures in
    IfOk-weaker c.left_join.result (λ (p : Pattern). p ≡ patterns.LeftJoin c.args.left c.in_ok-right.right c.into_inner.result)
    (λ (p : Pattern). p ≡ patterns.LeftJoin c.args.left (patterns.And (patterns.Select c.args.right (right_names names)) (marker_triple c.args.class.now)) (are_same_cells names))
    (λ p e. e ∙ (λ i. patterns.LeftJoin c.args.left (c.in_ok-right.ensures i) (same i))) c.left_join.ensures
