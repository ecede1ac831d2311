use Rattle.std.proofs.Common.{◌∙◌, ℕ, List, true, length, ap, subst, sym}
use Rattle.std.proofs.lemmas.Result.{IfOk-weaker}
use Rattle.solutions_dm.specs.declared.row_pair.RowPair.{RowPair}
use Rattle.solutions_dm.specs.Repeats.{IsDistinct}
use Rattle.solutions_dm.specs.Table.{Table}
use Rattle.pattern_dm.specs.Masks.{Marks}
use Rattle.pattern_dm.specs.Operators.{LeftJoin}
use Rattle.pattern_dm.specs.Passing.{ArePassing}
use Rattle.pattern_dm.specs.Says.{Says}
use Rattle.pattern_dm.specs.Solved.{HasSolution, IsOutcome, mapping_at}
use Rattle.pattern_dm.proofs.LeftJoins.{alone_numbers, left_join_exact, passed_left}
use Rattle.pattern_dm.proofs.Outcomes.{distinct_outcome, kept_numbers, merged_numbers, union_numbers}
use Rattle.pattern_dm.proofs.operators.left_joined.Goals as goal

pub masks_of-requires-clause-numbers : goal.masks_of-requires-clause-numbers
masks_of-requires-clause-numbers c = merged_numbers c.args.graph.now.terms c.args.left.now c.args.right.now c.in_ok-unions.unions c.in_ok-places.places c.requires.lawful.apart c.requires.lefts c.requires.rights c.in_ok-places.ensures.exact c.in_ok-unions.ensures

pub keep-requires : goal.keep-requires
keep-requires c = ap length c.as_slice.ensures.value ∙ c.in_ok-masks.ensures.holds.long

pub passing-requires : goal.passing-requires
passing-requires c = ap length c.as_slice-3.ensures.value ∙ c.in_ok-masks.ensures.holds.long ∙ c.in_ok-unions.ensures.rows ∙ sym (ap (λ (ps : List RowPair). length ps) c.as_slice-2.ensures)

pub unmatched-requires : goal.unmatched-requires
unmatched-requires c = passed_left c.args.left.now c.args.right.now c.in_ok-places.places c.in_ok-passed.passed c.as_slice-3.result.now c.in_ok-places.ensures.exact
    (subst (λ (ps : List RowPair). ArePassing ps c.as_slice-3.result.now (length ps) c.in_ok-passed.passed) c.as_slice-2.ensures c.in_ok-passed.ensures)

pub returns : goal.returns
returns c =
    let terms = c.args.graph.now.terms in
    let left = c.args.left.now in
    let right = c.args.right.now in
    let f = c.args.condition.now in
    let ps = c.in_ok-places.places in
    let unions = c.in_ok-unions.unions in
    let kept = c.in_ok-kept.kept in
    let alone = c.in_ok-alone.alone in
    let rows = c.in_ok-rows.rows in
    let passed = c.in_ok-passed.passed in
    let mask = c.as_slice.result.now in
    let exact = c.in_ok-places.ensures.exact in
    let merge = c.in_ok-unions.ensures in
    let one = c.requires.lawful.apart in
    let ol = c.requires.lefts in
    let or_ = c.requires.rights in
    let marks : Marks unions.rows (λ i. Says f true (mapping_at terms unions i)) mask = subst (λ (k : List ℕ). Marks unions.rows (λ i. Says f true (mapping_at terms unions i)) k) (sym c.as_slice.ensures.value) c.in_ok-masks.ensures.holds in
    let passing : ArePassing ps mask (length ps) passed = subst (λ (k : List ℕ). ArePassing ps k (length ps) passed) (c.as_slice-3.ensures.value ∙ sym c.as_slice.ensures.value)
    (subst (λ (qs : List RowPair). ArePassing qs c.as_slice-3.result.now (length qs) passed) c.as_slice-2.ensures c.in_ok-passed.ensures) in
    IfOk-weaker c.distinct.result (λ (s : Table). IsDistinct rows s) (λ (s : Table). IsOutcome terms (LeftJoin (HasSolution terms left) (HasSolution terms right) f) s)
    (λ s d. distinct_outcome terms (LeftJoin (HasSolution terms left) (HasSolution terms right) f) rows s d
    (left_join_exact terms left right unions kept alone rows ps passed f mask one ol or_ exact merge marks passing c.in_ok-kept.ensures c.in_ok-alone.ensures c.in_ok-rows.ensures)
    (union_numbers terms kept alone rows c.in_ok-rows.ensures
    (kept_numbers terms unions kept mask c.in_ok-kept.ensures (merged_numbers terms left right unions ps one ol or_ exact merge)) (alone_numbers terms left alone passed c.in_ok-alone.ensures ol)))
    c.distinct.ensures
