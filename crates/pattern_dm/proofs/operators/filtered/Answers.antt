use Rattle.std.proofs.Common.{◌∙◌, ℕ, List, true, length, ap, subst, sym}
use Rattle.std.proofs.lemmas.Result.{IfOk-weaker}
use Rattle.solutions_dm.specs.Repeats.{IsDistinct}
use Rattle.solutions_dm.specs.Table.{Table}
use Rattle.pattern_dm.specs.Masks.{Marks}
use Rattle.pattern_dm.specs.Says.{Says}
use Rattle.pattern_dm.specs.Solved.{HasSolution, IsOutcome, mapping_at}
use Rattle.pattern_dm.proofs.Outcomes.{distinct_outcome, kept_exact, kept_numbers}
use Rattle.pattern_dm.proofs.operators.filtered.Goals as goal

pub keep-requires : goal.keep-requires
keep-requires c = ap length c.as_slice.ensures.value ∙ c.in_ok-masks.ensures.holds.long

pub returns : goal.returns
returns c =
    let terms = c.args.graph.now.terms in
    let rows = c.args.rows.now in
    let f = c.args.condition.now in
    let kept = c.in_ok-kept.kept in
    let mask = c.as_slice.result.now in
    let marks : Marks rows.rows (λ i. Says f true (mapping_at terms rows i)) mask = subst (λ (k : List ℕ). Marks rows.rows (λ i. Says f true (mapping_at terms rows i)) k) (sym c.as_slice.ensures.value) c.in_ok-masks.ensures.holds in
    IfOk-weaker c.distinct.result (λ (s : Table). IsDistinct kept s) (λ (s : Table). IsOutcome terms (λ m. HasSolution terms rows m × Says f true m) s)
    (λ s d. distinct_outcome terms (λ m. HasSolution terms rows m × Says f true m) kept s d (kept_exact terms rows kept mask c.in_ok-kept.ensures f marks) (kept_numbers terms rows kept mask c.in_ok-kept.ensures c.requires.numbers))
    c.distinct.ensures
