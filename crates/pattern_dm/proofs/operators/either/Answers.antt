use Rattle.std.proofs.Common.{◌⊎◌, List}
use Rattle.std.proofs.lemmas.Result.{IfOk-weaker}
use Rattle.names_dm.specs.declared.term.Term.{Term}
use Rattle.solutions_dm.specs.Repeats.{IsDistinct}
use Rattle.solutions_dm.specs.Table.{Table}
use Rattle.pattern_dm.specs.Solved.{AreNumbers, HasSolution, IsOutcome}
use Rattle.pattern_dm.proofs.Outcomes.{distinct_outcome, union_exact, union_numbers}
use Rattle.pattern_dm.proofs.operators.either.Goals as goal

pub returns : goal.returns
returns c =
    let left = c.args.left.now in
    let right = c.args.right.now in
    let rows = c.in_ok-rows.rows in
    IfOk-weaker c.distinct.result (λ (s : Table). IsDistinct rows s) (λ (s : Table). (terms : List Term) → AreNumbers terms left → AreNumbers terms right → IsOutcome terms (λ m. HasSolution terms left m ⊎ HasSolution terms right m) s)
    (λ s d terms ol or_. distinct_outcome terms (λ m. HasSolution terms left m ⊎ HasSolution terms right m) rows s d (union_exact terms left right rows c.in_ok-rows.ensures) (union_numbers terms left right rows c.in_ok-rows.ensures ol or_))
    c.distinct.ensures
