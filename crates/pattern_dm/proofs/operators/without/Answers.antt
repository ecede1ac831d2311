use Rattle.std.proofs.Common.{List}
use Rattle.std.proofs.lemmas.Result.{IfOk-weaker}
use Rattle.names_dm.specs.declared.term.Term.{Term}
use Rattle.solutions_dm.specs.Repeats.{IsDistinct}
use Rattle.solutions_dm.specs.Table.{Table}
use Rattle.store_dm.specs.Terms.{AreOneToOne}
use Rattle.pattern_dm.specs.Operators.{Minus}
use Rattle.pattern_dm.specs.Solved.{AreNumbers, HasSolution, IsOutcome}
use Rattle.pattern_dm.proofs.Outcomes.{distinct_outcome, minus_exact, minus_numbers}
use Rattle.pattern_dm.proofs.operators.without.Goals as goal

pub returns : goal.returns
returns c =
    let left = c.args.left.now in
    let right = c.args.right.now in
    let rows = c.in_ok-rows.rows in
    IfOk-weaker c.distinct.result (λ (s : Table). IsDistinct rows s) (λ (s : Table). (terms : List Term) → AreOneToOne terms → AreNumbers terms left → AreNumbers terms right → IsOutcome terms (Minus (HasSolution terms left) (HasSolution terms right)) s)
    (λ s d terms one ol or_. distinct_outcome terms (Minus (HasSolution terms left) (HasSolution terms right)) rows s d (minus_exact terms left right rows one ol or_ c.in_ok-rows.ensures) (minus_numbers terms left right rows one ol or_ c.in_ok-rows.ensures))
    c.distinct.ensures
