use Rattle.std.proofs.Common.{List}
use Rattle.std.proofs.lemmas.Result.{IfOk-weaker}
use Rattle.names_dm.specs.declared.term.Term.{Term}
use Rattle.solutions_dm.specs.Repeats.{IsDistinct}
use Rattle.solutions_dm.specs.Table.{Table}
use Rattle.pattern_dm.specs.Operators.{Select}
use Rattle.pattern_dm.specs.Solved.{AreNumbers, HasSolution, IsOutcome}
use Rattle.pattern_dm.proofs.Outcomes.{distinct_outcome, select_exact, select_numbers}
use Rattle.pattern_dm.proofs.operators.selected.Goals as goal

pub returns : goal.returns
returns c =
    let rows = c.args.rows.now in
    let rs = c.args.renames.now in
    let made = c.in_ok-made.made in
    IfOk-weaker c.distinct.result (λ (s : Table). IsDistinct made s) (λ (s : Table). (terms : List Term) → AreNumbers terms rows → IsOutcome terms (Select (HasSolution terms rows) rs) s)
    (λ s d terms o. distinct_outcome terms (Select (HasSolution terms rows) rs) made s d (select_exact terms rows made rs c.in_ok-made.ensures) (select_numbers terms rows made rs c.in_ok-made.ensures o))
    c.distinct.ensures
