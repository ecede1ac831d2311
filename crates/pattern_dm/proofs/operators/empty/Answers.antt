use Rattle.std.proofs.Common.{◌≡◌, ℕ, List, None}
use Rattle.std.proofs.lemmas.Result.{IfOk-weaker}
use Rattle.names_dm.specs.declared.term.Term.{Term}
use Rattle.solutions_dm.specs.Repeats.{IsDistinct}
use Rattle.solutions_dm.specs.Table.{Table}
use Rattle.pattern_dm.specs.Solved.{IsOutcome}
use Rattle.pattern_dm.proofs.Outcomes.{distinct_outcome}
use Rattle.pattern_dm.proofs.Solving.{unit_exact, unit_numbers}
use Rattle.pattern_dm.proofs.operators.empty.Goals as goal

pub returns : goal.returns
returns c =
    let rows = c.in_ok-rows.rows in
    IfOk-weaker c.distinct.result (λ (s : Table). IsDistinct rows s) (λ (s : Table). (terms : List Term) → IsOutcome terms (λ m. (x : List ℕ) → m x ≡ None) s)
    (λ s d terms. distinct_outcome terms (λ m. (x : List ℕ) → m x ≡ None) rows s d (unit_exact terms rows c.in_ok-rows.ensures.unbound) (unit_numbers terms rows c.in_ok-rows.ensures.unbound))
    c.distinct.ensures
