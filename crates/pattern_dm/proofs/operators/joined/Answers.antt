use Rattle.std.proofs.Common.{List}
use Rattle.std.proofs.lemmas.Result.{IfOk-weaker}
use Rattle.names_dm.specs.declared.term.Term.{Term}
use Rattle.solutions_dm.specs.Repeats.{IsDistinct}
use Rattle.solutions_dm.specs.Table.{Table}
use Rattle.store_dm.specs.Terms.{AreOneToOne}
use Rattle.pattern_dm.specs.Operators.{Join}
use Rattle.pattern_dm.specs.Solved.{AreNumbers, HasSolution, IsOutcome}
use Rattle.pattern_dm.proofs.Outcomes.{distinct_outcome, join_exact, merged_numbers}
use Rattle.pattern_dm.proofs.operators.joined.Goals as goal

pub returns : goal.returns
returns c =
    let left = c.args.left.now in
    let right = c.args.right.now in
    let ps = c.in_ok-places.places in
    let unions = c.in_ok-unions.unions in
    IfOk-weaker c.distinct.result (λ (s : Table). IsDistinct unions s) (λ (s : Table). (terms : List Term) → AreOneToOne terms → AreNumbers terms left → AreNumbers terms right → IsOutcome terms (Join (HasSolution terms left) (HasSolution terms right)) s)
    (λ s d terms one ol or_. distinct_outcome terms (Join (HasSolution terms left) (HasSolution terms right)) unions s d
    (join_exact terms left right unions ps one ol or_ c.in_ok-places.ensures.exact c.in_ok-unions.ensures) (merged_numbers terms left right unions ps one ol or_ c.in_ok-places.ensures.exact c.in_ok-unions.ensures))
    c.distinct.ensures
