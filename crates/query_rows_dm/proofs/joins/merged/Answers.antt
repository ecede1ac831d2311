use Rattle.std.proofs.Common.{◌≡◌, ◌↔◌, ℕ, List}
use Rattle.std.proofs.lemmas.Result.{IfOk-weaker}
use Rattle.solutions_dm.specs.Columns.{SameIfBound}
use Rattle.solutions_dm.specs.Merge.{IsMerge, first_bound}
use Rattle.solutions_dm.specs.Table.{Table, HasRow}
use Rattle.query_rows_dm.proofs.JoinLemmas.{merged_rows}
use Rattle.query_rows_dm.proofs.joins.merged.Goals as goal

pub returns : goal.returns
returns c =
    let left = c.args.left.now in
    let right = c.args.right.now in
    let ps = c.in_ok-places.places in
    IfOk-weaker c.merge.result (λ (s : Table). IsMerge left right ps s)
    (λ (s : Table). (m : List ℕ → ℕ) → HasRow s m ↔ ((u v : List ℕ → ℕ) × HasRow left u × HasRow right v × ((x : List ℕ) → SameIfBound (u x) (v x)) × ((x : List ℕ) → m x ≡ first_bound (u x) (v x))))
    (λ s h. merged_rows left right s ps c.in_ok-places.ensures.exact h)
    c.merge.ensures
