use Rattle.std.proofs.Common.{◌≢◌, ◌↔◌, ℕ, List, take}
use Rattle.members_dm.specs.Membership.{IsIn}
use Rattle.solutions_dm.specs.Table.{HasRow}
use Rattle.query_rows_dm.proofs.joins.without_nulls.Given as goal

abbrev pub invariant-loop-var : goal.invariant-loop-var
invariant-loop-var l = (m : List ℕ → ℕ) → HasRow l.rows m ↔ (HasRow l.fn.rows m × ((x : List ℕ) → IsIn x (take l.var-index l.vars) → m x ≢ 1))
