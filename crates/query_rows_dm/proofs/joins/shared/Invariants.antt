use Rattle.std.proofs.Common.{◌↔◌, ℕ, List, take}
use Rattle.members_dm.specs.Membership.{IsIn}
use Rattle.query_rows_dm.proofs.joins.shared.Given as goal

abbrev pub invariant-loop-var : goal.invariant-loop-var
invariant-loop-var l = (x : List ℕ) → IsIn x l.vars ↔ (IsIn x (take l.var-index l.left) × IsIn x l.right)
