use Rattle.std.proofs.Common.{◌↔◌, List, ℕ, take}
use Rattle.members_dm.specs.Membership.{IsIn}
use Rattle.algebra_dm.specs.Checking.{IsNotNullName}
use Rattle.algebra_dm.proofs.columns.not_null_names.Given as goal

abbrev pub invariant-loop-column : goal.invariant-loop-column
invariant-loop-column l = (a : List ℕ) → IsIn a l.names.items ↔ IsNotNullName (take l.column-index l.columns) a
