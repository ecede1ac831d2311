use Rattle.std.proofs.Common.{ℕ, ◌+◌, ◌<◌, get_or}
use Rattle.members_dm.specs.InOrder.{AreSameAt}
use Rattle.schema_dm.proofs.index.some_stands_twice.Given as goal

-- no two neighbours so far are one item
abbrev pub invariant-loop-next : goal.invariant-loop-next
invariant-loop-next g l = (k d : ℕ) → k + 1 < l.next → ¬ AreSameAt l.items (get_or l.order k d) (get_or l.order (k + 1) d)
