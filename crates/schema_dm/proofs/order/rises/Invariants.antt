use Rattle.std.proofs.Common.{◌-◌, map, drop}
use Rattle.members_dm.specs.Membership.{IsRising}
use Rattle.schema_dm.specs.Shapes.{IsBefore}
use Rattle.schema_dm.proofs.order.rises.Given as goal

-- the names rise where those that are left do
abbrev pub invariant-loop-i : goal.invariant-loop-i
invariant-loop-i g l = IsRising IsBefore (map g.T.KeyedBy.key_of (drop (l.i - 1) l.items)) → IsRising IsBefore (map g.T.KeyedBy.key_of l.items)
