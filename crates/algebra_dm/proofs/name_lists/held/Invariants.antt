use Rattle.std.proofs.Common.{take}
use Rattle.members_dm.specs.Membership.{IsIn}
use Rattle.algebra_dm.specs.Checking.{AreThose}
use Rattle.algebra_dm.proofs.name_lists.held.Given as goal

abbrev pub invariant-loop-name : goal.invariant-loop-name
invariant-loop-name l = AreThose (λ a. IsIn a l.index) (take l.name-index l.names) l.kept.items
