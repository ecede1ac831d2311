use Rattle.std.proofs.Common.{take, All}
use Rattle.members_dm.specs.Membership.{IsIn}
use Rattle.algebra_dm.proofs.name_lists.lacks_some.Given as goal

abbrev pub invariant-loop-name : goal.invariant-loop-name
invariant-loop-name l = All (λ a. ¬ (¬ IsIn a l.others)) (take l.name-index l.name-items)
