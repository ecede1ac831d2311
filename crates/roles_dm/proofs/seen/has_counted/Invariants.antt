use Rattle.std.proofs.Common.{ℕ}
use Rattle.members_dm.specs.Membership.{IsIn}
use Rattle.roles_dm.specs.Seen.{Counts}
use Rattle.roles_dm.proofs.seen.has_counted.Given as goal

abbrev pub invariant-loop-object : goal.invariant-loop-object
invariant-loop-object l = (x : ℕ × ℕ × ℕ) → IsIn x l.yielded → ¬ Counts l.graph l.roles l.property x.2
