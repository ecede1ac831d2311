use Rattle.std.proofs.Common.{take, ◌≢◌}
use Rattle.algebra_dm.specs.Checking.{AreThose}
use Rattle.algebra_dm.proofs.name_lists.without.Given as goal

abbrev pub invariant-loop-name : goal.invariant-loop-name
invariant-loop-name l = AreThose (λ a. (l.from ≢ a) × (l.to ≢ a)) (take l.name-index l.names) l.kept.items
