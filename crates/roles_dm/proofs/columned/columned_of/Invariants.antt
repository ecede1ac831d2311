use Rattle.std.proofs.Common.{◌↔◌, ℕ}
use Rattle.roles_dm.specs.Columned.{HasColumnBelow, HasColumned}
use Rattle.roles_dm.proofs.columned.columned_of.Given as goal

abbrev pub invariant-loop-role : goal.invariant-loop-role
invariant-loop-role l = (n : ℕ) → HasColumned l.columned n ↔ HasColumnBelow l.roles l.role-index n
