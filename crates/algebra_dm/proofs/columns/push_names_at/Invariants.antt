use Rattle.std.proofs.Common.{◌↔◌, ◌⊎◌, List, ℕ, take}
use Rattle.members_dm.specs.Membership.{IsIn}
use Rattle.algebra_dm.specs.Checking.{IsKeyName}
use Rattle.algebra_dm.proofs.columns.push_names_at.Given as goal

abbrev pub invariant-loop-place : goal.invariant-loop-place
invariant-loop-place l = (a : List ℕ) → IsIn a l.names.items ↔ (IsIn a l.initial.names.items ⊎ IsKeyName l.columns (take l.place-index l.places) a)
