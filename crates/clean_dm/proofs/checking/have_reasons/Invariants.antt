use Rattle.std.proofs.Common.{◌≡◌, ◌<◌, ℕ, Some}
use Rattle.std.specs.Prelude.{slice_get}
use Rattle.clean_dm.specs.Checking.{HasReason}
use Rattle.clean_dm.specs.declared.removal.Removal.{Removal}
use Rattle.clean_dm.proofs.checking.have_reasons.Given as goal

-- those before have reasons
abbrev pub invariant-loop-removal : goal.invariant-loop-removal
invariant-loop-removal l = (k : ℕ) → k < l.removal-index → (removal : Removal) → slice_get l.removals k ≡ Some removal → HasReason l.database removal
