use Rattle.std.proofs.Common.{ℕ, take}
use Rattle.std.specs.Prelude.{◌↔◌}
use Rattle.members_dm.specs.Elements.{HasSome}
use Rattle.clean_dm.specs.Removing.{IsOf}
use Rattle.clean_dm.specs.RowSets.{Has}
use Rattle.clean_dm.proofs.keeping.gone_of.Given as goal

abbrev pub invariant-loop-removal : goal.invariant-loop-removal
invariant-loop-removal l = (t i : ℕ) → Has l.gone t i ↔ HasSome (IsOf t i) (take l.removal-index l.removal-items)
