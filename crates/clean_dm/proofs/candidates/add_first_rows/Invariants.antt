use Rattle.std.proofs.Common.{◌≡◌, ◌⊎◌, ◌<◌, ℕ}
use Rattle.std.specs.Prelude.{◌↔◌}
use Rattle.clean_dm.specs.RowSets.{Has}
use Rattle.clean_dm.proofs.candidates.add_first_rows.Given as goal

abbrev pub invariant-loop-row : goal.invariant-loop-row
invariant-loop-row l = (u j : ℕ) → Has l.set u j ↔ (Has l.initial.set u j ⊎ ((u ≡ l.table) × (j < l.row)))
