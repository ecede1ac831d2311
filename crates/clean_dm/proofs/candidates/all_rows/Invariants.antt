use Rattle.std.proofs.Common.{◌<◌, ℕ}
use Rattle.std.specs.Prelude.{◌↔◌}
use Rattle.clean_dm.specs.Parts.{IsRow}
use Rattle.clean_dm.specs.RowSets.{Has}
use Rattle.clean_dm.proofs.candidates.all_rows.Given as goal

abbrev pub invariant-loop-table : goal.invariant-loop-table
invariant-loop-table l = (t i : ℕ) → Has l.set t i ↔ ((t < l.table) × IsRow l.database t i)
