use Rattle.std.proofs.Common.{◌≡◌, take}
use Rattle.solutions_dm.specs.Columns.{names_of}
use Rattle.solutions_dm.proofs.numbers.all_names.Given as goal

abbrev pub invariant-loop-column : goal.invariant-loop-column
invariant-loop-column l = l.names ≡ names_of (take l.column-index l.rows.columns)
