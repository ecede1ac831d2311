use Rattle.std.proofs.Common.{take}
use Rattle.keys_dm.specs.Entries.{positions_of}
use Rattle.clean_dm.specs.Working.{GainsRows}
use Rattle.clean_dm.proofs.candidates.add_rows.Given as goal

abbrev pub invariant-loop-entry : goal.invariant-loop-entry
invariant-loop-entry l = GainsRows l.initial.set l.set l.table (take l.entry-index (positions_of l.entries))
