use Rattle.std.proofs.Common.{take}
use Rattle.clean_dm.specs.Working.{GainsFirst}
use Rattle.clean_dm.proofs.candidates.add_referencing.Given as goal

abbrev pub invariant-loop-reference : goal.invariant-loop-reference
invariant-loop-reference l = GainsFirst l.database l.initial.due l.due l.table l.row (take l.reference-index l.reference-items)
