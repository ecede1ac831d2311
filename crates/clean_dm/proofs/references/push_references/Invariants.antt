use Rattle.std.proofs.Common.{take}
use Rattle.clean_dm.specs.References.{PutsReferences}
use Rattle.clean_dm.proofs.references.push_references.Given as goal

abbrev pub invariant-loop-key : goal.invariant-loop-key
invariant-loop-key l = PutsReferences l.database l.table l.initial.references l.references (take l.key-index l.key-items)
