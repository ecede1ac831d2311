use Rattle.clean_dm.specs.References.{AreReferences}
use Rattle.clean_dm.proofs.references.references_of.Given as goal

abbrev pub invariant-loop-table : goal.invariant-loop-table
invariant-loop-table l = AreReferences l.database l.table l.references
