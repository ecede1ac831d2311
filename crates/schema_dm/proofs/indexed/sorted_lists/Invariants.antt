use Rattle.std.proofs.Common.{take}
use Rattle.schema_dm.specs.Indexed.{AreSortedForms}
use Rattle.schema_dm.proofs.indexed.sorted_lists.Given as goal

-- those of the lists so far
abbrev pub invariant-loop-names : goal.invariant-loop-names
invariant-loop-names l = AreSortedForms (take l.names-index l.lists) l.sorted.items
