use Rattle.std.proofs.Common.{take}
use Rattle.graph_tables_dm.specs.Listed.{ListsOnce}
use Rattle.graph_tables_dm.proofs.LoopLemmas.{IsColumnAmong}
use Rattle.graph_tables_dm.proofs.columns.columns_of.Given as goal

abbrev pub invariant-loop-number : goal.invariant-loop-number
invariant-loop-number l = ListsOnce (IsColumnAmong l.roles l.class (take l.number-index l.number-items)) l.names.items
