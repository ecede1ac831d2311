use Rattle.graph_tables_dm.specs.Listed.{ListsOnce}
use Rattle.graph_tables_dm.proofs.ListedLemmas.{IsTabledUpTo}
use Rattle.graph_tables_dm.proofs.listed.table_names.Given as goal

abbrev pub invariant-loop-before : goal.invariant-loop-before
invariant-loop-before l = ListsOnce (IsTabledUpTo l.roles l.before) l.names.items
