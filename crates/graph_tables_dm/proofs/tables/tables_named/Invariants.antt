use Rattle.std.proofs.Common.{take}
use Rattle.graph_tables_dm.specs.TableReadings.{AreTablesNamed}
use Rattle.graph_tables_dm.proofs.tables.tables_named.Given as goal

abbrev pub invariant-loop-name : goal.invariant-loop-name
invariant-loop-name l = AreTablesNamed l.graph l.words l.roles (take l.name-index l.names) l.tables
