use Rattle.std.proofs.Common.{string_bytes, take}
use Rattle.std.specs.List.{flat_map}
use Rattle.ddl_dm.specs.Canonical.{table_text, Adds}
use Rattle.ddl_dm.proofs.canonical.push_tables.Given as goal

-- the texts so far are added
abbrev pub invariant-loop-table : goal.invariant-loop-table
invariant-loop-table l = Adds (string_bytes l.initial.text) (string_bytes l.text) (flat_map table_text (take l.table-index l.tables))
