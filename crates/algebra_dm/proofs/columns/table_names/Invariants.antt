use Rattle.std.proofs.Common.{◌≡◌, map, take}
use Rattle.schema_dm.specs.declared.table.Table.{Table}
use Rattle.algebra_dm.proofs.columns.table_names.Given as goal

abbrev pub invariant-loop-table : goal.invariant-loop-table
invariant-loop-table l = l.names.items ≡ map (λ (t : Table). t.name) (take l.table-index l.tables)
