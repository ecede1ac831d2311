use Rattle.std.proofs.Common.{◌≡◌, take}
use Rattle.schema_dm.specs.Naming.{column_names}
use Rattle.schema_dm.proofs.indexed.column_names.Given as goal

-- the names so far
abbrev pub invariant-loop-column : goal.invariant-loop-column
invariant-loop-column l = l.names.items ≡ column_names (take l.column-index l.columns)
