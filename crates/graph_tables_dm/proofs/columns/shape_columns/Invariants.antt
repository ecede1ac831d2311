use Rattle.std.proofs.Common.{◌≡◌, map, take}
use Rattle.graph_tables_dm.specs.Columns.{column_at}
use Rattle.graph_tables_dm.proofs.columns.shape_columns.Given as goal

abbrev pub invariant-loop-name : goal.invariant-loop-name
invariant-loop-name l = l.columns ≡ map (column_at l.roles) (take l.name-index l.names)
