use Rattle.std.proofs.Common.{take}
use Rattle.graph_tables_dm.specs.Columns.{IsRowAt}
use Rattle.graph_tables_dm.proofs.rows.row_of.Given as goal

abbrev pub invariant-loop-column : goal.invariant-loop-column
invariant-loop-column l = IsRowAt l.graph l.roles (take l.column-index l.columns) l.node l.row
