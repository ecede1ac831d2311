use Rattle.std.proofs.Common.{take}
use Rattle.std.specs.List.{AllZip}
use Rattle.graph_tables_dm.specs.Columns.{IsRowAt}
use Rattle.graph_tables_dm.proofs.rows.rows_of.Given as goal

abbrev pub invariant-loop-node : goal.invariant-loop-node
invariant-loop-node l = AllZip (IsRowAt l.graph l.roles l.columns) (take l.node-index l.nodes) l.rows
