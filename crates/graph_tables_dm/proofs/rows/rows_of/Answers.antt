use Rattle.std.proofs.Common.{◌+◌, List, sym, subst, take}
use Rattle.std.specs.List.{AllZip}
use Rattle.table_csv.specs.Cells.{Row}
use Rattle.graph_tables_dm.specs.Columns.{IsRowAt}
use Rattle.graph_tables_dm.proofs.LoopLemmas.{zip_more_at}
use Rattle.graph_tables_dm.proofs.rows.rows_of.Goals as goal

pub loop-node-preserved : goal.loop-node-preserved
loop-node-preserved c =
    let R = IsRowAt c.args.graph.now c.args.roles.now c.args.columns.now in
    subst (λ (rows : List Row). AllZip R (take (c.loop-node.node-index + 1) c.args.nodes.now) rows) (sym c.in_ok-push.ensures.ok)
    (zip_more_at R c.args.nodes.now c.loop-node.rows c.loop-node.node-index 0 c.in_ok-row_of.field-0 c.loop-node-test.true c.loop-node.invariant c.in_ok-row_of.ensures)
