use Rattle.std.proofs.Common.{◌+◌, sym, subst, take}
use Rattle.table_csv.specs.Cells.{Cell, Row}
use Rattle.graph_tables_dm.specs.declared.listed.NumberedName.{NumberedName}
use Rattle.graph_tables_dm.specs.Cells.{IsCellAt}
use Rattle.graph_tables_dm.specs.Columns.{IsRowAt}
use Rattle.graph_tables_dm.proofs.LoopLemmas.{zip_more}
use Rattle.graph_tables_dm.proofs.rows.row_of.Goals as goal

pub loop-column-preserved : goal.loop-column-preserved
loop-column-preserved c =
    subst (λ (row : Row). IsRowAt c.args.graph.now c.args.roles.now (take (c.loop-column.column-index + 1) c.args.columns.now) c.args.node row) (sym c.in_ok-push.ensures.ok)
    (zip_more (λ (d : NumberedName) (cell : Cell). IsCellAt c.args.graph.now c.args.roles.now c.args.node d.number cell) c.args.columns.now c.loop-column.row c.loop-column.column-index c.column-item.result c.in_ok-cell_at.field-0
    c.loop-column-test.true c.column-item.is c.loop-column.invariant c.in_ok-cell_at.ensures)
