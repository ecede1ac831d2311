use Rattle.table_csv.specs.CanonicalText.{IsWritten, cell_field}
use Rattle.table_csv.proofs.LineLemmas.{all_more, made_more}
use Rattle.table_csv.proofs.writing.row_line.Goals as goal

pub loop-cell-preserved : goal.loop-cell-preserved
loop-cell-preserved c =
    let inv = c.loop-cell.invariant in (
      made_more cell_field c.args.row.now c.loop-cell.cell-index c.cell-item.result c.in_ok-cell_bytes.field-0 c.loop-cell.fields.items _ c.loop-cell-test.true c.cell-item.is inv.0 c.in_ok-push.ensures.items
          c.in_ok-cell_bytes.ensures.bytes,
      all_more IsWritten c.args.row.now c.loop-cell.cell-index c.cell-item.result c.loop-cell-test.true c.cell-item.is inv.1 c.in_ok-cell_bytes.ensures.written,
    )
