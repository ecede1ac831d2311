use Rattle.std.proofs.Common.{◌∙◌, ap}
use Rattle.std.specs.Prelude.{All}
use Rattle.table_csv.specs.CanonicalText.{IsWritten, row_fields}
use Rattle.table_csv.proofs.LineLemmas.{all_more, made_more}
use Rattle.table_csv.proofs.writing.row_lines.Goals as goal

pub loop-row-preserved : goal.loop-row-preserved
loop-row-preserved c =
    let inv = c.loop-row.invariant in (
      made_more row_fields c.args.rows.now c.loop-row.row-index c.row-item.result c.in_ok-row_line.field-0 c.loop-row.lines.items _ c.loop-row-test.true c.row-item.is inv.0 c.in_ok-push.ensures.items
          (c.in_ok-row_line.ensures.line ∙ ap row_fields c.as_slice.ensures),
      all_more (All IsWritten) c.args.rows.now c.loop-row.row-index c.row-item.result c.loop-row-test.true c.row-item.is inv.1 (rw c.as_slice.ensures at c.in_ok-row_line.ensures.written),
    )
