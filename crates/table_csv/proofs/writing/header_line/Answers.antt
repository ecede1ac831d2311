use Rattle.std.proofs.Common.{◌∙◌}
use Rattle.table_csv.specs.CanonicalText.{IsNamed}
use Rattle.table_csv.specs.TableFiles.{name_field}
use Rattle.table_csv.proofs.LineLemmas.{all_more, made_more}
use Rattle.table_csv.proofs.writing.header_line.Goals as goal

pub loop-column-preserved : goal.loop-column-preserved
loop-column-preserved c =
    let inv = c.loop-column.invariant in (
      made_more name_field c.args.columns.now c.loop-column.column-index c.column-item.result c.in_ok-bytes_of.field-0 c.loop-column.fields.items _ c.loop-column-test.true c.column-item.is inv.0 c.in_ok-push.ensures.items
          (c.in_ok-bytes_of.ensures ∙ c.as_str.ensures.bytes),
      all_more IsNamed c.args.columns.now c.loop-column.column-index c.column-item.result c.loop-column-test.true c.column-item.is inv.1 (rw c.as_str.ensures.bytes at c.as_str.ensures.chars),
    )
