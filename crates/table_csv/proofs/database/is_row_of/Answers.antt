use Rattle.table_csv.specs.Cells.{IsCellOf}
use Rattle.table_csv.proofs.Zips.{zipped_length, zipped_more, zipped_not}
use Rattle.table_csv.proofs.database.is_row_of.Goals as goal

pub returns-then-columns-row : goal.returns-then-columns-row
returns-then-columns-row c = (λ e. cc e, λ h. absurd (c.if-columns-row.true (zipped_length IsCellOf c.args.columns.now c.args.row.now h)))

pub returns-then-not-is_cell_of : goal.returns-then-not-is_cell_of
returns-then-not-is_cell_of c = (
  λ e. cc e,
  λ h. absurd (zipped_not IsCellOf c.args.columns.now c.args.row.now c.loop-place.place c.index-columns-place.result c.index-row-place.result c.loop-place-test.true c.index-columns-place.is c.index-row-place.is (λ is. cc (c.if-not-is_cell_of.true, c.is_cell_of.ensures.1 is)) h),
)

pub loop-place-preserved : goal.loop-place-preserved
loop-place-preserved c =
    zipped_more IsCellOf c.args.columns.now c.args.row.now c.loop-place.place c.index-columns-place.result c.index-row-place.result c.loop-place-test.true c.if-columns-row.false c.index-columns-place.is c.index-row-place.is c.loop-place.invariant
    (c.is_cell_of.ensures.0 (cc (c.if-not-is_cell_of.false)))
