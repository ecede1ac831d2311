use Rattle.std.proofs.Common.{List}
use Rattle.table_csv.specs.Cells.{AreRowsOf, Row}
use Rattle.schema_dm.specs.declared.table.Table.{Table}
use Rattle.table_csv.proofs.Zips.{zipped_length, zipped_more, zipped_not}
use Rattle.table_csv.proofs.database.are_rows_of_tables.Goals as goal

abbrev HasRows : Table → List Row → Type 0
HasRows table rows = AreRowsOf table.columns rows

pub returns-then-tables-rows : goal.returns-then-tables-rows
returns-then-tables-rows c = (λ e. cc e, λ h. absurd (c.if-tables-rows.true (zipped_length HasRows c.args.tables.now c.args.rows.now h)))

pub returns-then-not-are_rows_of : goal.returns-then-not-are_rows_of
returns-then-not-are_rows_of c = (
  λ e. cc e,
  λ h. absurd (zipped_not HasRows c.args.tables.now c.args.rows.now c.loop-place.place c.index-tables-place.result c.index-rows-place.result c.loop-place-test.true c.index-tables-place.is c.index-rows-place.is (λ is. cc (c.if-not-are_rows_of.true, c.are_rows_of.ensures.1 (rw c.as_slice.ensures is))) h),
)

pub loop-place-preserved : goal.loop-place-preserved
loop-place-preserved c =
    zipped_more HasRows c.args.tables.now c.args.rows.now c.loop-place.place c.index-tables-place.result c.index-rows-place.result c.loop-place-test.true c.if-tables-rows.false c.index-tables-place.is c.index-rows-place.is c.loop-place.invariant
    (rw c.as_slice.ensures at (c.are_rows_of.ensures.0 c.if-not-are_rows_of.false))
