use Rattle.std.proofs.Common.{List, subst}
use Rattle.std.proofs.lemmas.List.{take_all}
use Rattle.table_csv.specs.Cells.{Row}
use Rattle.query_rows_dm.specs.Tables.{AreNumbered}
use Rattle.query_rows_dm.proofs.TableLemmas.{numbered_more}
use Rattle.query_rows_dm.proofs.tables.column_numbers.Goals as goal

pub loop-row-preserved : goal.loop-row-preserved
loop-row-preserved c = rw c.in_ok-push.ensures.ok
    (numbered_more c.args.dictionary.now c.loop-row.dictionary c.number_at.new.self c.args.rows.now c.loop-row.row-index c.args.place c.loop-row.numbers c.row-item.result c.in_ok-number_at.field-0
    c.loop-row-test.true c.row-item.is c.loop-row.invariant (rw c.as_slice.ensures at c.in_ok-number_at.ensures))

pub returns : goal.returns
returns c = subst (λ (rs : List Row). AreNumbered c.args.dictionary.now c.loop-row.dictionary rs c.args.place c.loop-row.numbers) (take_all c.loop-row.row-index c.args.rows.now c.loop-row-test.false) c.loop-row.invariant
