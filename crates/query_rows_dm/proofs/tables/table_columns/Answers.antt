use Rattle.std.proofs.Common.{ℕ, List, subst}
use Rattle.std.proofs.lemmas.List.{take_all}
use Rattle.query_rows_dm.specs.Tables.{AreColumns}
use Rattle.query_rows_dm.proofs.TableLemmas.{columns_more}
use Rattle.query_rows_dm.proofs.tables.table_columns.Goals as goal

pub loop-place-preserved : goal.loop-place-preserved
loop-place-preserved c = rw c.in_ok-push.ensures.ok
    (columns_more c.args.dictionary.now c.loop-place.dictionary c.column_numbers.new.dictionary c.args.rows.now c.args.vars.now c.loop-place.place c.loop-place.columns c.index-vars-place.result
    (record { name = c.in_ok-copy.field-0; numbers = c.in_ok-column_numbers.field-0 }) c.loop-place-test.true c.index-vars-place.is c.in_ok-copy.ensures c.loop-place.invariant c.in_ok-column_numbers.ensures)

pub returns : goal.returns
returns c = subst (λ (xs : List (List ℕ)). AreColumns c.args.dictionary.now c.loop-place.dictionary c.args.rows.now xs c.loop-place.columns) (take_all c.loop-place.place c.args.vars.now c.loop-place-test.false) c.loop-place.invariant
