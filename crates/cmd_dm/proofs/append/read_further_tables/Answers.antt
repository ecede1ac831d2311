use Rattle.std.proofs.Common.{◌≡◌, ◌∙◌, ap, refl, subst, sym, arith, length, List, Some}
use Rattle.std.specs.Prelude.{slice_get}
use Rattle.std.proofs.lemmas.Option.{slice_get_read}
use Rattle.std.proofs.lemmas.Result.{err_from_is_err_and}
use Rattle.members_dm.proofs.ElementsLemmas.{item_at_index}
use Rattle.schema_dm.specs.Schemas.{IsSchema}
use Rattle.schema_dm.specs.declared.table.Table.{Table}
use Rattle.table_csv.specs.Cells.{AreRowsOf, Row}
use Rattle.table_csv.specs.Databases.{rows_at}
use Rattle.cmd_dm.proofs.Endings.{ends_after, ends_memory, leads_trans}
use Rattle.cmd_dm.proofs.Further.{all_further, counted, few_alone, few_more, leads_to_further, none_further, one_more_further}
use Rattle.cmd_dm.proofs.StepLaws.{zip_more}
use Rattle.cmd_dm.proofs.append.read_further_tables.Goals as goal

pub loop-place-init : goal.loop-place-init
loop-place-init g c =
    rw c.new-list.ensures
    (none_further c.args.folder.now c.args.nulls c.args.old.now.rows c.args.tables.now (g.S.Shelf.state c.args.shelf.now), tt, few_alone c.args.old.now c.requires.database)

pub returns-in_err-bytes-clause-step : goal.returns-in_err-bytes-clause-step
returns-in_err-bytes-clause-step g c =
    let error = err_from_is_err_and c.from_residual.result c.from_residual.ensures.1 in
    let at : slice_get c.args.tables.now c.loop-place.place ≡ Some c.index-tables-place.result = slice_get_read _ _ c.loop-place.place _ refl c.loop-place-test.true c.index-tables-place.is in
    rw (error.1, error.2) (λ target next out.
    ends_after (leads_to_further c.args.folder.now c.args.nulls c.args.old.now.rows c.args.tables.now (g.S.Shelf.state c.args.shelf.now) c.loop-place.place c.loop-place.list _ _ at c.loop-place.invariant.0 next)
    (c.in_err-bytes.ensures target _ out))

pub read_further_rows-requires-clause-distinct : goal.read_further_rows-requires-clause-distinct
read_further_rows-requires-clause-distinct g c =
    let schema : IsSchema c.args.tables.now = subst (λ (tables : List Table). IsSchema tables) (sym c.requires.same) c.requires.database.schema in
    (schema.each c.index-tables-place.result
    (item_at_index c.index-tables-place.result c.args.tables.now c.loop-place.place (slice_get_read _ _ c.loop-place.place _ refl c.loop-place-test.true c.index-tables-place.is))).distinct

pub returns-in_err-read_further_rows-clause-step : goal.returns-in_err-read_further_rows-clause-step
returns-in_err-read_further_rows-clause-step g c =
    let error = err_from_is_err_and c.from_residual-in_err-read_further_rows.result c.from_residual-in_err-read_further_rows.ensures.1 in
    let at : slice_get c.args.tables.now c.loop-place.place ≡ Some c.index-tables-place.result = slice_get_read _ _ c.loop-place.place _ refl c.loop-place-test.true c.index-tables-place.is in
    let count : c.len-count.result ≡ length (rows_at c.args.old.now.rows c.loop-place.place) = c.len-count.ensures ∙ ap (λ (rows : List Row). length rows) c.rows_of.ensures.value in
    rw (error.1, error.2) (λ target next out.
    ends_after (leads_to_further c.args.folder.now c.args.nulls c.args.old.now.rows c.args.tables.now (g.S.Shelf.state c.args.shelf.now) c.loop-place.place c.loop-place.list _ _ at c.loop-place.invariant.0 next)
    (ends_after (c.in_ok-bytes.ensures _) ((rw count at c.in_err-read_further_rows.ensures.step) _ target _ out)))

pub returns-in_err-push-clause-step : goal.returns-in_err-push-clause-step
returns-in_err-push-clause-step g c =
    let error = err_from_is_err_and c.from_residual-in_err-push.result c.from_residual-in_err-push.ensures.1 in
    let at : slice_get c.args.tables.now c.loop-place.place ≡ Some c.index-tables-place.result = slice_get_read _ _ c.loop-place.place _ refl c.loop-place-test.true c.index-tables-place.is in
    rw (error.1, error.2) (λ target next out.
    ends_after (leads_to_further c.args.folder.now c.args.nulls c.args.old.now.rows c.args.tables.now (g.S.Shelf.state c.args.shelf.now) c.loop-place.place c.loop-place.list _ _ at c.loop-place.invariant.0 next)
    (ends_after (c.in_ok-bytes.ensures _) (ends_memory target _ _ out)))

pub loop-place-preserved : goal.loop-place-preserved
loop-place-preserved g c =
    let at : slice_get c.args.tables.now c.loop-place.place ≡ Some c.index-tables-place.result = slice_get_read _ _ c.loop-place.place _ refl c.loop-place-test.true c.index-tables-place.is in
    let count : c.len-count.result ≡ length (rows_at c.args.old.now.rows c.loop-place.place) = c.len-count.ensures ∙ ap (λ (rows : List Row). length rows) c.rows_of.ensures.value in
    let place : c.loop-place.place ≡ length c.loop-place.list =
    counted (λ (table : Table) (rows : List Row). AreRowsOf table.columns rows) c.args.tables.now c.loop-place.list c.loop-place.place (omega (arith, c.loop-place-test.true)) c.loop-place.invariant.1 in
    rw c.in_ok-push.ensures.ok (
      one_more_further c.args.folder.now c.args.nulls c.args.old.now.rows c.args.tables.now (g.S.Shelf.state c.args.shelf.now) c.loop-place.place c.loop-place.list _ _
          (λ next. leads_trans (leads_to_further c.args.folder.now c.args.nulls c.args.old.now.rows c.args.tables.now (g.S.Shelf.state c.args.shelf.now) c.loop-place.place c.loop-place.list _ _ at c.loop-place.invariant.0 next)
          (leads_trans (c.in_ok-bytes.ensures _) ((rw count at c.in_ok-read_further_rows.ensures.step) _ _))),
      zip_more (λ (table : Table) (rows : List Row). AreRowsOf table.columns rows) c.args.tables.now c.loop-place.list c.loop-place.place _ _ at c.loop-place.invariant.1 c.in_ok-read_further_rows.ensures.fit,
      few_more c.args.old.now.rows c.loop-place.list _ c.loop-place.place place c.loop-place.invariant.2 (rw count at c.in_ok-read_further_rows.ensures.few),
    )

pub returns-clause-step : goal.returns-clause-step
returns-clause-step g c =
    let whole : c.loop-place.place ≡ length c.args.tables.now = omega (arith, c.loop-place-test.false, c.loop-place.auto) in
    all_further c.args.folder.now c.args.nulls c.args.old.now.rows c.args.tables.now (g.S.Shelf.state c.args.shelf.now) c.loop-place.place c.loop-place.list _ whole c.loop-place.invariant.0
