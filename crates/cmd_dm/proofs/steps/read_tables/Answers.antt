use Rattle.std.proofs.Common.{◌≡◌, refl, arith, length, Some}
use Rattle.std.specs.Prelude.{slice_get}
use Rattle.std.proofs.lemmas.Option.{slice_get_read}
use Rattle.std.proofs.lemmas.Result.{err_from_is_err_and}
use Rattle.members_dm.proofs.ElementsLemmas.{item_at_index}
use Rattle.table_csv.specs.Cells.{AreRowsOf}
use Rattle.cmd_dm.proofs.Endings.{ends_after, ends_memory, leads_trans}
use Rattle.cmd_dm.proofs.StepLaws.{all_read, leads_to_table, one_more_read, zip_more}
use Rattle.cmd_dm.proofs.steps.read_tables.Goals as goal

pub returns-in_err-bytes-clause-step : goal.returns-in_err-bytes-clause-step
returns-in_err-bytes-clause-step g c =
    let error = err_from_is_err_and c.from_residual.result c.from_residual.ensures.1 in
    let at : slice_get c.args.tables.now c.loop-place.place ≡ Some c.index-tables-place.result = slice_get_read _ _ c.loop-place.place _ refl c.loop-place-test.true c.index-tables-place.is in
    rw (error.1, error.2) (λ target next out.
    ends_after (leads_to_table c.args.folder.now c.args.nulls c.args.tables.now (g.S.Shelf.state c.args.shelf.now) c.loop-place.place c.loop-place.list _ _ at c.loop-place.invariant.0 next)
    (c.in_err-bytes.ensures target _ out))

pub read_rows-requires : goal.read_rows-requires
read_rows-requires g c =
    (c.requires.each c.index-tables-place.result
    (item_at_index c.index-tables-place.result c.args.tables.now c.loop-place.place (slice_get_read _ _ c.loop-place.place _ refl c.loop-place-test.true c.index-tables-place.is))).distinct

pub returns-in_err-read_rows-clause-step : goal.returns-in_err-read_rows-clause-step
returns-in_err-read_rows-clause-step g c =
    let error = err_from_is_err_and c.from_residual-in_err-read_rows.result c.from_residual-in_err-read_rows.ensures.1 in
    let at : slice_get c.args.tables.now c.loop-place.place ≡ Some c.index-tables-place.result = slice_get_read _ _ c.loop-place.place _ refl c.loop-place-test.true c.index-tables-place.is in
    rw (error.1, error.2) (λ target next out.
    ends_after (leads_to_table c.args.folder.now c.args.nulls c.args.tables.now (g.S.Shelf.state c.args.shelf.now) c.loop-place.place c.loop-place.list _ _ at c.loop-place.invariant.0 next)
    (ends_after (c.in_ok-bytes.ensures _) (c.in_err-read_rows.ensures.step _ target _ out)))

pub returns-in_err-push-clause-step : goal.returns-in_err-push-clause-step
returns-in_err-push-clause-step g c =
    let error = err_from_is_err_and c.from_residual-in_err-push.result c.from_residual-in_err-push.ensures.1 in
    let at : slice_get c.args.tables.now c.loop-place.place ≡ Some c.index-tables-place.result = slice_get_read _ _ c.loop-place.place _ refl c.loop-place-test.true c.index-tables-place.is in
    rw (error.1, error.2) (λ target next out.
    ends_after (leads_to_table c.args.folder.now c.args.nulls c.args.tables.now (g.S.Shelf.state c.args.shelf.now) c.loop-place.place c.loop-place.list _ _ at c.loop-place.invariant.0 next)
    (ends_after (c.in_ok-bytes.ensures _) (ends_memory target _ _ out)))

pub loop-place-preserved : goal.loop-place-preserved
loop-place-preserved g c =
    let at : slice_get c.args.tables.now c.loop-place.place ≡ Some c.index-tables-place.result = slice_get_read _ _ c.loop-place.place _ refl c.loop-place-test.true c.index-tables-place.is in
    rw c.in_ok-push.ensures.ok (
      one_more_read c.args.folder.now c.args.nulls c.args.tables.now (g.S.Shelf.state c.args.shelf.now) c.loop-place.place c.loop-place.list _ _
          (λ next. leads_trans (leads_to_table c.args.folder.now c.args.nulls c.args.tables.now (g.S.Shelf.state c.args.shelf.now) c.loop-place.place c.loop-place.list _ _ at c.loop-place.invariant.0 next)
          (leads_trans (c.in_ok-bytes.ensures _) (c.in_ok-read_rows.ensures.step _ _))),
      zip_more (λ table rows. AreRowsOf table.columns rows) c.args.tables.now c.loop-place.list c.loop-place.place _ _ at c.loop-place.invariant.1 c.in_ok-read_rows.ensures.fit,
    )

pub returns-clause-step : goal.returns-clause-step
returns-clause-step g c =
    let whole : c.loop-place.place ≡ length c.args.tables.now = omega (arith, c.loop-place-test.false, c.loop-place.auto) in
    all_read c.args.folder.now c.args.nulls c.args.tables.now (g.S.Shelf.state c.args.shelf.now) c.loop-place.place c.loop-place.list _ whole c.loop-place.invariant.0
