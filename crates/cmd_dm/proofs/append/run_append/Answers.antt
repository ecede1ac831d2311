use Rattle.std.proofs.lemmas.Result.{err_from_is_err_and}
use Rattle.cmd_dm.proofs.Endings.{ends_after}
use Rattle.cmd_dm.proofs.append.run_append.Goals as goal

pub returns-in_err-base : goal.returns-in_err-base
returns-in_err-base g c =
    let error = err_from_is_err_and c.from_residual.result c.from_residual.ensures.1 in
    rw (error.1, error.2) (c.in_err-base.ensures _ _ _ _)

pub returns-in_err-database : goal.returns-in_err-database
returns-in_err-database g c =
    let error = err_from_is_err_and c.from_residual-in_err-database.result c.from_residual-in_err-database.ensures.1 in
    rw (error.1, error.2) (ends_after (c.in_ok-base.ensures _ _) (c.in_err-database.ensures _ _ _))

pub returns-in_err-batch : goal.returns-in_err-batch
returns-in_err-batch g c =
    let error = err_from_is_err_and c.from_residual-in_err-batch.result c.from_residual-in_err-batch.ensures.1 in
    rw (error.1, error.2) (ends_after (c.in_ok-base.ensures _ _) (ends_after (c.in_ok-database.ensures _) (c.in_err-batch.ensures.step _ _ _)))

pub returns : goal.returns
returns g c = ends_after (c.in_ok-base.ensures _ _) (ends_after (c.in_ok-database.ensures _) (ends_after (c.in_ok-batch.ensures.step _) (c.put_batch.ensures _)))
