use Rattle.std.proofs.lemmas.Result.{err_from_is_err_and}
use Rattle.cmd_dm.specs.Steps.{folder_step}
use Rattle.cmd_dm.proofs.Endings.{ends_after, leads_trans}
use Rattle.cmd_dm.proofs.steps.read_folder.Goals as goal

pub returns-in_err-bytes : goal.returns-in_err-bytes
unfolding folder_step
returns-in_err-bytes g c =
    let error = err_from_is_err_and c.from_residual.result c.from_residual.ensures.1 in
    rw (error.1, error.2) (λ target next out. c.in_err-bytes.ensures target _ out)

pub returns-in_err-schema : goal.returns-in_err-schema
unfolding folder_step
returns-in_err-schema g c =
    let error = err_from_is_err_and c.from_residual-in_err-schema.result c.from_residual-in_err-schema.ensures.1 in
    rw (error.1, error.2) (λ target next out. ends_after (c.in_ok-bytes.ensures _) (c.in_err-schema.ensures _ target _ out))

pub returns-in_err-rows : goal.returns-in_err-rows
unfolding folder_step
returns-in_err-rows g c =
    let error = err_from_is_err_and c.from_residual-in_err-rows.result c.from_residual-in_err-rows.ensures.1 in
    rw (error.1, error.2) (λ target next out.
    ends_after (c.in_ok-bytes.ensures _) (ends_after (c.in_ok-schema.ensures _ _) ((rw c.tables.ensures.value at c.in_err-rows.ensures.step) target _ out)))

pub returns : goal.returns
unfolding folder_step
returns g c = λ next.
    rw c.in-Some.ensures.value
    (leads_trans (c.in_ok-bytes.ensures _) (leads_trans (c.in_ok-schema.ensures _ _) ((rw c.tables.ensures.value at c.in_ok-rows.ensures.step) _)))
