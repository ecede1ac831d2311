use Rattle.std.proofs.lemmas.Result.{err_from_is_err_and}
use Rattle.cmd_dm.specs.Append.{further_rows_step}
use Rattle.cmd_dm.proofs.Endings.{ends_after, leads_trans}
use Rattle.cmd_dm.proofs.append.read_further_rows.Goals as goal

pub returns-in_err-rows-clause-step : goal.returns-in_err-rows-clause-step
unfolding further_rows_step
returns-in_err-rows-clause-step c =
    let error = err_from_is_err_and c.from_residual.result c.from_residual.ensures.1 in
    rw (error.1, error.2) (λ state target next out. c.in_err-rows.ensures.step state target _ out)

pub returns-in_err-check_few-clause-step : goal.returns-in_err-check_few-clause-step
unfolding further_rows_step
returns-in_err-check_few-clause-step c =
    let error = err_from_is_err_and c.from_residual-in_err-check_few.result c.from_residual-in_err-check_few.ensures.1 in
    rw (error.1, error.2) (λ state target next out. ends_after (c.in_ok-rows.ensures.step state _) ((rw c.len.ensures at c.in_err-check_few.ensures.step) state target _ out))

pub returns-clause-step : goal.returns-clause-step
unfolding further_rows_step
returns-clause-step c = λ state next. leads_trans (c.in_ok-rows.ensures.step state _) ((rw c.len.ensures at c.in_ok-check_few.ensures.step) state _)
