use Rattle.std.proofs.lemmas.Result.{err_from_is_err_and}
use Rattle.cmd_dm.specs.Steps.{database_step}
use Rattle.cmd_dm.proofs.steps.read_database.Goals as goal

pub returns-in_err-_schema : goal.returns-in_err-_schema
unfolding database_step
returns-in_err-_schema g c =
    let error = err_from_is_err_and c.from_residual.result c.from_residual.ensures.1 in
    rw (error.1, error.2) (λ target next out. c.in_err-_schema.ensures target _ out)

pub returns : goal.returns
unfolding database_step
returns g c = λ next. c.in_ok-_schema.ensures _
