use Rattle.std.proofs.lemmas.Result.{err_from_is_err_and}
use Rattle.cmd_dm.proofs.Endings.{ends_memory}
use Rattle.cmd_dm.proofs.append.check_alone.Goals as goal

pub returns-in_err-indexes-clause-step : goal.returns-in_err-indexes-clause-step
returns-in_err-indexes-clause-step c =
    let error = err_from_is_err_and c.from_residual.result c.from_residual.ensures.1 in
    rw (error.1, error.2) (λ state target next out. ends_memory target _ state out)
