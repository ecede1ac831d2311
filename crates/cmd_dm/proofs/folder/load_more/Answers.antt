use Rattle.std.proofs.Common.{◌∙◌}
use Rattle.std.proofs.lemmas.Result.{err_from_is_err_and}
use Rattle.cmd_dm.proofs.Endings.{ends_memory, step_named}
use Rattle.cmd_dm.proofs.folder.load_more.Goals as goal

pub returns-in_err-name : goal.returns-in_err-name
returns-in_err-name g c =
    let error = err_from_is_err_and c.from_residual.result c.from_residual.ensures.1 in
    rw (error.1, error.2) (λ target next out. ends_memory target _ _ out)

pub returns : goal.returns
returns g c = step_named _ _ _ _ _ c.load_file.result (c.as_str.ensures.value ∙ c.in_ok-name.ensures) c.load_file.ensures
