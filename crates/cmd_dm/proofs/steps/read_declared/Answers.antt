use Rattle.std.proofs.lemmas.Result.{err_from_is_err_and}
use Rattle.cmd_dm.specs.Steps.{declared_step, schema_step}
use Rattle.cmd_dm.proofs.Endings.{step_then}
use Rattle.cmd_dm.proofs.steps.read_declared.Goals as goal

pub returns-in_err-bytes : goal.returns-in_err-bytes
unfolding declared_step
returns-in_err-bytes g c =
    let error = err_from_is_err_and c.from_residual.result c.from_residual.ensures.1 in
    rw (error.1, error.2) (λ target next out. c.in_err-bytes.ensures target (λ bytes. schema_step bytes next) out)

pub returns : goal.returns
unfolding declared_step
returns g c =
    step_then (declared_step c.args.folder.now) (schema_step c.in_ok-bytes.bytes) _ _ c.read_schema.result
    (λ next. c.in_ok-bytes.ensures (λ bytes. schema_step bytes next)) (c.read_schema.ensures _)
