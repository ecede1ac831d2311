use Rattle.std.proofs.lemmas.Result.{err_from_is_err_and}
use Rattle.cmd_dm.specs.Steps.{parsed_step, parsed_text_step}
use Rattle.cmd_dm.proofs.Endings.{step_then}
use Rattle.cmd_dm.proofs.sparql.load_pattern.Goals as goal

pub returns-in_err-bytes-clause-step : goal.returns-in_err-bytes-clause-step
unfolding parsed_step
returns-in_err-bytes-clause-step g c =
    let error = err_from_is_err_and c.from_residual.result c.from_residual.ensures.1 in
    rw (error.1, error.2) (λ target next out. rw c.as_str.ensures.bytes at (c.in_err-bytes.ensures target (λ bytes. parsed_text_step bytes next) out))

pub returns-clause-step : goal.returns-clause-step
unfolding parsed_step
returns-clause-step g c =
    step_then (parsed_step c.args.name.now) (parsed_text_step c.in_ok-bytes.bytes) _ _ c.read_pattern.result
    (λ next. rw c.as_str.ensures.bytes at (c.in_ok-bytes.ensures (λ bytes. parsed_text_step bytes next))) (c.read_pattern.ensures.step _)
