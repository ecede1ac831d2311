use Rattle.std.proofs.lemmas.Result.{err_from_is_err_and}
use Rattle.cmd_dm.specs.Steps.{query_step, query_text_step}
use Rattle.cmd_dm.proofs.Endings.{step_then}
use Rattle.cmd_dm.proofs.query.load_query.Goals as goal

pub returns-in_err-bytes-clause-step : goal.returns-in_err-bytes-clause-step
unfolding query_step
returns-in_err-bytes-clause-step g c =
    let error = err_from_is_err_and c.from_residual.result c.from_residual.ensures.1 in
    rw (error.1, error.2) (λ target next out. rw c.as_str.ensures.bytes at (c.in_err-bytes.ensures target (λ bytes. query_text_step c.args.schema.now bytes next) out))

pub returns-clause-step : goal.returns-clause-step
unfolding query_step
returns-clause-step g c =
    step_then (query_step c.args.schema.now c.args.name.now) (query_text_step c.args.schema.now c.in_ok-bytes.bytes) _ _ c.read_query_text.result
    (λ next. rw c.as_str.ensures.bytes at (c.in_ok-bytes.ensures (λ bytes. query_text_step c.args.schema.now bytes next))) (c.read_query_text.ensures.step _)
