use Rattle.std.proofs.lemmas.Result.{err_from_is_err_and}
use Rattle.cmd_dm.specs.Steps.{graph_step, triples_step}
use Rattle.cmd_dm.proofs.Endings.{step_then}
use Rattle.cmd_dm.proofs.steps.load_graph.Goals as goal

pub returns-in_err-bytes-clause-step : goal.returns-in_err-bytes-clause-step
unfolding graph_step
returns-in_err-bytes-clause-step g c =
    let error = err_from_is_err_and c.from_residual.result c.from_residual.ensures.1 in
    rw (error.1, error.2) (λ target next out. rw c.as_str.ensures.bytes at (c.in_err-bytes.ensures target (λ bytes. triples_step bytes next) out))

pub returns-clause-step : goal.returns-clause-step
unfolding graph_step
returns-clause-step g c =
    step_then (graph_step c.args.name.now) (triples_step c.in_ok-bytes.bytes) _ _ c.read_triples.result
    (λ next. rw c.as_str.ensures.bytes at (c.in_ok-bytes.ensures (λ bytes. triples_step bytes next))) (c.read_triples.ensures.step _)
