use Rattle.std.proofs.Common.{◌∙◌}
use Rattle.std.proofs.lemmas.Result.{err_from_is_err_and}
use Rattle.cmd_dm.specs.Append.{more_step}
use Rattle.cmd_dm.proofs.Endings.{ends_memory}
use Rattle.cmd_dm.proofs.append.read_more.Goals as goal

pub returns-in_err-schema-clause-step : goal.returns-in_err-schema-clause-step
returns-in_err-schema-clause-step g c =
    let error = err_from_is_err_and c.from_residual.result c.from_residual.ensures.1 in
    rw (error.1, error.2) (λ target next out. ends_memory target _ _ out)

pub returns-in_err-rows-clause-step : goal.returns-in_err-rows-clause-step
unfolding more_step
returns-in_err-rows-clause-step g c =
    let error = err_from_is_err_and c.from_residual-in_err-rows.result c.from_residual-in_err-rows.ensures.1 in
    let same = c.tables.ensures.value ∙ c.in_ok-schema.ensures ∙ c.schema.ensures.value in
    rw (error.1, error.2) (λ target next out. (rw same at c.in_err-rows.ensures.step) target _ out)

pub returns-clause-step : goal.returns-clause-step
unfolding more_step
returns-clause-step g c =
    let same = c.tables.ensures.value ∙ c.in_ok-schema.ensures ∙ c.schema.ensures.value in
    let copied = c.in_ok-schema.ensures ∙ c.schema.ensures.value in
    λ next. rw c.in-Some.ensures.value (rw copied ((rw same at c.in_ok-rows.ensures.step) _))
