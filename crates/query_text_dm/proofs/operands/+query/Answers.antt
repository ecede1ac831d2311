use Rattle.std.proofs.Common.{◌-◌}
use Rattle.std.proofs.lemmas.Result.{err_from_is_err_and}
use Rattle.query_text_dm.specs.Reading.{inside_at, open_at, query_at}
use Rattle.query_text_dm.proofs.Exits.{fails_first, no_level, one_level}
use Rattle.query_text_dm.proofs.operands.+query.Goals as goal

pub query-returns-then-levels-eq0 : goal.query-returns-then-levels-eq0
query-returns-then-levels-eq0 t c = no_level c.args.levels c.args.tokens.now c.if-levels-eq0.true

pub query-returns-in_err-rest : goal.query-returns-in_err-rest
query-returns-in_err-rest t c =
    let error = err_from_is_err_and c.from_residual.result c.from_residual.ensures.1 in
    rw (error.1, error.2, one_level c.args.levels c.args.tokens.now c.if-levels-eq0.false)
    (fails_first c.in_err-rest.field-0.0 (open_at c.args.tokens.now) (λ o. inside_at (query_at (c.args.levels - 1)) o.1) c.in_err-rest.ensures)

pub query-returns : goal.query-returns
query-returns t c = rw (one_level c.args.levels c.args.tokens.now c.if-levels-eq0.false, c.in_ok-rest.ensures) c.inside.ensures
