use Rattle.std.proofs.lemmas.Result.{err_from_is_err_and}
use Rattle.sparql_text_dm.proofs.Exits.{gives_as, no_pattern, pattern_fails, pattern_is}
use Rattle.sparql_text_dm.proofs.patterns.+pattern.Goals as goal

pub pattern-returns-then-levels-eq0 : goal.pattern-returns-then-levels-eq0
pattern-returns-then-levels-eq0 t c = no_pattern c.args.levels c.args.tokens.now c.if-levels-eq0.true

pub pattern-returns-in_err-rest : goal.pattern-returns-in_err-rest
pattern-returns-in_err-rest t c =
    let error = err_from_is_err_and c.from_residual.result c.from_residual.ensures.1 in
    rw (error.1, error.2) (pattern_fails c.args.levels c.args.tokens.now c.in_err-rest.field-0.0 c.if-levels-eq0.false c.in_err-rest.ensures)

pub pattern-returns : goal.pattern-returns
pattern-returns t c =
    gives_as c.closed.result _ _ (pattern_is c.args.levels c.args.tokens.now c.in_ok-rest.rest.now c.if-levels-eq0.false c.in_ok-rest.ensures) (c.closed.ensures _ c.content.ensures)
