use Rattle.std.proofs.lemmas.Result.{err_from_is_err_and}
use Rattle.query_text_dm.proofs.Named.{read_named}
use Rattle.query_text_dm.proofs.OneAnswer.{one_answer}
use Rattle.query_text_dm.proofs.Telling.{node_answer}
use Rattle.query_text_dm.proofs.query.read_query.Goals as goal

pub returns-clause-answer : goal.returns-clause-answer
returns-clause-answer c = (c.in_ok-query.ensures, c.in_ok-check_query.ensures.ok)

pub returns-clause-well_formed : goal.returns-clause-well_formed
returns-clause-well_formed c = record { faultless = c.in_ok-check_query.ensures.ok; names = read_named c.in_ok-query.ensures.0 c.in_ok-query.query c.in_ok-query.ensures.3 }

pub returns-clause-one : goal.returns-clause-one
returns-clause-one c = one_answer c.args.schema.now c.args.bytes.now

pub returns-in_err-query-clause-one : goal.returns-in_err-query-clause-one
returns-in_err-query-clause-one c = one_answer c.args.schema.now c.args.bytes.now

pub returns-in_err-check_query-clause-answer : goal.returns-in_err-check_query-clause-answer
returns-in_err-check_query-clause-answer c =
    let error = err_from_is_err_and c.from_residual-in_err-check_query.result c.from_residual-in_err-check_query.ensures.1 in
    rw (error.1, error.2) (node_answer c.args.schema.now c.args.bytes.now c.in_ok-query.query c.in_err-check_query.field-0.0 c.in_ok-query.ensures c.in_err-check_query.ensures.refused)

pub returns-in_err-check_query-clause-one : goal.returns-in_err-check_query-clause-one
returns-in_err-check_query-clause-one c = one_answer c.args.schema.now c.args.bytes.now
