use Rattle.std.proofs.Common.{ℕ, List, Ok, Err, subst}
use Rattle.query_text_dm.specs.Answer.{IsAnswer}
use Rattle.cmd_dm.proofs.StepLaws.{query_ends, query_reads}
use Rattle.cmd_dm.proofs.query.read_query_text.Goals as goal

pub returns-in-Ok-clause-step : goal.returns-in-Ok-clause-step
returns-in-Ok-clause-step c = λ state next.
    query_reads c.args.schema.now c.args.bytes.now c.in-Ok.query (subst (λ (bytes : List ℕ). IsAnswer c.args.schema.now bytes (Ok c.in-Ok.query)) c.as_slice.ensures c.in-Ok.ensures.answer) state next

pub returns-in-Err-clause-step : goal.returns-in-Err-clause-step
returns-in-Err-clause-step c = λ state target next out. rw c.query_status.ensures
    (query_ends c.args.schema.now c.args.bytes.now c.in-Err.error (subst (λ (bytes : List ℕ). IsAnswer c.args.schema.now bytes (Err c.in-Err.error)) c.as_slice.ensures c.in-Err.ensures.answer) state target next out)
