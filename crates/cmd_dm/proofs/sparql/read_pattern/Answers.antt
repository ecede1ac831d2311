use Rattle.std.proofs.Common.{ℕ, List, Ok, Err, subst}
use Rattle.sparql_text_dm.specs.Answer.{IsAnswer}
use Rattle.cmd_dm.proofs.StepLaws.{parsed_ends, parsed_reads}
use Rattle.cmd_dm.proofs.sparql.read_pattern.Goals as goal

pub returns-in-Ok-clause-step : goal.returns-in-Ok-clause-step
returns-in-Ok-clause-step c = λ state next.
    parsed_reads c.args.bytes.now c.in-Ok.parsed (subst (λ (bytes : List ℕ). IsAnswer bytes (Ok c.in-Ok.parsed)) c.as_slice.ensures c.in-Ok.ensures.answer) state next

pub returns-in-Err-clause-step : goal.returns-in-Err-clause-step
returns-in-Err-clause-step c = λ state target next out. rw c.sparql_status.ensures
    (parsed_ends c.args.bytes.now c.in-Err.error (subst (λ (bytes : List ℕ). IsAnswer bytes (Err c.in-Err.error)) c.as_slice.ensures c.in-Err.ensures.answer) state target next out)
