use Rattle.std.proofs.Common.{ℕ, List, Ok, Err, subst}
use Rattle.ntriples_reader_dm.specs.Answer.{IsAnswer}
use Rattle.cmd_dm.proofs.StepLaws.{triples_end, triples_read}
use Rattle.cmd_dm.proofs.steps.read_triples.Goals as goal

pub returns-in-Ok-clause-step : goal.returns-in-Ok-clause-step
returns-in-Ok-clause-step c = λ state next. triples_read c.args.bytes.now c.in-Ok.triples (subst (λ (bytes : List ℕ). IsAnswer bytes (Ok c.in-Ok.triples)) c.as_slice.ensures c.in-Ok.ensures.answer) state next

pub returns-in-Ok-clause-few : goal.returns-in-Ok-clause-few
returns-in-Ok-clause-few c = c.in-Ok.ensures.answer.1

pub returns-in-Err-clause-step : goal.returns-in-Err-clause-step
returns-in-Err-clause-step c = λ state target next out. rw c.graph_status.ensures (triples_end c.args.bytes.now c.in-Err.error (subst (λ (bytes : List ℕ). IsAnswer bytes (Err c.in-Err.error)) c.as_slice.ensures c.in-Err.ensures.answer) state target next out)
