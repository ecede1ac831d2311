use Rattle.std.proofs.Common.{◌≡◌, ◌∙◌}
use Rattle.std.proofs.lemmas.Result.{err_from_is_err_and}
use Rattle.consistency_dm.proofs.FirstConflicts.{right_verdict}
use Rattle.cmd_dm.specs.Consistent.{verdict_text}
use Rattle.cmd_dm.specs.Questions.{verdict_of}
use Rattle.cmd_dm.specs.Script.{write, text_work}
use Rattle.cmd_dm.proofs.Endings.{ends_after, ends_memory, ends_writes, leads_ask}
use Rattle.cmd_dm.proofs.consistent.run_consistent.Goals as goal

pub returns-in_err-triples : goal.returns-in_err-triples
returns-in_err-triples g c =
    let error = err_from_is_err_and c.from_residual.result c.from_residual.ensures.1 in
    rw (error.1, error.2) (c.in_err-triples.ensures.step _ _ _)

pub returns-in_err-verdict : goal.returns-in_err-verdict
returns-in_err-verdict g c =
    let error = err_from_is_err_and c.from_residual-in_err-verdict.result c.from_residual-in_err-verdict.ensures.1 in
    rw (error.1, error.2) (ends_after (c.in_ok-triples.ensures.step _) (ends_memory _ _ _ _))

pub returns-in_err-text : goal.returns-in_err-text
returns-in_err-text g c =
    let error = err_from_is_err_and c.from_residual-in_err-text.result c.from_residual-in_err-text.ensures.1 in
    rw (error.1, error.2) (ends_after (c.in_ok-triples.ensures.step _) (ends_memory _ _ _ _))

pub returns : goal.returns
returns g c =
    let triples = c.in_ok-triples.triples in
    let verdict = c.in_ok-verdict.verdict in
    let right = rw c.as_slice.ensures at (right_verdict c.as_slice.result.now verdict c.in_ok-verdict.ensures.yes c.in_ok-verdict.ensures.conflict) in
    let text : c.as_bytes.result.now ≡ verdict_text verdict = c.as_bytes.ensures.value ∙ c.in_ok-text.ensures in
    ends_after (c.in_ok-triples.ensures.step _)
    (ends_after (leads_ask (verdict_of triples) verdict (λ v. write (text_work (verdict_text v))) _ right)
    (rw c.end_of_puts.ensures (rw text at (ends_writes c.as_bytes.result.now (g.S.Shelf.state c.load_graph.new.shelf) c.put.result (record { puts = c.put.ensures.puts; kept = c.put.ensures.kept })))))
