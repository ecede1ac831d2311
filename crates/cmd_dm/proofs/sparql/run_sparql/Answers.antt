use Rattle.std.proofs.lemmas.Result.{err_from_is_err_and}
use Rattle.cmd_dm.specs.Questions.{solutions_of}
use Rattle.cmd_dm.specs.Script.{write, text_work}
use Rattle.cmd_dm.proofs.Endings.{ends_after, ends_memory, ends_writes, leads_ask}
use Rattle.cmd_dm.proofs.sparql.run_sparql.Goals as goal

pub returns-in_err-parsed : goal.returns-in_err-parsed
returns-in_err-parsed g c =
    let error = err_from_is_err_and c.from_residual.result c.from_residual.ensures.1 in
    rw (error.1, error.2) (c.in_err-parsed.ensures.step _ _ _)

pub returns-in_err-triples : goal.returns-in_err-triples
returns-in_err-triples g c =
    let error = err_from_is_err_and c.from_residual-in_err-triples.result c.from_residual-in_err-triples.ensures.1 in
    rw (error.1, error.2) (ends_after (c.in_ok-parsed.ensures.step _) (c.in_err-triples.ensures.step _ _ _))

pub returns-in_err-text : goal.returns-in_err-text
returns-in_err-text g c =
    let error = err_from_is_err_and c.from_residual-in_err-text.result c.from_residual-in_err-text.ensures.1 in
    rw (error.1, error.2) (ends_after (c.in_ok-parsed.ensures.step _) (ends_after (c.in_ok-triples.ensures.step _) (ends_memory _ _ _ _)))

pub returns : goal.returns
returns g c =
    let text = c.in_ok-text.text in
    let question = solutions_of c.in_ok-parsed.parsed c.in_ok-triples.triples in
    ends_after (c.in_ok-parsed.ensures.step _) (ends_after (c.in_ok-triples.ensures.step _)
    (ends_after (leads_ask question text.items (λ text. write (text_work text)) _ c.in_ok-text.ensures)
    (rw c.end_of_puts.ensures (rw c.as_slice.ensures.value at (ends_writes c.as_slice.result.now (g.S.Shelf.state c.load_graph.new.shelf) c.put.result (record { puts = c.put.ensures.puts; kept = c.put.ensures.kept }))))))
