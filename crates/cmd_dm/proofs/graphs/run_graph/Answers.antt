use Rattle.std.proofs.lemmas.Result.{err_from_is_err_and}
use Rattle.cmd_dm.specs.Questions.{graph_of}
use Rattle.cmd_dm.specs.Script.{write, text_work}
use Rattle.cmd_dm.proofs.Endings.{ends_after, ends_memory, ends_writes, leads_ask}
use Rattle.cmd_dm.proofs.graphs.run_graph.Goals as goal

pub returns-in_err-base : goal.returns-in_err-base
returns-in_err-base g c =
    let error = err_from_is_err_and c.from_residual.result c.from_residual.ensures.1 in
    rw (error.1, error.2) (c.in_err-base.ensures _ _ _ _)

pub returns-in_err-database : goal.returns-in_err-database
returns-in_err-database g c =
    let error = err_from_is_err_and c.from_residual-in_err-database.result c.from_residual-in_err-database.ensures.1 in
    rw (error.1, error.2) (ends_after (c.in_ok-base.ensures _ _) (c.in_err-database.ensures _ _ _))

pub returns-in_err-indexes : goal.returns-in_err-indexes
returns-in_err-indexes g c =
    let error = err_from_is_err_and c.from_residual-in_err-indexes.result c.from_residual-in_err-indexes.ensures.1 in
    rw (error.1, error.2) (ends_after (c.in_ok-base.ensures _ _) (ends_after (c.in_ok-database.ensures _) (ends_memory _ _ _ _)))

pub returns-in_err-check_kept : goal.returns-in_err-check_kept
returns-in_err-check_kept g c =
    let error = err_from_is_err_and c.from_residual-in_err-check_kept.result c.from_residual-in_err-check_kept.ensures.1 in
    rw (error.1, error.2) (ends_after (c.in_ok-base.ensures _ _) (ends_after (c.in_ok-database.ensures _) (c.in_err-check_kept.ensures.step _ _ _ _)))

pub returns : goal.returns
returns g c =
    let base = c.in_ok-base.base in
    let D = c.in_ok-database.database in
    let text = c.put_graph.ensures in
    ends_after (c.in_ok-base.ensures _ _) (ends_after (c.in_ok-database.ensures _) (ends_after (c.in_ok-check_kept.ensures.step _ _)
    (ends_after (leads_ask (graph_of c.args.name base D) text.text (λ text. write (text_work text)) _ text.is_text)
    (rw c.end_of_puts.ensures (ends_writes text.text _ _ text.writes)))))
