use Rattle.std.proofs.lemmas.Result.{err_from_is_err_and}
use Rattle.outside_dm.proofs.Putting.{Passes-put, Passes-then, Writes-put, Written-all}
use Rattle.ntriples_dm.proofs.Pieces.{passes_cut_first}
use Rattle.ntriples_dm.proofs.writer.put_run.Goals as goal

pub returns-in_err-put : goal.returns-in_err-put
returns-in_err-put g c =
    let error = err_from_is_err_and c.from_residual.result c.from_residual.ensures.1 in
    rw (error.1, error.2) (passes_cut_first _ _ (Passes-put _ c.in_err-put.ensures.puts c.in_err-put.ensures.kept c.in_err-put.ensures.shortage))

pub returns : goal.returns
returns g c =
    rw (← c.escape.ensures)
    (Passes-then _ (Written-all (Writes-put c.in_ok-put.ensures.puts c.in_ok-put.ensures.kept)) (record { writes = c.put_piece.ensures.writes; short = c.put_piece.ensures.short }))
