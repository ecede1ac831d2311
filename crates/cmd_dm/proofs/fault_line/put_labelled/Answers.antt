use Rattle.std.proofs.Common.{[]}
use Rattle.std.proofs.lemmas.Result.{err_from_is_err_and}
use Rattle.outside_dm.proofs.Putting.{Passes-put, Passes-then, Written-all, Writes-put, Written-nothing, Passes-cut}
use Rattle.cmd_dm.proofs.fault_line.put_labelled.Goals as goal

pub returns-in_err-put : goal.returns-in_err-put
returns-in_err-put g c =
    let error = err_from_is_err_and c.from_residual.result c.from_residual.ensures.1 in
    rw (error.1, error.2, ← c.as_bytes.ensures.value)
    (Passes-cut {xs = []} _ _ (Written-nothing _) (Passes-put _ c.in_err-put.ensures.puts c.in_err-put.ensures.kept c.in_err-put.ensures.shortage))

pub returns : goal.returns
returns g c =
    rw (← c.as_bytes.ensures.value)
    (Passes-then _ (Written-all (Writes-put c.in_ok-put.ensures.puts c.in_ok-put.ensures.kept)) (record { writes = c.put_number.ensures.writes; short = c.put_number.ensures.short }))
