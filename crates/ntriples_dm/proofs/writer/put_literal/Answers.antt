use Rattle.std.proofs.lemmas.Result.{err_from_is_err_and}
use Rattle.outside_dm.proofs.Putting.{Passes-cut, Passes-then, Written-all, Written-then}
use Rattle.ntriples_dm.proofs.Pieces.{passes_cut_first}
use Rattle.ntriples_dm.proofs.writer.put_literal.Goals as goal

pub returns-in_err-put_piece : goal.returns-in_err-put_piece
returns-in_err-put_piece g c =
    let error = err_from_is_err_and c.from_residual.result c.from_residual.ensures.1 in
    rw (error.1, error.2) (passes_cut_first _ _ c.in_err-put_piece.ensures)

pub returns-in_err-put_quoted : goal.returns-in_err-put_quoted
returns-in_err-put_quoted g c =
    let error = err_from_is_err_and c.from_residual-in_err-put_quoted.result c.from_residual-in_err-put_quoted.ensures.1 in
    rw (error.1, error.2, ← c.text.ensures) (Passes-cut _ _ (Written-all c.in_ok-put_piece.ensures.writes) c.in_err-put_quoted.ensures)

pub returns : goal.returns
returns g c =
    rw (← c.text.ensures, ← c.kind.ensures.kind)
    (Passes-then _ (Written-then (Written-all c.in_ok-put_piece.ensures.writes) c.in_ok-put_quoted.ensures.writes) (record { writes = c.put_type.ensures.writes; short = c.put_type.ensures.short }))
