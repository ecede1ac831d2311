use Rattle.std.proofs.lemmas.Result.{err_from_is_err_and}
use Rattle.std.proofs.lemmas.List.{get_or_default}
use Rattle.ntriples_dm.proofs.Pieces.{passes_cut_at}
use Rattle.ntriples_dm.proofs.writer.put_all.Goals as goal

pub returns-in_err-put_piece : goal.returns-in_err-put_piece
returns-in_err-put_piece g c =
    let error = err_from_is_err_and c.from_residual.result c.from_residual.ensures.1 in
    rw (error.1, error.2)
    (passes_cut_at (λ piece. piece.now) c.args.pieces.now c.loop-piece.piece-index _ c.loop-piece-test.true (get_or_default _ _ _ _ c.loop-piece-test.true) _
    c.loop-piece.invariant c.in_err-put_piece.ensures)
