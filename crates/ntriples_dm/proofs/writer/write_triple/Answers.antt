use Rattle.std.proofs.lemmas.Result.{err_from_is_err_and}
use Rattle.outside_dm.proofs.Putting.{Passes-cut, Passes-then, Written-all, Written-then}
use Rattle.ntriples_dm.proofs.Pieces.{line_end_is, line_front_is, line_is, passes_cut_first, passes_same}
use Rattle.ntriples_dm.proofs.writer.write_triple.Goals as goal

pub returns-in_err-put_term : goal.returns-in_err-put_term
returns-in_err-put_term g c =
    let error = err_from_is_err_and c.from_residual.result c.from_residual.ensures.1 in
    rw (error.1, error.2) (passes_same (line_is c.args.triple.now) (passes_cut_first _ _ (rw c.subject.ensures.subject at c.in_err-put_term.ensures)))

pub returns-in_err-put_predicate : goal.returns-in_err-put_predicate
returns-in_err-put_predicate g c =
    let error = err_from_is_err_and c.from_residual-in_err-put_predicate.result c.from_residual-in_err-put_predicate.ensures.1 in
    rw (error.1, error.2)
    (passes_same (line_is c.args.triple.now)
    (Passes-cut _ _ (Written-all (rw c.subject.ensures.subject at c.in_ok-put_term.ensures).writes) (rw c.predicate.ensures at c.in_err-put_predicate.ensures)))

pub returns-in_err-put_term-2 : goal.returns-in_err-put_term-2
returns-in_err-put_term-2 g c =
    let error = err_from_is_err_and c.from_residual-in_err-put_term-2.result c.from_residual-in_err-put_term-2.ensures.1 in
    rw (error.1, error.2)
    (passes_same (line_front_is c.args.triple.now)
    (Passes-cut _ _
    (Written-then (Written-all (rw c.subject.ensures.subject at c.in_ok-put_term.ensures).writes) (rw c.predicate.ensures at c.in_ok-put_predicate.ensures).writes)
    (rw c.object.ensures at c.in_err-put_term-2.ensures)))

pub returns : goal.returns
returns g c =
    passes_same (line_end_is c.args.triple.now)
    (Passes-then _
    (Written-then (Written-then (Written-all (rw c.subject.ensures.subject at c.in_ok-put_term.ensures).writes) (rw c.predicate.ensures at c.in_ok-put_predicate.ensures).writes)
    (rw c.object.ensures at c.in_ok-put_term-2.ensures).writes)
    (record { writes = c.put_piece.ensures.writes; short = c.put_piece.ensures.short }))
