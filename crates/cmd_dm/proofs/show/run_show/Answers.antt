use Rattle.std.proofs.lemmas.Result.{err_from_is_err_and}
use Rattle.std.specs.List.{flat_map}
use Rattle.ntriples_dm.specs.Written.{triple_text}
use Rattle.cmd_dm.proofs.Endings.{ends_after, ends_writes}
use Rattle.cmd_dm.proofs.show.run_show.Goals as goal

pub returns-in_err-triples : goal.returns-in_err-triples
returns-in_err-triples g c =
    let error = err_from_is_err_and c.from_residual.result c.from_residual.ensures.1 in
    rw (error.1, error.2) (c.in_err-triples.ensures.step _ _ _)

pub returns : goal.returns
returns g c =
    ends_after (c.in_ok-triples.ensures.step _)
    (rw c.end_of_puts.ensures (ends_writes (flat_map triple_text c.in_ok-triples.triples) _ _ (rw c.as_slice.ensures at c.write_triples.ensures)))
