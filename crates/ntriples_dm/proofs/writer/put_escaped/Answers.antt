use Rattle.std.proofs.Common.{◌∙◌, ◌++◌, ◌+◌, ℕ, [], refl, sym, ap, arith, append_assoc, drop, get_or, take}
use Rattle.std.proofs.lemmas.List.{length-drop}
use Rattle.std.proofs.lemmas.Result.{err_from_is_err_and}
use Rattle.std.specs.List.{flat_map}
use Rattle.outside_dm.proofs.Putting.{Passes-cut, Passes-put, Passes-then, Written-nothing, Written-then}
use Rattle.ntriples_dm.specs.Written.{escaped}
use Rattle.ntriples_dm.proofs.Pieces.{passes_same}
use Rattle.ntriples_dm.proofs.Quotes.{escaped_at, place_below, run_to, run_to_end}
use Rattle.ntriples_dm.proofs.writer.put_escaped.Goals as goal

pub loop-place-init : goal.loop-place-init
loop-place-init g c = ([], refl, Written-nothing _)

pub put_run-requires : goal.put_run-requires
put_run-requires g c = rw (escaped_at _ c.escaped_bytes-class.ensures c.loop-place.rest.now c.in-Some.place (sym c.in-Some.ensures)) refl

pub returns-in_err-put_run : goal.returns-in_err-put_run
returns-in_err-put_run g c =
    let error = err_from_is_err_and c.from_residual.result c.from_residual.ensures.1 in
    let rest = c.loop-place.rest.now in
    let before = c.loop-place.invariant in
    let whole = before.1 ∙ ap (λ l. before.0 ++ l) (run_to _ c.escaped_bytes-class.ensures rest c.in-Some.place (sym c.in-Some.ensures)) in
    rw (error.1, error.2) (passes_same (sym whole) (Passes-cut _ _ before.2 c.in_err-put_run.ensures))

pub behind-rest-requires : goal.behind-rest-requires
behind-rest-requires g c = place_below _ c.escaped_bytes-class.ensures c.loop-place.rest.now c.in-Some.place (sym c.in-Some.ensures)

pub loop-place-smaller : goal.loop-place-smaller
loop-place-smaller g c =
    let below = place_below _ c.escaped_bytes-class.ensures c.loop-place.rest.now c.in-Some.place (sym c.in-Some.ensures) in
    rw c.behind-rest.ensures (omega (arith, below, length-drop {A = ℕ}))

pub loop-place-preserved : goal.loop-place-preserved
loop-place-preserved g c =
    let rest = c.loop-place.rest.now in
    let before = c.loop-place.invariant in
    let run = take c.in-Some.place rest ++ escaped (get_or rest c.in-Some.place 0) in
    let turn = run_to _ c.escaped_bytes-class.ensures rest c.in-Some.place (sym c.in-Some.ensures) in (
      before.0 ++ run,
      before.1
          ∙ ap (λ l. before.0 ++ l) turn
          ∙ sym (append_assoc before.0 run (flat_map escaped (drop (c.in-Some.place + 1) rest)))
          ∙ ap (λ l. (before.0 ++ run) ++ flat_map escaped l) (sym c.behind-rest.ensures),
      Written-then before.2 c.in_ok-put_run.ensures.writes,
    )

pub returns : goal.returns
returns g c =
    let before = c.loop-place.invariant in
    let whole = before.1 ∙ ap (λ l. before.0 ++ l) (run_to_end _ c.escaped_bytes-class.ensures c.loop-place.rest.now (sym c.in_default.ensures)) in
    passes_same (sym whole) (Passes-then _ before.2 (Passes-put _ c.put.ensures.puts c.put.ensures.kept c.put.ensures.shortage))
