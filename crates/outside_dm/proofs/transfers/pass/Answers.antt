use Rattle.std.proofs.Common.{◌≤◌, ap, refl, subst, take, drop, length, List, ℕ, arith}
use Rattle.std.proofs.lemmas.List.{drop-drop, length-drop}
use Rattle.outside_dm.proofs.Transferring.{one_more_write, put_ends, some_left, none_left}
use Rattle.outside_dm.proofs.transfers.pass.Goals as goal

pub returns-in-Ok-eq0-clause-calls : goal.returns-in-Ok-eq0-clause-calls
returns-in-Ok-eq0-clause-calls g c =
    put_ends _ _ _ _ _ _ _ _ _ c.loop-taken.invariant.front c.in-Ok-eq0.ensures.call (some_left _ _ c.loop-taken-test.true, ap (λ (n : ℕ). take n c.behind.result.now) c.in-Ok-eq0.field-0-test, refl)

pub loop-taken-preserved : goal.loop-taken-preserved
loop-taken-preserved g c =
    let within : c.in-Ok.count ≤ length (drop c.loop-taken.taken c.args.piece.now) = subst (λ (l : List ℕ). c.in-Ok.count ≤ length l) c.behind.ensures c.in-Ok.ensures.bound in record {
      within = omega (arith, c.loop-taken.invariant.within, within, length-drop c.loop-taken.taken c.args.piece.now);
      front =
          rw (← drop-drop) (one_more_write _ _ _ _ _ _ _ c.in-Ok.count c.loop-taken.invariant.front (omega (arith, c.in-Ok.count-test)) within
          (rw (← c.behind.ensures) c.in-Ok.ensures.call) (rw (← c.behind.ensures) c.in-Ok.ensures.bytes));
    }

pub returns-in-Err-clause-calls : goal.returns-in-Err-clause-calls
returns-in-Err-clause-calls g c =
    put_ends _ _ _ _ _ _ _ _ _ c.loop-taken.invariant.front c.in-Err.ensures.call (some_left _ _ c.loop-taken-test.true, c.put_refusal.ensures)

pub returns-in-Ok-flush_once-clause-calls : goal.returns-in-Ok-flush_once-clause-calls
returns-in-Ok-flush_once-clause-calls g c =
    put_ends _ _ _ _ _ _ _ _ _ c.loop-taken.invariant.front c.in-Ok-flush_once.ensures.call (none_left _ _ c.loop-taken-test.false, refl)

pub returns-in-Err-flush_once-clause-calls : goal.returns-in-Err-flush_once-clause-calls
returns-in-Err-flush_once-clause-calls g c =
    put_ends _ _ _ _ _ _ _ _ _ c.loop-taken.invariant.front c.in-Err-flush_once.ensures.call (none_left _ _ c.loop-taken-test.false, c.put_refusal-in-Err-flush_once.ensures)
