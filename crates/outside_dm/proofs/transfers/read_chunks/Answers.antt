use Rattle.std.proofs.Common.{◌≡◌, ◌∙◌, sym, ap, refl, take, List, ℕ, arith, length}
use Rattle.std.specs.List.{concat}
use Rattle.std.proofs.lemmas.Result.{err_from_is_err_and}
use Rattle.outside_dm.proofs.Transferring.{one_more_read, reads_end, reads_stop}
use Rattle.outside_dm.proofs.transfers.read_chunks.Goals as goal

pub returns-in-Ok-eq0 : goal.returns-in-Ok-eq0
returns-in-Ok-eq0 g c =
    let so_far = c.loop-taken.invariant.reads in (
      concat so_far.chunks,
      concat so_far.chunks,
      reads_end _ _ _ _ _ _ _ _ _ so_far c.loop-taken-test.true c.in-Ok-eq0.ensures.call
          (ap (λ (n : ℕ). take n c.read_once.new.buffer) c.in-Ok-eq0.field-0-test, omega (arith, so_far.counted, c.loop-taken-test.true), refl),
      so_far.appended,
      refl,
    )

pub loop-taken-preserved : goal.loop-taken-preserved
loop-taken-preserved g c =
    let chunk : List ℕ = take c.in-Ok.count c.read_once.new.buffer in
    let long : length chunk ≡ c.in-Ok.count = sym c.in-Ok.ensures.bound.1 in
    let more = one_more_read _ _ _ _ _ _ _ chunk c.in-Ok.count c.loop-taken.invariant.reads c.loop-taken-test.true long (omega (arith, c.in-Ok.count-test)) c.in-Ok.ensures.call in record {
      reads = rw c.in_ok-extend_from_slice-in-Ok.ensures.items more;
      bound = omega (arith, c.loop-taken-test.true, c.in-Ok.ensures.bound.0);
    }

pub returns-in_err-extend_from_slice-in-Ok : goal.returns-in_err-extend_from_slice-in-Ok
returns-in_err-extend_from_slice-in-Ok g c =
    let chunk : List ℕ = take c.in-Ok.count c.read_once.new.buffer in
    let long : length chunk ≡ c.in-Ok.count = sym c.in-Ok.ensures.bound.1 in
    let more = one_more_read _ _ _ _ _ _ _ chunk c.in-Ok.count c.loop-taken.invariant.reads c.loop-taken-test.true long (omega (arith, c.in-Ok.count-test)) c.in-Ok.ensures.call in
    let refused = err_from_is_err_and c.from_residual.result c.from_residual.ensures.1 in
    rw (refused.1, refused.2) (
      concat more.chunks,
      concat c.loop-taken.invariant.reads.chunks,
      reads_stop _ _ _ _ _ _ _ more tt,
      c.in_err-extend_from_slice-in-Ok.ensures.items ∙ c.loop-taken.invariant.reads.appended,
      tt,
    )

pub returns-in-Err : goal.returns-in-Err
returns-in-Err g c =
    let so_far = c.loop-taken.invariant.reads in (
      concat so_far.chunks,
      concat so_far.chunks,
      reads_end _ _ _ _ _ _ _ _ _ so_far c.loop-taken-test.true c.in-Err.ensures.call c.read_refusal.ensures,
      so_far.appended,
      tt,
    )

pub returns : goal.returns
returns g c =
    let so_far = c.loop-taken.invariant.reads in (
      concat so_far.chunks,
      concat so_far.chunks,
      reads_stop _ _ _ _ _ _ _ so_far (omega (arith, so_far.counted, c.loop-taken-test.false)),
      so_far.appended,
      tt,
    )
