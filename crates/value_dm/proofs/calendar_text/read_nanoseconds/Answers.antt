use Rattle.std.proofs.Common.{◌<◌, ◌*◌, ◌^◌, length, arith}
use Rattle.value_dm.proofs.Times.{no_fraction_spelled, behind_some_point, shifted_bound, shifted_fraction}
use Rattle.value_dm.proofs.calendar_text.read_nanoseconds.Goals as goal

pub returns-in_default : goal.returns-in_default
returns-in_default c = λ n. no_fraction_spelled _ n (omega arith) c.in_default.ensures

pub overflow_mul-result : goal.overflow_mul-result
overflow_mul-result c =
    let bound = shifted_bound c.in-Some-number_of.number (length c.in-Some.digits.now) c.in-Some-number_of.ensures.2 (omega arith) in
    let fits : c.in-Some-number_of.number * c.pow.result < 2 ^ 32 = rw c.pow.ensures (omega (arith, bound)) in
    omega (arith, fits)

pub returns-in-Some-number_of : goal.returns-in-Some-number_of
returns-in-Some-number_of c =
    let h = c.in-Some.ensures in
    let text = behind_some_point _ h.0 c.in-Some.digits.now h.1 (omega arith) h.3 in
    rw (c.pow.ensures, c.in-Some-number_of.ensures.1)
    (shifted_fraction _ c.in-Some.digits.now text h.2 (omega arith) (omega arith))
