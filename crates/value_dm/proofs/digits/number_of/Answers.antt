use Rattle.std.proofs.Common.{◌≡◌, length, ap, arith, List, ℕ}
use Rattle.std.proofs.lemmas.Int.Digits.{digits_value-lt}
use Rattle.value_dm.proofs.Fronts.{small_power, no_digit_behind, nothing_behind}
use Rattle.value_dm.proofs.digits.number_of.Goals as goal

pub returns-then-other-gt0 : goal.returns-then-other-gt0
returns-then-other-gt0 c =
    λ all. no_digit_behind _ _ _ c.split_digits.ensures.parts all c.split_digits.ensures.ends (omega arith)

pub overflow_cast-result : goal.overflow_cast-result
overflow_cast-result c =
    let e : c.args.digits.now ≡ c.split_digits.result.0.now = nothing_behind _ _ _ c.split_digits.ensures.parts (omega arith) in
    let low = digits_value-lt 10 c.split_digits.result.0.now c.split_digits.ensures.digits in
    let same = ap (λ (x : List ℕ). length x) e in
    let power = small_power (length c.split_digits.result.0.now) (omega arith) in
    omega (arith, c.in-Some.ensures.0)

pub returns-in-Some : goal.returns-in-Some
returns-in-Some c =
    let e : c.args.digits.now ≡ c.split_digits.result.0.now = nothing_behind _ _ _ c.split_digits.ensures.parts (omega arith) in
    let low = digits_value-lt 10 c.split_digits.result.0.now c.split_digits.ensures.digits in
    rw e (c.split_digits.ensures.digits, c.in-Some.ensures.0, omega (arith, c.in-Some.ensures.0))

pub returns-in-None : goal.returns-in-None
returns-in-None c =
    let e : c.args.digits.now ≡ c.split_digits.result.0.now = nothing_behind _ _ _ c.split_digits.ensures.parts (omega arith) in
    let low = digits_value-lt 10 c.split_digits.result.0.now c.split_digits.ensures.digits in
    let same = ap (λ (x : List ℕ). length x) e in
    let power = small_power (length c.split_digits.result.0.now) (omega arith) in
    λ all. omega (arith, c.in-None.ensures)
