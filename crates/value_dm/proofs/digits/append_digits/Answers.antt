use Rattle.std.proofs.Common.{◌<◌, ◌+◌, length, arith}
use Rattle.value_dm.proofs.Numerals.{digits_value_after-more, digits_value_after-take-le, digit_at_value}
use Rattle.value_dm.proofs.digits.append_digits.Goals as goal

pub overflow_sub-appended : goal.overflow_sub-appended
overflow_sub-appended c =
    let inside : c.loop-byte.byte-index < length c.args.digits.now = omega arith in
    let digit = digit_at_value c.args.digits.now c.loop-byte.byte-index c.requires.all inside in
    omega arith

pub overflow_add-appended : goal.overflow_add-appended
overflow_add-appended c =
    let inside : c.loop-byte.byte-index < length c.args.digits.now = omega arith in
    let digit = digit_at_value c.args.digits.now c.loop-byte.byte-index c.requires.all inside in
    omega arith

pub returns-then-appended : goal.returns-then-appended
returns-then-appended c =
    let inside : c.loop-byte.byte-index < length c.args.digits.now = omega arith in
    let step = digits_value_after-more c.args.number c.args.digits.now c.loop-byte.byte-index inside in
    let most = digits_value_after-take-le c.args.number c.args.digits.now (c.loop-byte.byte-index + 1) in
    omega (arith, c.loop-byte.invariant.value)

pub loop-byte-preserved : goal.loop-byte-preserved
loop-byte-preserved c =
    let inside : c.loop-byte.byte-index < length c.args.digits.now = omega arith in
    let digit = digit_at_value c.args.digits.now c.loop-byte.byte-index c.requires.all inside in
    let step = digits_value_after-more c.args.number c.args.digits.now c.loop-byte.byte-index inside in
    record { value = omega (arith, c.loop-byte.invariant.value); fits = omega arith }
