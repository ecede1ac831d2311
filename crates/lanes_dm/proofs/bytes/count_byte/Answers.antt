use Rattle.std.proofs.Common.{◌+◌, ◌-◌, ◌==◌, ℕ, Bool, take, drop, length, cond, sym, arith}
use Rattle.std.proofs.lemmas.List.{length-drop, length-take-le, take_all}
use Rattle.std.proofs.lemmas.List.Sums.{count_by-le-length, sum_by-take-drop}
use Rattle.lanes_dm.proofs.Searches.{count_by-chunk}
use Rattle.lanes_dm.proofs.bytes.count_byte.Goals as goal

pub overflow_add-total : goal.overflow_add-total
overflow_add-total c =
    let p : ℕ → Bool = λ x. x == c.args.b in
    let front = take (c.wide.at + 32) c.args.bytes.now in
    omega (arith, c.wide.invariant.1, c.hits-total.ensures, count_by-chunk p c.args.bytes.now c.wide.at 32, count_by-le-length p front, length-take-le (c.wide.at + 32) c.args.bytes.now (omega arith))

pub wide-preserved : goal.wide-preserved
wide-preserved c = (omega arith, rw (c.wide.invariant.1, c.hits-total.ensures) (sym (count_by-chunk (λ x. x == c.args.b) c.args.bytes.now c.wide.at 32)))

pub returns : goal.returns
returns c =
    let bytes = c.args.bytes.now in
    let at = c.wide.at in
    let tail = take_all (length bytes - at) (drop at bytes) (omega (arith, length-drop at bytes)) in
    rw (c.wide.invariant.1, c.count_plain.ensures, tail) (sum_by-take-drop (λ x. cond (x == c.args.b) 1 0) bytes at)
