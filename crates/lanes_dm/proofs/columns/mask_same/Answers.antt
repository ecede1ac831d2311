use Rattle.std.proofs.Common.{◌≡◌, ◌+◌, ◌==◌, ◌∙◌, ℕ, sym, ap, length, take, arith}
use lib.Lanes.{chunk, zip2}
use Rattle.std.proofs.lemmas.List.{length-set, take_more_set}
use Rattle.std.proofs.lemmas.Simd.{length-chunk, length-put_chunk, length-zip2, take_more_put_chunk}
use Rattle.lanes_dm.specs.Flags.{flag}
use Rattle.lanes_dm.proofs.Masks.{zip2-chunk, zip2_more}
use Rattle.lanes_dm.proofs.columns.mask_same.Goals as goal

pub wide-preserved : goal.wide-preserved
wide-preserved c =
    let a = c.args.a.now in
    let b = c.args.b.now in
    let at = c.wide.at in
    let f : ℕ → ℕ → ℕ = λ x y. flag (x == y) in
    let first = length-chunk at 16 a (omega arith) in
    let second = length-chunk at 16 b (omega arith) in
    let flags = zip2 f (chunk at 16 a) (chunk at 16 b) in
    let written : length flags ≡ 16 = length-zip2 f (chunk at 16 a) (chunk at 16 b) (first ∙ sym second) ∙ first in
    let same = ap length c.put_same.ensures ∙ length-put_chunk at c.wide.out flags ∙ c.wide.invariant.1 in
    let done = ap (take (at + 16)) c.put_same.ensures ∙ take_more_put_chunk at c.wide.out flags (at + 16) (omega arith) (omega arith) in
    (omega arith, same, done ∙ rw c.wide.invariant.2 (sym (zip2-chunk f a b at 16 (omega arith) (omega arith))))

pub rest-preserved : goal.rest-preserved
rest-preserved c =
    let a = c.args.a.now in
    let b = c.args.b.now in
    let at = c.rest.at in
    let value = c.same.ensures in
    let long = length-set c.rest.out at c.same.result ∙ c.rest.invariant.1 in
    let done = take_more_set c.rest.out at c.same.result (omega arith) in
    (omega arith, long, done ∙ rw (c.rest.invariant.2, value) (sym (zip2_more (λ x y. flag (x == y)) a b at (omega arith) (omega arith))))
