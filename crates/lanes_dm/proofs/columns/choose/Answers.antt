use Rattle.std.proofs.Common.{◌≡◌, ◌+◌, ◌==◌, ◌∙◌, ℕ, cond, sym, ap, length, map, take, arith}
use lib.Lanes.{chunk}
use Rattle.std.proofs.lemmas.List.{length-map}
use Rattle.std.proofs.lemmas.Simd.{length-chunk, length-put_chunk, take_more_put_chunk}
use Rattle.lanes_dm.proofs.Masks.{map-chunk}
use Rattle.lanes_dm.proofs.columns.choose.Goals as goal

pub wide-preserved : goal.wide-preserved
wide-preserved c =
    let column = c.args.column.now in
    let at = c.wide.at in
    let part = chunk at 16 column in
    let f : ℕ → ℕ = λ x. cond (x == c.args.id) c.args.equal c.args.other in
    let written : length (map f part) ≡ 16 = length-map part f ∙ length-chunk at 16 column (omega arith) in
    let same = ap length c.put_choice.ensures ∙ length-put_chunk at c.wide.out (map f part) ∙ c.wide.invariant.1 in
    let done = ap (take (at + 16)) c.put_choice.ensures ∙ take_more_put_chunk at c.wide.out (map f part) (at + 16) (omega arith) (omega arith) in
    (omega arith, same, done ∙ rw c.wide.invariant.2 (sym (map-chunk f column at 16)))
