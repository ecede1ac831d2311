use Rattle.std.proofs.Common.{◌≡◌, ◌+◌, ◌==◌, ◌||◌, ◌∙◌, ℕ, not, sym, ap, length, take, drop, arith}
use lib.Lanes.{chunk, zip2}
use Rattle.std.proofs.lemmas.List.{drop-set-lt, length-set, take_more_set}
use Rattle.std.proofs.lemmas.Simd.{length-chunk, length-put_chunk, length-zip2, take_more_put_chunk}
use Rattle.lanes_dm.specs.Flags.{flag}
use Rattle.lanes_dm.proofs.Masks.{drop-put_chunk, drop_further, get_or_left, zip2-chunk, zip2_more}
use Rattle.lanes_dm.proofs.columns.and_into.Goals as goal

pub wide-preserved : goal.wide-preserved
wide-preserved c =
    let before = c.args.a.now in
    let a = c.wide.a in
    let b = c.args.b.now in
    let at = c.wide.at in
    let inv = c.wide.invariant in
    let f : ℕ → ℕ → ℕ = λ x y. flag (not (x == 0 || y == 0)) in
    let first = length-chunk at 32 a (omega (arith, inv.long)) in
    let second = length-chunk at 32 b (omega arith) in
    let flags = zip2 f (chunk at 32 a) (chunk at 32 b) in
    let written : length flags ≡ 32 = length-zip2 f (chunk at 32 a) (chunk at 32 b) (first ∙ sym second) ∙ first in
    let unread : chunk at 32 a ≡ chunk at 32 before = ap (take 32) inv.left in
    let so_far = ap (take (at + 32)) c.put_both.ensures ∙ take_more_put_chunk at a flags (at + 32) (omega arith) (omega (arith, inv.long)) in
    let rest = ap (drop (at + 32)) c.put_both.ensures ∙ drop-put_chunk at a flags (at + 32) (omega arith) in
    record {
      within = omega arith;
      long = ap length c.put_both.ensures ∙ length-put_chunk at a flags ∙ inv.long;
      done = so_far ∙ rw (inv.done, unread) (sym (zip2-chunk f before b at 32 (omega arith) (omega arith)));
      left = rest ∙ drop_further a before at 32 inv.left;
    }

pub rest-preserved : goal.rest-preserved
rest-preserved c =
    let before = c.args.a.now in
    let a = c.rest.a in
    let b = c.args.b.now in
    let at = c.rest.at in
    let inv = c.rest.invariant in
    let f : ℕ → ℕ → ℕ = λ x y. flag (not (x == 0 || y == 0)) in
    let value = c.both.ensures in
    let unread = get_or_left a before at inv.left in
    record {
      within = omega arith;
      long = length-set a at c.both.result ∙ inv.long;
      done = take_more_set a at c.both.result (omega (arith, inv.long)) ∙ rw (inv.done, value, unread) (sym (zip2_more f before b at (omega arith) (omega arith)));
      left = drop-set-lt (at + 1) a at c.both.result (omega arith) ∙ drop_further a before at 1 inv.left;
    }
