use Rattle.std.proofs.Common.{List, ℕ, Contains, refl, sym, subst, arith}
use Rattle.lanes_dm.proofs.Searches.{Contains-from_chunk, Contains-from_drop, no_zero_in_chunk, tail_whole, zero_after}
use Rattle.lanes_dm.proofs.columns.has_zero.Goals as goal

pub returns-then-some_zero : goal.returns-then-some_zero
returns-then-some_zero c = (λ _. Contains-from_chunk c.args.column.now c.wide.at 16 0 (omega arith) (c.some_zero.ensures.0 c.if-some_zero.true), λ _. refl)

pub wide-preserved : goal.wide-preserved
wide-preserved c = (omega arith, no_zero_in_chunk c.args.column.now c.wide.at 16 (omega arith) (λ zero. cc (c.some_zero.ensures.1 zero)) c.wide.invariant.1)

pub returns : goal.returns
returns c =
    let column = c.args.column.now in
    let at = c.wide.at in
    let tail = tail_whole column at in
    (λ found. Contains-from_drop column at 0 (subst (λ (t : List ℕ). Contains t 0) tail (c.zero_plain.ensures.0 found)), λ zero. c.zero_plain.ensures.1 (subst (λ (t : List ℕ). Contains t 0) (sym tail) (zero_after column at c.wide.invariant.1 zero)))
