use Rattle.std.proofs.Common.{◌-◌, arith, get_or, refl}
use Rattle.std.proofs.lemmas.List.{get_or_default}
use Rattle.members_dm.proofs.OrderLemmas.{found_twice, none_more, none_twice, ties_from_eq}
use Rattle.schema_dm.proofs.index.some_stands_twice.Goals as goal

pub returns-then-are_same_at : goal.returns-then-are_same_at
returns-then-are_same_at g c =
    let ties = ties_from_eq g.K.PartialEq.eq g.K.Ord.cmp g.met.K.Ord.matches_eq g.met.K.ExactEq.decides in
    let n = c.loop-next.next in
    let p = get_or c.args.order.now (n - 1) 0 in
    let q = get_or c.args.order.now n 0 in (
      (λ _. found_twice g.met.K.Ord.total ties c.args.items.now c.args.order.now c.requires n p q (omega arith) (omega arith)
          (get_or_default c.args.order.now (n - 1) 0 p (omega arith)) (get_or_default c.args.order.now n 0 q (omega arith)) (c.are_same_at.ensures.0 c.if-are_same_at.true)),
      (λ _. refl),
    )

pub loop-next-preserved : goal.loop-next-preserved
loop-next-preserved g c =
    let ties = ties_from_eq g.K.PartialEq.eq g.K.Ord.cmp g.met.K.Ord.matches_eq g.met.K.ExactEq.decides in
    let n = c.loop-next.next in
    let p = get_or c.args.order.now (n - 1) 0 in
    let q = get_or c.args.order.now n 0 in
    none_more g.met.K.Ord.total ties c.args.items.now c.args.order.now c.requires n p q (omega arith) (omega arith)
    (get_or_default c.args.order.now (n - 1) 0 p (omega arith)) (get_or_default c.args.order.now n 0 q (omega arith))
    (λ same. (let yes = c.are_same_at.ensures.1 same in let no = c.if-are_same_at.false in cc)) c.loop-next.invariant

pub returns : goal.returns
returns g c =
    let ties = ties_from_eq g.K.PartialEq.eq g.K.Ord.cmp g.met.K.Ord.matches_eq g.met.K.ExactEq.decides in (
      (λ no. cc),
      (λ twice. absurd (none_twice g.met.K.Ord.total ties c.args.items.now c.args.order.now c.requires (λ k d l. c.loop-next.invariant k d (omega arith)) twice)),
    )
