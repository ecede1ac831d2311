use Rattle.std.proofs.Common.{refl}
use Rattle.schema_dm.proofs.RisingNames.{rises_on, rises_no_more, rises_to_end}
use Rattle.schema_dm.proofs.order.rises.Goals as goal

pub returns-then-not-is_before : goal.returns-then-not-is_before
returns-then-not-is_before g c = (
  (λ h. cc),
  (λ rise. absurd (rises_no_more g.T.KeyedBy.key_of c.args.items.now c.loop-i.i c.index-items-i.result c.index-items-i-in-loop-i.result c.loop-i.auto.i c.loop-i-test.true c.index-items-i.is c.index-items-i-in-loop-i.is
      c.key.result.now c.key-in-loop-i.result.now c.key.ensures c.key-in-loop-i.ensures (λ h. let e = c.if-not-is_before.ensures.1 h in cc) rise)),
)

pub loop-i-preserved : goal.loop-i-preserved
loop-i-preserved g c =
    rises_on g.T.KeyedBy.key_of c.args.items.now c.loop-i.i c.index-items-i.result c.index-items-i-in-loop-i.result c.loop-i.auto.i c.loop-i-test.true c.index-items-i.is c.index-items-i-in-loop-i.is
    c.key.result.now c.key-in-loop-i.result.now c.key.ensures c.key-in-loop-i.ensures (c.if-not-is_before.ensures.0 refl) c.loop-i.invariant

pub returns : goal.returns
returns g c = ((λ _. rises_to_end g.T.KeyedBy.key_of c.args.items.now c.loop-i.i c.loop-i-test.false c.loop-i.invariant), (λ _. refl))
