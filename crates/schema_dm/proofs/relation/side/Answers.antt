use Rattle.schema_dm.proofs.Sides.{no_side_so_far, no_side_at_all}
use Rattle.schema_dm.proofs.relation.side.Goals as goal

pub loop-number-preserved : goal.loop-number-preserved
loop-number-preserved c =
    no_side_so_far c.args.tables.now c.args.keys.now c.args.place c.loop-number.number c.index-keys-number.result c.loop-number-test.true c.index-keys-number.is (λ h. let e = c.if-is_side.ensures.1 h in cc) c.loop-number.invariant

pub returns-clause-none : goal.returns-clause-none
returns-clause-none c = no_side_at_all c.args.tables.now c.args.keys.now c.args.place c.loop-number.number c.loop-number-test.false c.loop-number.invariant
