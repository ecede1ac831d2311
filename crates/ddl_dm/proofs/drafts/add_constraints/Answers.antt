use Rattle.ddl_dm.specs.Meaning.{constraint_keys}
use Rattle.ddl_dm.proofs.Growth.{extended_by_nothing, keys_more}
use Rattle.ddl_dm.proofs.drafts.add_constraints.Goals as goal

pub loop-constraint-init : goal.loop-constraint-init
loop-constraint-init c = extended_by_nothing c.args.draft.now

pub loop-constraint-preserved : goal.loop-constraint-preserved
loop-constraint-preserved c =
    keys_more (constraint_keys c.args.name.now) c.args.draft.now c.loop-constraint.draft c.add_constraint.new.draft c.args.constraints.now c.loop-constraint.constraint-index c.constraint-item.result
    c.loop-constraint-test.true c.constraint-item.is c.loop-constraint.invariant c.in_ok-add_constraint.ensures
