use Rattle.clean_dm.proofs.ReferenceLemmas.{puts_on}
use Rattle.clean_dm.proofs.references.push_references.Goals as goal

pub loop-key-preserved : goal.loop-key-preserved
loop-key-preserved c =
    puts_on c.args.database.now c.args.table c.loop-key.key-index c.args.references.now c.loop-key.references c.push.new.self c.as_slice-key-items.result.now c.key-item.result c.in_ok-reference_of.field-0 c.requires c.loop-key-test.true c.key-item.is c.loop-key.invariant c.in_ok-reference_of.ensures c.in_ok-push.ensures.ok
