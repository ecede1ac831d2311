use Rattle.schema_dm.proofs.SortedLists.{forms_more}
use Rattle.schema_dm.proofs.indexed.sorted_lists.Goals as goal

pub loop-names-preserved : goal.loop-names-preserved
loop-names-preserved c =
    forms_more c.args.lists.now c.loop-names.sorted.items c.push.new.self.items c.loop-names.names-index c.names-item.result c.in_ok-sorted-2.field-0 c.loop-names-test.true c.names-item.is
    c.loop-names.invariant c.in_ok-sorted-2.ensures c.in_ok-push.ensures.items
