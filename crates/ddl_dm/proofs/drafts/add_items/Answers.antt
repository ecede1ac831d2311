use Rattle.ddl_dm.specs.Meaning.{item_columns, item_keys}
use Rattle.ddl_dm.proofs.Growth.{extended_by_nothing, both_more}
use Rattle.ddl_dm.proofs.drafts.add_items.Goals as goal

pub loop-item-init : goal.loop-item-init
loop-item-init c = extended_by_nothing c.args.draft.now

pub loop-item-preserved : goal.loop-item-preserved
loop-item-preserved c =
    both_more item_columns item_keys c.args.draft.now c.loop-item.draft c.add_item.new.draft c.args.items.now c.loop-item.item-index c.item-item.result
    c.loop-item-test.true c.item-item.is c.loop-item.invariant c.in_ok-add_item.ensures
