use Rattle.pattern_parts_dm.proofs.TextLemmas.{not_empty, old_named}
use Rattle.pattern_parts_dm.proofs.renames.new_names.Goals as goal

pub rename_to-requires-clause-from : goal.rename_to-requires-clause-from
rename_to-requires-clause-from c = old_named c.args.from.now c.args.to.now c.name-item.result c.old_name.result.now c.old_name.ensures c.requires.from (not_empty c.args.names.now c.loop-name.name-index c.name-item.result c.loop-name-test.true c.name-item.is c.requires.named)

pub rename_to-requires-clause-to : goal.rename_to-requires-clause-to
rename_to-requires-clause-to c = not_empty c.args.names.now c.loop-name.name-index c.name-item.result c.loop-name-test.true c.name-item.is c.requires.named
