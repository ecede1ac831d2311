use Rattle.pattern_parts_dm.proofs.TextLemmas.{not_empty}
use Rattle.pattern_parts_dm.proofs.renames.same_names.Goals as goal

pub rename_to-requires-clause-from : goal.rename_to-requires-clause-from
rename_to-requires-clause-from c = not_empty c.args.names.now c.loop-name.name-index c.name-item.result c.loop-name-test.true c.name-item.is c.requires

pub rename_to-requires-clause-to : goal.rename_to-requires-clause-to
rename_to-requires-clause-to c = not_empty c.args.names.now c.loop-name.name-index c.name-item.result c.loop-name-test.true c.name-item.is c.requires
