use Rattle.pattern_parts_dm.proofs.TextLemmas.{not_empty}
use Rattle.pattern_parts_dm.proofs.renames.right_names.Goals as goal

pub rename_to_right-requires : goal.rename_to_right-requires
rename_to_right-requires c = not_empty c.args.names.now c.loop-name.name-index c.name-item.result c.loop-name-test.true c.name-item.is c.requires
