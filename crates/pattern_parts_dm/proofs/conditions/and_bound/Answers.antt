use Rattle.pattern_parts_dm.proofs.TextLemmas.{not_empty}
use Rattle.pattern_parts_dm.proofs.conditions.and_bound.Goals as goal

pub bound-requires : goal.bound-requires
bound-requires c = not_empty c.args.names.now c.loop-name.name-index c.name-item.result c.loop-name-test.true c.name-item.is c.requires
