use Rattle.pattern_parts_dm.proofs.TextLemmas.{not_empty}
use Rattle.pattern_parts_dm.proofs.differences.and_same_cells.Goals as goal

pub is_same_cell-requires : goal.is_same_cell-requires
is_same_cell-requires c = not_empty c.args.names.now c.loop-name.name-index c.name-item.result c.loop-name-test.true c.name-item.is c.requires
