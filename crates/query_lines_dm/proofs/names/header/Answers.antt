use Rattle.query_rows_dm.proofs.VariableLemmas.{not_empty}
use Rattle.query_lines_dm.proofs.names.header.Goals as goal

pub variable_of-requires : goal.variable_of-requires
variable_of-requires c = not_empty c.args.names.now c.loop-name.name-index c.name-item.result c.loop-name-test.true c.name-item.is c.requires
