use Rattle.algebra_dm.proofs.NodeLemmas.{no_table_node, table_node}
use Rattle.algebra_dm.proofs.operators.table.Goals as goal

pub returns-in-None : goal.returns-in-None
returns-in-None c = no_table_node c.args.mode c.args.tables.now c.args.name.now c.in-None.ensures.none

pub returns-in-Some : goal.returns-in-Some
returns-in-Some c = table_node c.args.mode c.args.tables.now c.args.name.now c.in-Some.table.now c.columns_of.result c.requires.once c.in-Some.ensures.found c.columns_of.ensures
