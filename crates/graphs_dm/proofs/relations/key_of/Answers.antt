use Rattle.std.proofs.Common.{rules}
use Rattle.graphs_dm.proofs.Keys.{item_in}
use Rattle.graphs_dm.proofs.relations.key_of.Goals as goal

pub returns-clause-target : goal.returns-clause-target
returns-clause-target c = (c.table_of.ensures.lawful.foreign _ (item_in c.as_slice.result.now c.table_of.result.now.foreign c.args.number c.index-as_slice-number.result c.as_slice.ensures (search rules) c.index-as_slice-number.is)).target
