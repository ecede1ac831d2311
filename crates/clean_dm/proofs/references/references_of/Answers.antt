use Rattle.clean_dm.proofs.ReferenceLemmas.{references_on}
use Rattle.clean_dm.proofs.references.references_of.Goals as goal

pub loop-table-preserved : goal.loop-table-preserved
loop-table-preserved c = references_on c.args.database.now c.loop-table.table c.loop-table.references c.push_references.new.references c.loop-table.invariant c.in_ok-push_references.ensures
