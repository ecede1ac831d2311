use Rattle.clean_dm.proofs.RowSetLemmas.{gains}
use Rattle.clean_dm.proofs.row_set.RowSet.insert.Goals as goal

pub returns : goal.returns
returns c = gains c.args.self.now (record { pairs = c.insert.new.self }) c.args.table c.args.row (λ q. c.in_ok-insert.ensures.updates.0 q)
