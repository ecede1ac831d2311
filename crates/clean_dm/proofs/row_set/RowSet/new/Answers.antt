use Rattle.clean_dm.proofs.RowSetLemmas.{none_there}
use Rattle.clean_dm.proofs.row_set.RowSet.new.Goals as goal

pub returns : goal.returns
returns c = none_there (record { pairs = c.new.result }) c.new.ensures.empty
