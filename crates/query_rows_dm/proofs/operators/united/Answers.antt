use Rattle.query_rows_dm.proofs.StepLemmas.{united_by}
use Rattle.query_rows_dm.proofs.operators.united.Goals as goal

pub returns : goal.returns
returns c = united_by c.args.left c.args.right.now c.in_ok-all.all c.in_ok-distinct.field-0 c.in_ok-all.ensures c.in_ok-distinct.ensures
