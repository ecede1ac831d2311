use Rattle.std.proofs.Common.{◌≢◌}
use Rattle.query_rows_dm.proofs.StepLemmas.{kept_by}
use Rattle.query_rows_dm.proofs.operators.unequal.Goals as goal

pub returns : goal.returns
returns c = kept_by (λ x m. m x ≢ c.args.id) c.args.part c.in_ok-without_number.field-0 c.in_ok-var.var _ c.in_ok-var.ensures.text c.in_ok-without_number.ensures
