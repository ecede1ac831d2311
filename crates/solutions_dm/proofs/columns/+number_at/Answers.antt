use Rattle.std.proofs.Common.{◌∙◌}
use Rattle.solutions_dm.proofs.ColumnLemmas.{number_at_rest}
use Rattle.std.proofs.lemmas.Bool.{iff_false}
use Rattle.solutions_dm.proofs.columns.+number_at.Goals as goal

pub returns-else-same : goal.returns-else-same
returns-else-same t c = c.number_at.ensures ∙ number_at_rest c.first-item.result _ c.args.row c.args.name.now c.in-len1-up.len_at_least c.first-item.is (iff_false c.same.ensures c.if-same.false)
