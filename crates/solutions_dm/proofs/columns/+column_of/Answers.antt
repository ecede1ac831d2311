use Rattle.solutions_dm.proofs.ColumnLemmas.{IsColumnOf-rest}
use Rattle.std.proofs.lemmas.Bool.{iff_false}
use Rattle.solutions_dm.proofs.columns.+column_of.Goals as goal

pub returns-else-same : goal.returns-else-same
returns-else-same t c = IsColumnOf-rest c.first-item.result _ c.args.name.now c.column_of.result c.in-len1-up.len_at_least c.first-item.is (iff_false c.same.ensures c.if-same.false) c.column_of.ensures
