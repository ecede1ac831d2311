use Rattle.std.proofs.Common.{refl}
use Rattle.query_rows_dm.proofs.EvaluationLemmas.{table_read}
use Rattle.table_translation_dm.proofs.relations.table_at.Goals as goal

pub returns : goal.returns
returns c = table_read c.args.tables.now c.args.tables.now c.args.place c.index-tables-place.result refl c.requires c.index-tables-place.is
