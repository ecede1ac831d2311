use Rattle.table_translation_dm.proofs.NamedLemmas.{not_empty}
use Rattle.table_translation_dm.proofs.triples.with_columns.Goals as goal

pub with_column-requires : goal.with_column-requires
with_column-requires c = not_empty c.args.columns.now c.loop-column.column-index c.column-item.result c.loop-column-test.true c.column-item.is c.requires
