use Rattle.table_translation_dm.proofs.NamedLemmas.{not_empty}
use Rattle.table_translation_dm.proofs.triples.with_optional.Goals as goal

pub with_choice-requires : goal.with_choice-requires
with_choice-requires c = not_empty c.args.columns.now c.loop-column.column-index c.column-item.result c.loop-column-test.true c.column-item.is c.requires
