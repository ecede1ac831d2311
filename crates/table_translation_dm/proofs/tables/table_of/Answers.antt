use Rattle.std.proofs.Common.{◌∙◌, List, ap}
use Rattle.schema_dm.specs.Schemas.{table_at}
use Rattle.schema_dm.specs.declared.table.Table.{Table}
use Rattle.table_translation_dm.proofs.tables.table_of.Goals as goal

pub returns : goal.returns
returns c = c.table_at.ensures ∙ ap (λ (ts : List Table). table_at ts c.args.place) c.tables.ensures.value
