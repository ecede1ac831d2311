use Rattle.graphs_dm.proofs.Contradictions.{interpreted_where_kept}
use Rattle.graphs_dm.proofs.interpreted.interpreted_where_kept.Goals as goal

pub returns : goal.returns
returns c = interpreted_where_kept c.args.base.now c.as_str-text.ensures.grammar c.naming_laws.ensures c.args.database.now c.schema-schema.ensures.fits
