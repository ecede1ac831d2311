use Rattle.query_rows_dm.proofs.EvaluationLemmas.{place_read, place_there}
use Rattle.translate_dm.proofs.translation.place_of.Goals as goal

pub unwrap-requires : goal.unwrap-requires
unwrap-requires c = place_there c.args.names.now c.args.name.now c.place.result c.requires c.place.ensures

pub returns : goal.returns
returns c = place_read c.args.names.now c.args.name.now c.place.result c.unwrap.result c.unwrap.ensures c.place.ensures
