use Rattle.algebra_dm.proofs.ColumnLemmas.{place_tells}
use Rattle.algebra_dm.proofs.name_lists.holds.Goals as goal

pub returns : goal.returns
returns c = place_tells c.args.index.now c.args.name.now c.place.result c.is_some.result c.place.ensures c.is_some.ensures
