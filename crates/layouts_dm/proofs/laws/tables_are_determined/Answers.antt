use Rattle.layouts_dm.proofs.Values.{stands_for_one}
use Rattle.layouts_dm.proofs.laws.tables_are_determined.Goals as goal

pub returns : goal.returns
returns c = stands_for_one c.args.base.now c.naming_laws.ensures
