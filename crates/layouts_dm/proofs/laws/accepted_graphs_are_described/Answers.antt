use Rattle.layouts_dm.proofs.Sound.{describes, well_formed}
use Rattle.layouts_dm.proofs.laws.accepted_graphs_are_described.Goals as goal

pub returns-clause-well_formed : goal.returns-clause-well_formed
returns-clause-well_formed c = λ G L a r. well_formed c.args.base.now c.naming_laws.ensures L G a r

pub returns-clause-describes : goal.returns-clause-describes
returns-clause-describes c = λ G L a r. describes c.args.base.now c.naming_laws.ensures L G a r
