use Rattle.layouts_dm.proofs.Complete.{accepted}
use Rattle.layouts_dm.proofs.laws.described_graphs_are_accepted.Goals as goal

pub returns : goal.returns
returns c = λ L G w d. accepted c.args.base.now c.naming_laws.ensures L G w d
