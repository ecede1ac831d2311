use Rattle.names_dm.proofs.Cuts.{cut_result}
use Rattle.names_dm.proofs.readers.cut.Goals as goal

pub returns-clause-parts : goal.returns-clause-parts
returns-clause-parts c = cut_result c.args.mark c.args.text.now c.split_once.result c.requires c.utf8.text c.split_once.ensures.cases
