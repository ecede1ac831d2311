use Rattle.names_dm.proofs.Cuts.{after_result}
use Rattle.names_dm.proofs.readers.after.Goals as goal

pub returns : goal.returns
returns c = after_result c.args.front.now c.args.text.now c.strip_prefix.result c.utf8.front c.utf8.text c.strip_prefix.ensures.cases
