use Rattle.ddl_dm.proofs.Growth.{primary_added}
use Rattle.ddl_dm.proofs.drafts.add_primary.Goals as goal

pub returns : goal.returns
returns c = primary_added c.args.draft.now c.args.names c.push.new.self c.in_ok-push.ensures.ok
