use Rattle.ddl_dm.proofs.Growth.{unique_added}
use Rattle.ddl_dm.proofs.drafts.add_unique.Goals as goal

pub returns : goal.returns
returns c = unique_added c.args.draft.now c.args.names c.push.new.self c.in_ok-push.ensures.ok
