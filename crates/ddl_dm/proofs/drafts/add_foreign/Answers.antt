use Rattle.ddl_dm.proofs.Growth.{foreign_added}
use Rattle.ddl_dm.proofs.drafts.add_foreign.Goals as goal

pub returns : goal.returns
returns c = foreign_added c.args.draft.now c.args.columns c.args.target.now c.in_ok-foreign_draft.field-0 c.push.new.self c.in_ok-foreign_draft.ensures c.in_ok-push.ensures.ok
