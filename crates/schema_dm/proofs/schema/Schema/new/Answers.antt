use Rattle.schema_dm.proofs.Refusals.{lawful_answer, refused_answer}
use Rattle.schema_dm.proofs.schema.Schema.new.Goals as goal

pub returns-clause-only : goal.returns-clause-only
returns-clause-only c = lawful_answer c.args.drafts c.of_drafts.result c.of_drafts.ensures.made c.of_drafts.ensures.refused

pub returns-clause-first : goal.returns-clause-first
returns-clause-first c = refused_answer c.args.drafts c.of_drafts.result c.of_drafts.ensures.lawful c.of_drafts.ensures.refused
