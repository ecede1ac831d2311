use Rattle.algebra_dm.proofs.NeverNull.{certain_never_null}
use Rattle.algebra_dm.proofs.recall.certain.Goals as goal

pub returns-clause-never_null : goal.returns-clause-never_null
returns-clause-never_null c = certain_never_null c.args.mode c.args.schema.now c.args.query.now c.in_ok-recalled.field-0.certain c.in_ok-recalled.ensures.certain
