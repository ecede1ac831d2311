use Rattle.cmd_dm.proofs.StepLaws.{inverse_told}
use Rattle.cmd_dm.proofs.invert.tables_of.Goals as goal

pub returns-in-Err-clause-err : goal.returns-in-Err-clause-err
returns-in-Err-clause-err c = inverse_told c.args.base.now c.args.triples.now c.in-Err.error c.inverse_status.result c.inverse_status.ensures c.in-Err.ensures.err
