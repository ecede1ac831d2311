use Rattle.std.proofs.Common.{map}
use Rattle.graph_tables_dm.specs.TableReadings.{plain_of}
use Rattle.inverse_dm.proofs.OneAnswer.{limited_err, limited_ok}
use Rattle.inverse_dm.proofs.inversion.answer.Goals as goal

pub returns-clause-ok : goal.returns-clause-ok
returns-clause-ok c = limited_ok c.args.base.now c.naming_laws.ensures c.args.triples.now (map plain_of c.in_ok-made.made) c.limited.result c.in_ok-made.ensures c.limited.ensures

pub returns-clause-err : goal.returns-clause-err
returns-clause-err c = limited_err c.args.base.now c.naming_laws.ensures c.args.triples.now (map plain_of c.in_ok-made.made) c.limited.result c.in_ok-made.ensures c.limited.ensures
