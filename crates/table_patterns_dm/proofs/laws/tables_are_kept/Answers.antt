use Rattle.table_patterns_dm.proofs.TableLaw.{table_law}
use Rattle.table_patterns_dm.proofs.laws.tables_are_kept.Goals as goal

pub returns : goal.returns
returns c = λ mode D t p database kept below is. table_law c.args.base.now D database c.naming_laws.ensures mode kept t p below is
