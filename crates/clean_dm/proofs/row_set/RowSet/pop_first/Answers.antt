use Rattle.clean_dm.proofs.RowSetLemmas.{first_clause, none_clause, rest_clause, updated}
use Rattle.clean_dm.proofs.row_set.RowSet.pop_first.Goals as goal

pub returns-clause-none : goal.returns-clause-none
returns-clause-none c = none_clause c.args.self.now c.pop_first.result c.pop_first.ensures.variant

pub returns-clause-first : goal.returns-clause-first
returns-clause-first c = first_clause c.args.self.now c.pop_first.result c.pop_first.ensures.member c.pop_first.ensures.least

pub returns-clause-rest : goal.returns-clause-rest
returns-clause-rest c = rest_clause c.args.self.now (record { pairs = c.pop_first.new.self }) c.pop_first.result (updated c.args.self.now (record { pairs = c.pop_first.new.self }) c.pop_first.result c.pop_first.ensures.updates)
