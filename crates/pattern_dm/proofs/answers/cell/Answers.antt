use Rattle.std.proofs.Common.{ap, sym}
use Rattle.solutions_dm.proofs.ColumnLemmas.{number_at_none}
use Rattle.store_dm.specs.Terms.{term_at}
use Rattle.pattern_dm.proofs.answers.cell.Goals as goal

pub returns-in-None : goal.returns-in-None
returns-in-None c = sym (ap (term_at c.args.graph.now.terms) (number_at_none c.args.solutions.now.columns c.args.row c.args.name.now c.in-None.ensures))
