use Rattle.std.proofs.Common.{ap, sym}
use Rattle.solutions_dm.proofs.ColumnLemmas.{number_at_none}
use Rattle.query_rows_dm.specs.Numbers.{cell_of}
use Rattle.query_rows_dm.proofs.answers.cell.Goals as goal

pub returns-in-None : goal.returns-in-None
returns-in-None c = sym (ap (cell_of c.args.dictionary.now) (number_at_none c.args.rows.now.columns c.args.row c.args.var.now c.in-None.ensures))
