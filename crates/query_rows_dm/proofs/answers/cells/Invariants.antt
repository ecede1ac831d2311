use Rattle.std.proofs.Common.{◌≡◌, map, take}
use Rattle.solutions_dm.specs.Columns.{number_at}
use Rattle.query_rows_dm.specs.Numbers.{cell_of}
use Rattle.query_rows_dm.proofs.answers.cells.Given as goal

abbrev pub invariant-loop-var : goal.invariant-loop-var
invariant-loop-var l = l.cells ≡ map (λ x. cell_of l.dictionary (number_at l.rows.columns l.row x)) (take l.var-index l.vars)
