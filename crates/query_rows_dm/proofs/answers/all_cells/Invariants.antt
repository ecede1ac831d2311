use Rattle.std.proofs.Common.{◌≡◌, map}
use Rattle.members_dm.specs.InOrder.{positions_below}
use Rattle.solutions_dm.specs.Columns.{number_at}
use Rattle.query_rows_dm.specs.Numbers.{cell_of}
use Rattle.query_rows_dm.proofs.answers.all_cells.Given as goal

abbrev pub invariant-loop-row : goal.invariant-loop-row
invariant-loop-row l = l.made ≡ map (λ i. map (λ x. cell_of l.dictionary (number_at l.rows.columns i x)) l.vars) (positions_below l.row)
