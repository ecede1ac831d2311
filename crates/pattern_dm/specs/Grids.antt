-- Solutions as rows of terms under a header.
use Rattle.std.specs.Prelude.{ℕ, List, Option, map}
use Rattle.members_dm.specs.InOrder.{positions_below}
use Rattle.names_dm.specs.declared.term.Term.{Term}
use Rattle.solutions_dm.specs.Table.{Table}
use Rattle.pattern_dm.specs.Solved.{mapping_at}

-- the term of each variable of the header in each row, in order
abbrev pub grid_of : List Term → List (List ℕ) → Table → List (List (Option Term))
grid_of terms header s = map (λ i. map (mapping_at terms s i) header) (positions_below s.rows)
