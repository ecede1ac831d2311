-- The pairs of compatible rows.
use Rattle.std.specs.Prelude.{◌<◌, ℕ, List, map, filter, flat_map}
use Rattle.solutions_dm.specs.declared.columns.Column.{Column}
use Rattle.solutions_dm.specs.declared.row_pair.RowPair.{RowPair}
use Rattle.solutions_dm.specs.Columns.{Compatible, compatible}
use Rattle.solutions_dm.specs.Table.{Table}

-- the places are those of two rows that are compatible
abbrev pub IsPair : Table → Table → RowPair → Type 0
IsPair left right p = (p.left < left.rows) × (p.right < right.rows) × Compatible left.columns p.left right.columns p.right

-- the pairs of row i of left with the compatible ones of some rows of right
abbrev pub row_pairs : List Column → List Column → ℕ → List ℕ → List RowPair
row_pairs left right i rows = map (λ j. record { left = i; right = j }) (filter (λ j. compatible left i right j) rows)

abbrev pub joined : List Column → List Column → List ℕ → List ℕ → List RowPair
joined left right lefts rights = flat_map (λ i. row_pairs left right i rights) lefts
