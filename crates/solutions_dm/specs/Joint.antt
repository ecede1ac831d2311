-- Columns made variable by variable, of the variables of two tables.
use Rattle.std.specs.Prelude.{ℕ, List, ◌++◌, not, map, filter}
use Rattle.solutions_dm.specs.declared.columns.Column.{Column}
use Rattle.solutions_dm.specs.Columns.{has_column, names_of}
use Rattle.solutions_dm.specs.Table.{Table, numbers_in}

-- the variables of left, and those of right that left hasn't
abbrev pub joint : List Column → List Column → List (List ℕ)
joint left right = names_of left ++ filter (λ x. not (has_column left x)) (names_of right)

-- a column for each variable
abbrev pub built : (List ℕ → List ℕ) → List (List ℕ) → List Column
built f names = map (λ x. record { name = x; numbers = f x }) names

-- a variable's numbers in the rows of both
abbrev pub stacked : Table → Table → List ℕ → List ℕ
stacked left right x = numbers_in left x ++ numbers_in right x
