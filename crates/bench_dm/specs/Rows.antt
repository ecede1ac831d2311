-- The rows of the benchmark's database, each by its number, counted from 1.
use Rattle.std.specs.Prelude.{ℕ, ◌+◌, ◌*◌, ◌/◌, ◌%◌, ◌==◌, List, [], ◌∷◌, ◌++◌, map, pos, codes, decimal, if◌then◌else◌}
use Rattle.std.specs.declared.option.Option.TheVariants.{None, Some}
use Rattle.members_dm.specs.InOrder.{positions_below}
use Rattle.value_dm.specs.declared.value.Value.TheVariants.{Integer, Text}
use Rattle.schema_dm.specs.Naming.{Name}
use Rattle.table_csv.specs.Cells.{Cell, Row}

abbrev pub integer : ℕ → Cell
integer number = Some (Integer (pos number))

-- a letter and a number in decimal digits
abbrev pub numbered : Name → ℕ → Cell
numbered letter number = Some (Text (letter ++ decimal number))

abbrev pub dept_row : ℕ → Row
dept_row j = integer j ∷ numbered (codes "d") j ∷ []

-- a person's name, department and boss, of so many departments
abbrev pub name_of : ℕ → Cell
name_of i = if i % 7 == 0 then None else numbered (codes "p") i

abbrev pub dept_of : ℕ → ℕ → Cell
dept_of departments i = if i % 5 == 0 then None else integer (1 + i % departments)

abbrev pub boss_of : ℕ → Cell
boss_of i = if i == 1 then None else integer (i / 2)

abbrev pub person_row : ℕ → ℕ → Row
person_row departments i = integer i ∷ name_of i ∷ dept_of departments i ∷ boss_of i ∷ []

abbrev pub member_row : ℕ → ℕ → Row
member_row departments i = integer i ∷ integer (1 + (3 * i) % departments) ∷ []

abbrev pub size_of : ℕ → Cell
size_of i = if i % 3 == 0 then None else integer (i % 3)

abbrev pub note_row : ℕ → Row
note_row i = numbered (codes "n") (i % 10) ∷ size_of i ∷ []

-- the rows of the numbers from 1 to the last one
abbrev pub rows_to : (ℕ → Row) → ℕ → List Row
rows_to row last = map (λ k. row (k + 1)) (positions_below last)
