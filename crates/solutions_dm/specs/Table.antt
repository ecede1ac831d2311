-- Solutions, as their columns and how many rows there are.
use denote.Ref.{Bor}
use Rattle.std.specs.Prelude.{◌≡◌, ◌<◌, ℕ, List, Option, None, Some, true, false, length, map, slice_index}
use Rattle.members_dm.specs.InOrder.{positions_below}
use Rattle.solutions_dm.specs.declared.columns.Column.{Column}
use Rattle.solutions_dm.specs.Columns.{number_at, has_column, AreApart, HaveRows}

pub record Table : Type 0 where
  pub columns : List Column
  pub rows : ℕ

pub record IsTable (t : Table) : Type 0 where
  pub filled : HaveRows t.columns t.rows
  pub apart : AreApart t.columns

-- one of the rows is this mapping
abbrev pub HasRow : Table → (List ℕ → ℕ) → Type 0
HasRow t m = (i : ℕ) × (i < t.rows) × ((x : List ℕ) → m x ≡ number_at t.columns i x)

-- the variable's number in each row, or that it has no column
abbrev pub IsColumn : Table → List ℕ → Option (Bor (List ℕ)) → Type 0
IsColumn t x None = has_column t.columns x ≡ false
IsColumn t x (Some numbers) = (has_column t.columns x ≡ true) × (length numbers.now ≡ t.rows) × ((i : ℕ) → number_at t.columns i x ≡ slice_index numbers.now i)

-- a variable's number in each row
abbrev pub numbers_in : Table → List ℕ → List ℕ
numbers_in t x = map (λ i. number_at t.columns i x) (positions_below t.rows)
