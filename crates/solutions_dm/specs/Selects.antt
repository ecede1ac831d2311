-- Columns under other names.
use Rattle.std.specs.Prelude.{◌≡◌, ◌||◌, ℕ, List, [], ◌∷◌, Bool, false, bytes_eq, if◌then◌else◌}
use Rattle.solutions_dm.specs.declared.columns.Column.{Column}
use Rattle.solutions_dm.specs.declared.selects.Rename.{Rename}
use Rattle.solutions_dm.specs.Table.{Table, numbers_in}

-- the mapping under the new names
abbrev pub selected : List Rename → (List ℕ → ℕ) → List ℕ → ℕ
selected [] m x = 0
selected (r ∷ rs) m x = if bytes_eq r.to x then m r.from else selected rs m x

abbrev pub is_target : List Rename → List ℕ → Bool
is_target [] x = false
is_target (r ∷ rs) x = bytes_eq r.to x || is_target rs x

-- no target twice
abbrev pub AreTargetsApart : List Rename → Type 0
AreTargetsApart [] = Unit {0}
AreTargetsApart (r ∷ rs) = (is_target rs r.to ≡ false) × AreTargetsApart rs

abbrev pub selected_column : Table → Rename → Column
selected_column t r = record { name = r.to; numbers = numbers_in t r.from }
