-- Rows that a difference keeps (SPARQL 1.1 Query Language, section 18.5, Minus).
use Rattle.std.specs.Prelude.{◌≡◌, ◌<◌, ◌⊎◌, ◌==◌, ◌&&◌, ◌||◌, ℕ, List, [], ◌∷◌, Bool, false, not, filter, slice_index}
use Rattle.std.specs.List.{list_any}
use Rattle.solutions_dm.specs.declared.columns.Column.{Column}
use Rattle.solutions_dm.specs.Columns.{number_at, SameIfBound, compatible}
use Rattle.solutions_dm.specs.Table.{Table}

-- each row of right disagrees with the mapping on a variable, or binds none that it binds
abbrev pub IsLeft : Table → (List ℕ → ℕ) → Type 0
IsLeft right m = (j : ℕ) → j < right.rows → ((x : List ℕ) → SameIfBound (m x) (number_at right.columns j x)) → (x : List ℕ) → (m x ≡ 0) ⊎ (number_at right.columns j x ≡ 0)

abbrev pub both_bound : ℕ → ℕ → Bool
both_bound a b = not (a == 0) && not (b == 0)

-- a variable is bound in both rows
abbrev pub shares : List Column → ℕ → List Column → ℕ → Bool
shares [] i right j = false
shares (c ∷ cs) i right j = both_bound (slice_index c.numbers i) (number_at right j c.name) || shares cs i right j

abbrev pub blocks : List Column → ℕ → List Column → ℕ → Bool
blocks left i right j = compatible left i right j && shares left i right j

abbrev pub unblocked : List Column → List Column → List ℕ → List ℕ → List ℕ
unblocked left right lefts rights = filter (λ i. not (list_any (λ j. blocks left i right j) rights)) lefts
