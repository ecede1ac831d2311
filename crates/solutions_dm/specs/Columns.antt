-- Rows of numbers under variables, each row seen as a mapping from variables to numbers, where 0 is unbound.
use denote.Ref.{Bor}
use Rattle.std.specs.Prelude.{Option, Some, None, ◌≡◌, ◌≢◌, ◌<◌, ℕ, List, [], ◌∷◌, Bool, true, false, ◌||◌, ◌&&◌, ◌==◌, slice_index, length, map, bytes_eq, if◌then◌else◌}
use Rattle.solutions_dm.specs.declared.columns.Column.{Column}

-- the number of a variable in a row
abbrev pub number_at : List Column → ℕ → List ℕ → ℕ
number_at [] i x = 0
number_at (c ∷ cs) i x = if bytes_eq c.name x then slice_index c.numbers i else number_at cs i x

abbrev pub has_column : List Column → List ℕ → Bool
has_column [] x = false
has_column (c ∷ cs) x = bytes_eq c.name x || has_column cs x

-- no variable has two columns
abbrev pub AreApart : List Column → Type 0
AreApart [] = Unit {0}
AreApart (c ∷ cs) = (has_column cs c.name ≡ false) × AreApart cs

-- each column has a number in each row
abbrev pub HaveRows : List Column → ℕ → Type 0
HaveRows [] n = Unit {0}
HaveRows (c ∷ cs) n = (length c.numbers ≡ n) × HaveRows cs n

abbrev pub SameIfBound : ℕ → ℕ → Type 0
SameIfBound a b = a ≢ 0 → b ≢ 0 → a ≡ b

-- the two rows agree on each variable that both bind
abbrev pub Compatible : List Column → ℕ → List Column → ℕ → Type 0
Compatible left i right j = (x : List ℕ) → SameIfBound (number_at left i x) (number_at right j x)

-- the test that the code makes
abbrev pub same_if_bound : ℕ → ℕ → Bool
same_if_bound a b = (a == 0) || ((b == 0) || (a == b))

abbrev pub compatible : List Column → ℕ → List Column → ℕ → Bool
compatible [] i right j = true
compatible (c ∷ cs) i right j = same_if_bound (slice_index c.numbers i) (number_at right j c.name) && compatible cs i right j

-- the variable's numbers, or that it has no column
abbrev pub IsColumnOf : List Column → List ℕ → Option (Bor (List ℕ)) → Type 0
IsColumnOf cs x None = has_column cs x ≡ false
IsColumnOf cs x (Some numbers) = (has_column cs x ≡ true) × ((n : ℕ) → HaveRows cs n → (length numbers.now ≡ n) × ((i : ℕ) → number_at cs i x ≡ slice_index numbers.now i))

-- each row binds the variable
abbrev pub IsFilled : List Column → ℕ → List ℕ → Type 0
IsFilled cs n x = (i : ℕ) → i < n → number_at cs i x ≢ 0

-- the variables, in the order of the columns
abbrev pub names_of : List Column → List (List ℕ)
names_of cs = map (λ (c : Column). c.name) cs
