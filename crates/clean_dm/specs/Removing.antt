-- Lists of removals. Tables and rows are counted from 0 in the definitions and from 1 in a removal.
use Rattle.std.specs.Prelude.{◌≡◌, ℕ, ◌+◌, List, ◌∷◌, ◌++◌}
use Rattle.members_dm.specs.Elements.{HasSome}
use Rattle.members_dm.specs.Places.{Place, IsEarlier}
use Rattle.table_csv.specs.Databases.{Data}
use Rattle.keys_dm.specs.Violations.{place_of}
use Rattle.keys_dm.specs.declared.violation.ViolationKind.{ViolationKind}
use Rattle.keys_dm.specs.declared.violation.ViolationKind.TheVariants.{NullKey, RepeatedKey, RepeatedUnique, Dangling}
use Rattle.clean_dm.specs.Parts.{BreaksIn, IsRow}
use Rattle.clean_dm.specs.declared.removal.Removal.{Removal}

-- the removal is of the row i of the table t
abbrev pub IsOf : ℕ → ℕ → Removal → Type 0
IsOf t i removal = (removal.table ≡ t + 1) × (removal.row ≡ i + 1)

-- the row is left
abbrev pub IsLeft : List Removal → ℕ → ℕ → Type 0
IsLeft removals t i = ¬ HasSome (IsOf t i) removals

-- primary and unique keys come first, then foreign keys
abbrev pub turn_of : ViolationKind → ℕ
turn_of NullKey = 0
turn_of RepeatedKey = 0
turn_of (RepeatedUnique number) = 0
turn_of (Dangling number) = 1

-- after those made so far a removal may be made: its row is left, and breaks the rule among the rows that are left. Its
-- place is that of its kind's turn, its table, its row, and its rule among those of a row
pub record IsDue (D : Data) (made : List Removal) (place : Place) (removal : Removal) : Type 0 where
  pub t : ℕ
  pub i : ℕ
  pub of_row : IsOf t i removal
  pub is_row : IsRow D t i
  pub left : IsLeft made t i
  pub breaks : BreaksIn (IsLeft made) D t i removal.kind
  pub stands : place ≡ turn_of removal.kind ∷ t ∷ i ∷ place_of removal.kind

-- none stands at an earlier place
pub record IsNext (D : Data) (made : List Removal) (removal : Removal) : Type 0 where
  pub place : Place
  pub due : IsDue D made place removal
  pub first : (other_place : Place) (other : Removal) → IsDue D made other_place other → ¬ IsEarlier other_place place

-- each removal is what may follow those before it
abbrev pub IsChain : (List Removal → Removal → Type 0) → List Removal → Type 0
IsChain MayFollow removals = (before after : List Removal) (removal : Removal) → removals ≡ before ++ removal ∷ after → MayFollow before removal

-- nothing is left to remove
abbrev pub IsDone : Data → List Removal → Type 0
IsDone D removals = (place : Place) (removal : Removal) → ¬ IsDue D removals place removal

-- each removal is due after those before it, and none is due at the end
pub record IsCertificate (D : Data) (removals : List Removal) : Type 0 where
  pub chain : IsChain (λ made removal. (place : Place) × IsDue D made place removal) removals
  pub done : IsDone D removals

-- the same, where of those that are due the first is made
pub record IsCleaning (D : Data) (removals : List Removal) : Type 0 where
  pub chain : IsChain (IsNext D) removals
  pub done : IsDone D removals
