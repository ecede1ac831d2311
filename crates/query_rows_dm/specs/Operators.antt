-- The operators on rows of numbers, in which NULL has a number as every value has.
use Rattle.std.specs.Prelude.{◌≡◌, ◌≢◌, ◌<◌, ◌↔◌, ◌⊎◌, ℕ, List, [], ◌∷◌, length, map, slice_index, bytes_eq, if◌then◌else◌}
use Rattle.members_dm.specs.Membership.{IsIn, NoRepeats}
use Rattle.schema_dm.specs.Naming.{Name}
use Rattle.names_dm.specs.Variables.{variable_of}
use Rattle.solutions_dm.specs.Columns.{SameIfBound}
use Rattle.solutions_dm.specs.Differences.{IsLeft}
use Rattle.solutions_dm.specs.Merge.{first_bound}
use Rattle.solutions_dm.specs.Selects.{selected}
use Rattle.solutions_dm.specs.Table.{HasRow}
use Rattle.solutions_dm.specs.declared.selects.Rename.{Rename}
use Rattle.query_rows_dm.specs.Relations.{Numbers, OwnsVariable}
use Rattle.query_rows_dm.specs.declared.relation.Relation.{Relation}

-- a byte for each row, which isn't 0 exactly where this holds
pub record Marks (n : ℕ) (P : ℕ → Type 0) (mask : List ℕ) : Type 0 where
  pub long : length mask ≡ n
  pub each : (i : ℕ) → i < n → (slice_index mask i ≢ 0) ↔ P i

-- the row of one attribute with NULL
pub record IsNullRow (name : Name) (relation : Relation) : Type 0 where
  pub owned : OwnsVariable name
  pub attributes : relation.attributes ≡ variable_of name ∷ []
  pub rows : (m : Numbers) → HasRow relation.rows m ↔ ((m (variable_of name) ≡ 1) × ((x : List ℕ) → variable_of name ≢ x → m x ≡ 0))

-- the rows with this property
pub record AreKept (Q : Numbers → Type 0) (part relation : Relation) : Type 0 where
  pub attributes : relation.attributes ≡ part.attributes
  pub rows : (m : Numbers) → HasRow relation.rows m ↔ (HasRow part.rows m × Q m)

-- a new name for each of the variables
abbrev pub renames : (List ℕ → List ℕ) → List (List ℕ) → List Rename
renames f variables = map (λ x. record { from = x; to = f x }) variables

-- the rows under new names of these variables
pub record AreMoved (variables : List (List ℕ)) (f : List ℕ → List ℕ) (part relation : Relation) : Type 0 where
  pub attributes : relation.attributes ≡ map f variables
  pub rows : (m : Numbers) → HasRow relation.rows m ↔ ((u : Numbers) × HasRow part.rows u × ((y : List ℕ) → m y ≡ selected (renames f variables) u y))

-- the new name of a variable, where one is renamed
abbrev pub renamed : List ℕ → List ℕ → List ℕ → List ℕ
renamed from to x = if bytes_eq x from then to else x

-- the rows where an attribute has another name
pub record AreRenamed (from to : Name) (part relation : Relation) : Type 0 where
  pub owned : OwnsVariable to
  pub moved : AreMoved part.attributes (renamed (variable_of from) (variable_of to)) part relation

-- the same number, which isn't that of NULL, in each variable of both
pub record Agree (left right : Relation) (u v : Numbers) : Type 0 where
  pub there : (x : List ℕ) → IsIn x left.attributes → IsIn x right.attributes → u x ≢ 1
  pub same : (x : List ℕ) → SameIfBound (u x) (v x)

-- the variables of left, and those of right that left hasn't
pub record AreTogether (left right vars : List (List ℕ)) : Type 0 where
  pub either : (x : List ℕ) → IsIn x vars ↔ (IsIn x left ⊎ IsIn x right)
  pub once : NoRepeats left → NoRepeats right → NoRepeats vars

pub record AreJoined (left right relation : Relation) : Type 0 where
  pub attributes : AreTogether left.attributes right.attributes relation.attributes
  pub rows : (m : Numbers) → HasRow relation.rows m ↔
      ((u v : Numbers) × HasRow left.rows u × HasRow right.rows v × Agree left right u v × ((x : List ℕ) → m x ≡ first_bound (u x) (v x)))

pub record AreUnited (left right relation : Relation) : Type 0 where
  pub attributes : relation.attributes ≡ left.attributes
  pub rows : (m : Numbers) → HasRow relation.rows m ↔ (HasRow left.rows m ⊎ HasRow right.rows m)

pub record AreSubtracted (left right relation : Relation) : Type 0 where
  pub attributes : relation.attributes ≡ left.attributes
  pub rows : (m : Numbers) → HasRow relation.rows m ↔ (HasRow left.rows m × IsLeft right.rows m)
