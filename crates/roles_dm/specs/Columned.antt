-- Which classes have a column.
use Rattle.std.specs.Prelude.{◌≡◌, ◌↔◌, ◌⊎◌, ◌<◌, ℕ, List, IsTrue, Some, nat_eq, slice_get}
use Rattle.std.specs.HashSet.{contains}
use Rattle.roles_dm.specs.declared.columned.Columned.{Columned}
use Rattle.roles_dm.specs.declared.role.ColumnRole.{ColumnRole}
use Rattle.roles_dm.specs.declared.role.Role.{Role}
use Rattle.roles_dm.specs.declared.role.Role.TheVariants.{Column}

abbrev pub HasColumned : Columned → ℕ → Type 0
HasColumned columned n = IsTrue (contains nat_eq columned.classes n)

-- the role is that of a column of the class with this number
abbrev pub IsClassOf : Role → ℕ → Type 0
IsClassOf role n = (column : ColumnRole) × (role ≡ Column column) × (column.class ≡ n)

abbrev pub NotesClass : Columned → Columned → Role → Type 0
NotesClass old new role = (n : ℕ) → HasColumned new n ↔ (HasColumned old n ⊎ IsClassOf role n)

-- one of the roles below the bound is that of a column of the class with this number
abbrev pub HasColumnBelow : List Role → ℕ → ℕ → Type 0
HasColumnBelow roles bound n = (k : ℕ) × (role : Role) × (k < bound) × (slice_get roles k ≡ Some role) × IsClassOf role n

-- exactly the classes that have a column
abbrev pub AreColumned : List Role → Columned → Type 0
AreColumned roles columned = (n : ℕ) → HasColumned columned n ↔ ((k : ℕ) × (role : Role) × (slice_get roles k ≡ Some role) × IsClassOf role n)
