-- Lists of things that have a property, each once, and names with numbers in the order of the names.
use Rattle.std.specs.Prelude.{◌≡◌, ◌↔◌, ◌⊎◌, ℕ, List, [], ◌∷◌, ◌++◌, Option, None, Some}
use Rattle.members_dm.specs.Membership.{IsIn, IsRising, NoRepeats}
use Rattle.schema_dm.specs.Naming.{Name}
use Rattle.schema_dm.specs.Shapes.{IsBefore}
use Rattle.roles_dm.specs.declared.role.LinkName.{LinkName}
use Rattle.roles_dm.specs.declared.role.LinkName.TheVariants.{Reference, Relation}
use Rattle.roles_dm.specs.declared.role.Role.{Role}
use Rattle.roles_dm.specs.declared.role.Role.TheVariants as role
use Rattle.roles_dm.specs.Roles.{role_at}
use Rattle.graph_tables_dm.specs.declared.listed.NumberedName.{NumberedName}

-- the things that have the property, each once
pub record ListsOnce {X : Type 0} (P : X → Type 0) (xs : List X) : Type 0 where
  pub items : (x : X) → IsIn x xs ↔ P x
  pub once : NoRepeats xs

-- the second name's bytes are not before the first's
abbrev pub IsNotAfter : NumberedName → NumberedName → Type 0
IsNotAfter x y = ¬ IsBefore y.name x.name

-- those that have the property, each once, in the order of their names' bytes
pub record AreInOrder (P : NumberedName → Type 0) (names : List NumberedName) : Type 0 where
  pub lists : ListsOnce P names
  pub rising : IsRising IsNotAfter names

-- ---- tables

-- the table that a relation's IRI names
abbrev pub relation_table_name : LinkName → Option Name
relation_table_name (Relation q) = Some q.table
relation_table_name (Reference r) = None

-- the table that a term stands for: a class or a relation
abbrev pub table_name : Role → Option Name
table_name (role.Class t) = Some t
table_name (role.Link link) = relation_table_name link.name
table_name (role.Column column) = None
table_name role.Nothing = None

-- the term of the number stands for the table of the name
abbrev pub IsTabled : List Role → NumberedName → Type 0
IsTabled roles e = (r : Role) × (role_at roles e.number ≡ Some r) × (table_name r ≡ Some e.name)

-- the number with its table's name goes last, if its term stands for a table
abbrev pub AddsTabled : List Role → ℕ → List NumberedName → List NumberedName → Type 0
AddsTabled roles number old new =
    ((name : Name) × IsTabled roles (record { name = name; number = number }) × (new ≡ old ++ record { name = name; number = number } ∷ []))
    ⊎ (((name : Name) → ¬ IsTabled roles (record { name = name; number = number })) × (new ≡ old))
