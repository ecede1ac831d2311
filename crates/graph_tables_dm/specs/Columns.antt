-- The columns of a class, and the rows of its nodes.
use Rattle.std.specs.Prelude.{◌≡◌, ◌⊎◌, false, ℕ, List, [], ◌∷◌, ◌++◌, Option, None, Some, cond, nat_eq}
use Rattle.std.specs.List.{AllZip}
use Rattle.schema_dm.specs.declared.draft.Column.{Column}
use Rattle.schema_dm.specs.Naming.{Name}
use Rattle.table_csv.specs.Cells.{Row}
use Rattle.store_dm.specs.Graphs.{GraphValue}
use Rattle.roles_dm.specs.Numbers.{HasNumbers}
use Rattle.roles_dm.specs.Roles.{role_at}
use Rattle.roles_dm.specs.declared.role.ColumnRole.{ColumnRole}
use Rattle.roles_dm.specs.declared.role.Role.{Role}
use Rattle.roles_dm.specs.declared.role.Role.TheVariants as role
use Rattle.roles_dm.specs.declared.words.Words.{Words}
use Rattle.graph_tables_dm.specs.declared.listed.NumberedName.{NumberedName}
use Rattle.graph_tables_dm.specs.Cells.{IsCellAt, kind_at}

-- the column that a role is, if its class has the number
abbrev pub column_in : ℕ → Role → Option ColumnRole
column_in class (role.Column column) = cond (nat_eq column.class class) (Some column) None
column_in class (role.Class t) = None
column_in class (role.Link link) = None
column_in class role.Nothing = None

-- the number is that of a column of this name, of the class of the other number
abbrev pub IsNamedColumn : List Role → ℕ → NumberedName → Type 0
IsNamedColumn roles class e = (c : ColumnRole) × (role_at roles e.number ≡ Some (role.Column c)) × (c.class ≡ class) × (c.name.column ≡ e.name)

-- the graph says, too, that the class is its domain
abbrev pub IsColumnOf : GraphValue → Words → List Role → ℕ → NumberedName → Type 0
IsColumnOf g w roles class e = HasNumbers g e.number w.domain class × IsNamedColumn roles class e

-- the number with its column's name goes last, if it is that of a column of the class
abbrev pub AddsColumn : List Role → ℕ → ℕ → List NumberedName → List NumberedName → Type 0
AddsColumn roles class number old new =
    ((name : Name) × IsNamedColumn roles class (record { name = name; number = number }) × (new ≡ old ++ record { name = name; number = number } ∷ []))
    ⊎ (((name : Name) → ¬ IsNamedColumn roles class (record { name = name; number = number })) × (new ≡ old))

-- a column as a shape has it
abbrev pub column_at : List Role → NumberedName → Column
column_at roles e = record { name = e.name; kind = kind_at roles e.number; not_null = false }

-- the cells of the node in the columns
abbrev pub IsRowAt : GraphValue → List Role → List NumberedName → ℕ → Row → Type 0
IsRowAt g roles columns n row = AllZip (λ c cell. IsCellAt g roles n c.number cell) columns row
