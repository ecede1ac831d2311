-- Parts of a database that keep its keys, and the largest of them. Tables and rows are counted from 0. A part is a set
-- of rows, by table and row.
use Rattle.std.specs.Prelude.{◌<◌, ℕ, Bool, List, length, IsTrue}
use Rattle.std.specs.declared.option.Option.TheVariants.{None}
use Rattle.members_dm.specs.Membership.{IsIn}
use Rattle.schema_dm.specs.Schemas.{table_at}
use Rattle.schema_dm.specs.declared.table.ForeignKey.{ForeignKey}
use Rattle.table_csv.specs.Cells.{Row, cells_at}
use Rattle.table_csv.specs.Databases.{Data, rows_at}
use Rattle.keys_dm.specs.KeyCells.{row_at, IsRowWith}
use Rattle.keys_dm.specs.Violations.{HasNumber, Violates}
use Rattle.keys_dm.specs.declared.violation.ViolationKind.{ViolationKind}
use Rattle.keys_dm.specs.declared.violation.ViolationKind.TheVariants.{NullKey, RepeatedKey, RepeatedUnique, Dangling}

-- the database has this row
abbrev pub IsRow : Data → ℕ → ℕ → Type 0
IsRow D t i = i < length (rows_at D.rows t)

-- none of the row's referencing cells is NULL, and no row of the part has the same in the referenced columns
abbrev pub DanglesIn : (ℕ → Type 0) → List Row → ForeignKey → Row → Type 0
DanglesIn IsInPart targets key row =
    (¬ IsIn None (cells_at key.columns row)) × ((j : ℕ) → IsInPart j → ¬ IsRowWith targets key.target_columns (cells_at key.columns row) j)

-- the row i of the table t breaks a rule in a part: a foreign key looks for its match in the part, the other keys look
-- at the whole database
abbrev pub BreaksIn : (ℕ → ℕ → Type 0) → Data → ℕ → ℕ → ViolationKind → Type 0
BreaksIn IsInPart D t i NullKey = Violates D t i NullKey
BreaksIn IsInPart D t i RepeatedKey = Violates D t i RepeatedKey
BreaksIn IsInPart D t i (RepeatedUnique number) = Violates D t i (RepeatedUnique number)
BreaksIn IsInPart D t i (Dangling number) =
    (key : ForeignKey) × HasNumber (table_at D.tables t).foreign number key × DanglesIn (IsInPart key.target) (rows_at D.rows key.target) key (row_at (rows_at D.rows t) i)

-- no row of the part breaks a rule in it
abbrev pub IsLawfulPart : Data → (ℕ → ℕ → Type 0) → Type 0
IsLawfulPart D IsInPart = (t i : ℕ) (kind : ViolationKind) → IsRow D t i → IsInPart t i → ¬ BreaksIn IsInPart D t i kind

-- the part of the rows that pass a test
abbrev pub Passes : (ℕ → ℕ → Bool) → ℕ → ℕ → Type 0
Passes test t i = IsTrue (test t i)

-- a lawful part that has all rows of each lawful part
pub record IsLargestPart (D : Data) (IsInPart : ℕ → ℕ → Type 0) : Type 0 where
  pub lawful : IsLawfulPart D IsInPart
  pub largest : (other : ℕ → ℕ → Bool) (t i : ℕ) → IsLawfulPart D (Passes other) → IsRow D t i → Passes other t i → IsInPart t i
