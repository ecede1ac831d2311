-- What holds of the removals of a certificate, row by row. Tables, rows and turns are counted from 0, keys from 1.
use Rattle.std.specs.Prelude.{◌≡◌, ◌<◌, ◌≤◌, ◌↔◌, ℕ, ◌+◌, List, Option, length, slice_get, take}
use Rattle.std.specs.declared.option.Option.TheVariants.{None, Some}
use Rattle.schema_dm.specs.Schemas.{table_at}
use Rattle.schema_dm.specs.declared.table.ForeignKey.{ForeignKey}
use Rattle.table_csv.specs.Cells.{Cell, cells_at}
use Rattle.table_csv.specs.Databases.{Data, rows_at}
use Rattle.keys_dm.specs.KeyCells.{IsRowWith, row_at}
use Rattle.keys_dm.specs.Violations.{HasNumber, Violates}
use Rattle.keys_dm.specs.declared.violation.Violation.{Violation}
use Rattle.keys_dm.specs.declared.violation.ViolationKind.{ViolationKind}
use Rattle.keys_dm.specs.declared.violation.ViolationKind.TheVariants.{NullKey, RepeatedKey, RepeatedUnique, Dangling}
use Rattle.clean_dm.specs.Parts.{DanglesIn, IsRow}
use Rattle.clean_dm.specs.Removing.{IsLeft, IsOf, turn_of}
use Rattle.clean_dm.specs.Turns.{row_turn}
use Rattle.clean_dm.specs.declared.removal.Removal.{Removal}
use Rattle.clean_dm.specs.declared.turns.Turns.{Turns}

-- from the turn m on, and not before, it holds of the removals made so far
abbrev pub HoldsFrom : List Removal → (List Removal → Type 0) → ℕ → Type 0
HoldsFrom removals Holds m = (k : ℕ) → k ≤ length removals → (m ≤ k) ↔ Holds (take k removals)

-- no row that is left has these cells in the referenced columns of the key
abbrev pub NoneLeftWith : Data → ForeignKey → List Cell → List Removal → Type 0
NoneLeftWith D key cells made = (j : ℕ) → IsLeft made key.target j → ¬ IsRowWith (rows_at D.rows key.target) key.target_columns cells j

-- where a turn is noted of a row, from it on no row that is left has the same cells
abbrev pub KnowsGroups : Data → List Removal → ForeignKey → List (Option ℕ) → Type 0
KnowsGroups D removals key known = (p m : ℕ) → slice_get known p ≡ Some (Some m) → HoldsFrom removals (NoneLeftWith D key (cells_at key.target_columns (row_at (rows_at D.rows key.target) p))) m

-- the row violates its primary or unique key, or has a foreign key of this number
abbrev pub MayBreak : Data → ℕ → ℕ → ViolationKind → Type 0
MayBreak D t i NullKey = Violates D t i NullKey
MayBreak D t i RepeatedKey = Violates D t i RepeatedKey
MayBreak D t i (RepeatedUnique number) = Violates D t i (RepeatedUnique number)
MayBreak D t i (Dangling number) = (key : ForeignKey) × HasNumber (table_at D.tables t).foreign number key

pub record HasReason (D : Data) (removal : Removal) : Type 0 where
  pub t : ℕ
  pub i : ℕ
  pub of_row : IsOf t i removal
  pub in_table : t < length D.tables
  pub is_row : IsRow D t i
  pub reason : MayBreak D t i removal.kind

abbrev pub HaveReasons : Data → List Removal → Type 0
HaveReasons D removals = (k : ℕ) (removal : Removal) → slice_get removals k ≡ Some removal → HasReason D removal

-- no row that stays violates its primary key or a unique key
abbrev pub StayUnique : Data → Turns → Type 0
StayUnique D turns = (t i : ℕ) (kind : ViolationKind) → t < length D.tables → IsRow D t i → row_turn turns t i ≡ None → turn_of kind ≡ 0 → ¬ Violates D t i kind

-- a row that stays doesn't dangle at the end, and one that is removed for the key of this number dangles at its turn
pub record RowAgrees (D : Data) (removals : List Removal) (turns : Turns) (t i number : ℕ) (key : ForeignKey) : Type 0 where
  pub stays : row_turn turns t i ≡ None → ¬ DanglesIn (IsLeft removals key.target) (rows_at D.rows key.target) key (row_at (rows_at D.rows t) i)
  pub goes : (k : ℕ) (removal : Removal) → row_turn turns t i ≡ Some k → slice_get removals k ≡ Some removal → removal.kind ≡ Dangling number
      → DanglesIn (IsLeft (take k removals) key.target) (rows_at D.rows key.target) key (row_at (rows_at D.rows t) i)

abbrev pub KeyAgrees : Data → List Removal → Turns → ℕ → ℕ → ForeignKey → Type 0
KeyAgrees D removals turns t number key = (i : ℕ) → IsRow D t i → RowAgrees D removals turns t i number key

abbrev pub KeysAgree : Data → List Removal → Turns → ℕ → Type 0
KeysAgree D removals turns t = (place : ℕ) (key : ForeignKey) → slice_get (table_at D.tables t).foreign place ≡ Some key → KeyAgrees D removals turns t (place + 1) key

abbrev pub TablesAgree : Data → List Removal → Turns → Type 0
TablesAgree D removals turns = (t : ℕ) → t < length D.tables → KeysAgree D removals turns t

-- the same of one row by its turn and that from which on it dangles
pub record AgreesAt (removals : List Removal) (turn : Option ℕ) (number from : ℕ) : Type 0 where
  pub stays : turn ≡ None → length removals < from
  pub goes : (k : ℕ) (removal : Removal) → turn ≡ Some k → slice_get removals k ≡ Some removal → removal.kind ≡ Dangling number → from ≤ k

-- the violation is of a primary or unique key, and its row stays
pub record StaysWrongly (D : Data) (turns : Turns) (violation : Violation) : Type 0 where
  pub own : turn_of violation.kind ≡ 0
  pub t : ℕ
  pub i : ℕ
  pub table : violation.table ≡ t + 1
  pub row : violation.row ≡ i + 1
  pub in_table : t < length D.tables
  pub is_row : IsRow D t i
  pub none : row_turn turns t i ≡ None
