-- The order in which a header names the columns. Columns are counted from 0 here.
use Rattle.std.specs.Prelude.{◌≡◌, ◌<◌, ℕ, List, [], length, map, slice_index_or}
use Rattle.members_dm.specs.Membership.{IsIn, NoRepeats}
use Rattle.schema_dm.specs.declared.draft.Column.{Column}
use Rattle.table_csv.specs.TableFiles.{IsBadHeader, Record, name_fields}
use Rattle.table_csv.specs.declared.fault.TableError.{TableError}
use Rattle.table_csv.specs.declared.fault.TableError.TheVariants as fault

-- the field that names the column at the place
abbrev pub field_at : List Column → ℕ → List ℕ
field_at columns place = slice_index_or (name_fields columns) place []

-- the header that names the columns at these places
abbrev pub header_of : List Column → List ℕ → Record
header_of columns order = map (field_at columns) order

-- each column's place stands once in the order, and no two columns have one name
pub record IsOrder (columns : List Column) (order : List ℕ) : Type 0 where
  pub within : (place : ℕ) → IsIn place order → place < length columns
  pub once : NoRepeats order
  pub each : length order ≡ length columns
  pub distinct : NoRepeats (name_fields columns)

-- why a header gives no order
abbrev pub IsHeaderFault : List Column → Record → TableError → Type 0
IsHeaderFault columns header fault.Memory = Unit {0}
IsHeaderFault columns header (fault.BadHeader place) = IsBadHeader columns header place
IsHeaderFault columns header _ = ⊥
