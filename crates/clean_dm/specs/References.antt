-- The foreign keys of a database with the rows that reference by them. Tables, rows and columns are counted from 0.
use Rattle.std.specs.Prelude.{◌≡◌, ◌<◌, ◌⊎◌, ℕ, List, length}
use Rattle.members_dm.specs.Membership.{IsIn}
use Rattle.schema_dm.specs.Schemas.{table_at}
use Rattle.schema_dm.specs.declared.table.ForeignKey.{ForeignKey}
use Rattle.table_csv.specs.Databases.{Data, rows_at}
use Rattle.keys_dm.specs.Indexes.{IsIndexOf}
use Rattle.clean_dm.specs.declared.references.Reference.{Reference}

-- the reference stands for a foreign key of the table t
pub record StandsFor (D : Data) (t : ℕ) (key : ForeignKey) (reference : Reference) : Type 0 where
  pub table : reference.table ≡ t
  pub same_key : reference.key ≡ key
  pub rows : IsIndexOf (rows_at D.rows t) key.columns reference.rows

-- the reference is one from rows of a table
pub record IsReference (D : Data) (reference : Reference) : Type 0 where
  pub table : reference.table < length D.tables
  pub rows : IsIndexOf (rows_at D.rows reference.table) reference.key.columns reference.rows

-- each foreign key of the table t has its reference
abbrev pub HasReferences : Data → List Reference → ℕ → List ForeignKey → Type 0
HasReferences D references t keys = (key : ForeignKey) → IsIn key keys → (reference : Reference) × IsIn reference references × StandsFor D t key reference

-- the references of the tables before n
pub record AreReferences (D : Data) (n : ℕ) (references : List Reference) : Type 0 where
  pub each : (reference : Reference) → IsIn reference references → IsReference D reference
  pub all : (t : ℕ) → t < n → HasReferences D references t (table_at D.tables t).foreign

-- references are put behind the others, one for each key
pub record PutsReferences (D : Data) (t : ℕ) (old new : List Reference) (keys : List ForeignKey) : Type 0 where
  pub kept : (reference : Reference) → IsIn reference old → IsIn reference new
  pub each : (reference : Reference) → IsIn reference new → IsIn reference old ⊎ IsReference D reference
  pub all : HasReferences D new t keys
