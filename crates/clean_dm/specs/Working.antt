-- What holds while rows are removed. Tables and rows are counted from 0.
use Rattle.std.specs.Prelude.{◌≡◌, ◌<◌, ◌⊎◌, ◌↔◌, ℕ, List, [], ◌∷◌, length, ◌≤◌}
use Rattle.std.specs.declared.option.Option.TheVariants.{None}
use Rattle.members_dm.specs.Membership.{IsIn, IsRising}
use Rattle.members_dm.specs.Places.{IsEarlier}
use Rattle.schema_dm.specs.Schemas.{table_at}
use Rattle.schema_dm.specs.declared.table.ForeignKey.{ForeignKey}
use Rattle.table_csv.specs.Databases.{Data, rows_at}
use Rattle.keys_dm.specs.KeyCells.{row_at}
use Rattle.table_csv.specs.Cells.{cells_at}
use Rattle.keys_dm.specs.Violations.{Violates}
use Rattle.keys_dm.specs.declared.violation.Violation.{Violation}
use Rattle.keys_dm.specs.declared.violation.ViolationKind.{ViolationKind}
use Rattle.keys_dm.specs.declared.violation.ViolationKind.TheVariants.{Dangling}
use Rattle.clean_dm.specs.Parts.{BreaksIn, IsRow}
use Rattle.clean_dm.specs.References.{StandsFor}
use Rattle.clean_dm.specs.Removing.{IsChain, IsLeft, IsNext, turn_of}
use Rattle.clean_dm.specs.RowSets.{Has}
use Rattle.clean_dm.specs.declared.references.Reference.{Reference}
use Rattle.clean_dm.specs.declared.removal.Removal.{Removal}
use Rattle.clean_dm.specs.declared.row_set.RowSet.{RowSet}

-- each removal so far was the first that was due, and the set has the rows that are left
pub record IsUnderWay (D : Data) (removals : List Removal) (left : RowSet) : Type 0 where
  pub chain : IsChain (IsNext D) removals
  pub exact : (t i : ℕ) → Has left t i ↔ (IsRow D t i × IsLeft removals t i)

-- the set has rows of the database alone
abbrev pub AreRows : Data → RowSet → Type 0
AreRows D set = (t i : ℕ) → Has set t i → (t < length D.tables) × IsRow D t i

-- no row of the set violates a primary or unique key
abbrev pub KeepsUnique : Data → RowSet → Type 0
KeepsUnique D left = (t i : ℕ) (kind : ViolationKind) → Has left t i → turn_of kind ≡ 0 → ¬ Violates D t i kind

-- the row's foreign key of this number has no NULL and no match in the set
abbrev pub Dangles : Data → RowSet → ℕ → ℕ → ℕ → Type 0
Dangles D left t i number = BreaksIn (Has left) D t i (Dangling number)

-- of the row's foreign keys that dangle the first
pub record IsFirstKey (D : Data) (left : RowSet) (t i number : ℕ) : Type 0 where
  pub there : Has left t i
  pub dangles : Dangles D left t i number
  pub first : (other : ℕ) → Dangles D left t i other → ¬ (other < number)

-- of the set's rows that dangle the first, with its first such key
pub record IsFirstDangling (D : Data) (left : RowSet) (t i number : ℕ) : Type 0 where
  pub there : Has left t i
  pub dangles : Dangles D left t i number
  pub first : (u j other : ℕ) → Has left u j → Dangles D left u j other → ¬ IsEarlier (u ∷ j ∷ other ∷ []) (t ∷ i ∷ number ∷ [])

abbrev pub NoneDangles : Data → RowSet → Type 0
NoneDangles D left = (t i number : ℕ) → Has left t i → ¬ Dangles D left t i number

-- rows of the database, among them all that are left and dangle
pub record AreCandidates (D : Data) (left due : RowSet) : Type 0 where
  pub rows : AreRows D due
  pub all : (t i number : ℕ) → Has left t i → Dangles D left t i number → Has due t i

-- the same but for one row
pub record AreCandidatesBut (D : Data) (left due : RowSet) (t i : ℕ) : Type 0 where
  pub rows : AreRows D due
  pub all : (u j number : ℕ) → Has left u j → Dangles D left u j number → ¬ ((u ≡ t) × (j ≡ i)) → Has due u j

-- positions in rising order, of which none is left unless it is alone
pub record IsLone (IsThere : ℕ → Type 0) (positions : List ℕ) : Type 0 where
  pub rising : IsRising (λ i j. i < j) positions
  pub alone : (i j : ℕ) → IsIn i positions → IsIn j positions → IsThere i → j ≡ i

-- all rows are there that reference the row i of the table t by the key
abbrev pub HasReferencing : Data → RowSet → ℕ → ℕ → ℕ → ForeignKey → Type 0
HasReferencing D due t i u key =
    key.target ≡ t → (j : ℕ) → IsRow D u j → ¬ IsIn None (cells_at key.columns (row_at (rows_at D.rows u) j))
    → cells_at key.columns (row_at (rows_at D.rows u) j) ≡ cells_at key.target_columns (row_at (rows_at D.rows t) i) → Has due u j

-- rows come in: all that reference the row, and rows of the database alone
pub record GainsReferencing (D : Data) (old new : RowSet) (t i : ℕ) : Type 0 where
  pub rows : AreRows D new
  pub kept : (u j : ℕ) → Has old u j → Has new u j
  pub all : (u : ℕ) (key : ForeignKey) → u < length D.tables → IsIn key (table_at D.tables u).foreign → HasReferencing D new t i u key

-- the rows of the table at the positions come in
pub record GainsRows (old new : RowSet) (t : ℕ) (positions : List ℕ) : Type 0 where
  pub each : (u j : ℕ) → Has new u j ↔ (Has old u j ⊎ ((u ≡ t) × IsIn j positions))

-- rows come in: all that reference the row by the key of the reference, and rows of the database alone
pub record GainsMatching (D : Data) (old new : RowSet) (t i : ℕ) (reference : Reference) : Type 0 where
  pub rows : AreRows D new
  pub kept : (u j : ℕ) → Has old u j → Has new u j
  pub all : (u : ℕ) (key : ForeignKey) → StandsFor D u key reference → HasReferencing D new t i u key

-- the same for some references
pub record GainsFirst (D : Data) (old new : RowSet) (t i : ℕ) (references : List Reference) : Type 0 where
  pub rows : AreRows D new
  pub kept : (u j : ℕ) → Has old u j → Has new u j
  pub all : (reference : Reference) (u : ℕ) (key : ForeignKey) → IsIn reference references → StandsFor D u key reference → HasReferencing D new t i u key

-- nothing was removed
abbrev pub IsSameState : List Removal → RowSet → List Removal → RowSet → Type 0
IsSameState removals left new_removals new_left = (new_removals ≡ removals) × ((t i : ℕ) → Has new_left t i ↔ Has left t i)

-- the violation's numbers are those of a database
pub record IsWithinLimits (violation : Violation) : Type 0 where
  pub table_from_1 : 0 < violation.table
  pub few_tables : violation.table ≤ 4096
  pub row_from_1 : 0 < violation.row
  pub few_rows : violation.row ≤ 4194304
