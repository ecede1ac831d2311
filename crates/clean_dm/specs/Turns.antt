-- At which turn each row is removed. Tables, rows and turns are counted from 0.
use Rattle.std.specs.Prelude.{◌≡◌, ◌<◌, ◌↔◌, ℕ, List, Option, length, slice_get}
use Rattle.std.specs.declared.option.Option.TheVariants.{None, Some}
use Rattle.std.specs.BTreeMap.{get}
use Rattle.table_csv.specs.Databases.{Data}
use Rattle.clean_dm.specs.Parts.{IsRow}
use Rattle.clean_dm.specs.Removing.{IsOf}
use Rattle.clean_dm.specs.RowSets.{pair_cmp}
use Rattle.clean_dm.specs.declared.removal.Removal.{Removal}
use Rattle.clean_dm.specs.declared.turns.Turns.{Turns}

-- the turn that is noted of the row
unfoldable pub row_turn : Turns → ℕ → ℕ → Option ℕ
row_turn turns t i = get pair_cmp turns.turns (t, i)

-- the removal at the turn k is of the row
abbrev pub IsTurn : List Removal → ℕ → ℕ → ℕ → Type 0
IsTurn removals t i k = (removal : Removal) × (slice_get removals k ≡ Some removal) × IsOf t i removal

-- exactly the turns before n are noted
abbrev pub AreFirstTurns : List Removal → ℕ → Turns → Type 0
AreFirstTurns removals n turns = (t i k : ℕ) → (row_turn turns t i ≡ Some k) ↔ ((k < n) × IsTurn removals t i k)

-- all turns are noted, so no row has two
abbrev pub AreTurns : List Removal → Turns → Type 0
AreTurns removals turns = (t i k : ℕ) → (row_turn turns t i ≡ Some k) ↔ IsTurn removals t i k

-- the row gets the turn k
pub record TakesTurn (old new : Turns) (t i k : ℕ) : Type 0 where
  pub here : row_turn new t i ≡ Some k
  pub others : (u j : ℕ) → ¬ ((u ≡ t) × (j ≡ i)) → row_turn new u j ≡ row_turn old u j

-- the row of the removal, which had no turn, gets the turn k
pub record HasTaken (D : Data) (removal : Removal) (old new : Turns) (k : ℕ) : Type 0 where
  pub t : ℕ
  pub i : ℕ
  pub of_row : IsOf t i removal
  pub in_table : t < length D.tables
  pub is_row : IsRow D t i
  pub free : row_turn old t i ≡ None
  pub takes : TakesTurn old new t i k

-- each row that the removal is of has a turn
abbrev pub CannotTake : Data → Removal → Turns → Type 0
CannotTake D removal turns = (t i : ℕ) → IsOf t i removal → IsRow D t i → (k : ℕ) × (row_turn turns t i ≡ Some k)
