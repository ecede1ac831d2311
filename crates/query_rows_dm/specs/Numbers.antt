-- Values and their numbers: 1 for NULL, and from 2 on for the values of a list, in its order.
use Rattle.std.specs.Prelude.{◌≡◌, ◌≢◌, ◌<◌, ◌+◌, ◌++◌, ◌↔◌, ℕ, zero, suc, List, length, slice_get}
use Rattle.std.specs.declared.option.Option.TheVariants.{None, Some}
use Rattle.value_dm.specs.declared.value.Value.{Value}
use Rattle.table_csv.specs.Cells.{Cell}

-- the cell of a number; no cell has 0
abbrev pub cell_of : List Value → ℕ → Cell
cell_of values zero = None
cell_of values (suc zero) = None
cell_of values (suc (suc place)) = slice_get values place

-- the number is a cell's
pub record IsNumber (values : List Value) (n : ℕ) : Type 0 where
  pub some : n ≢ 0
  pub within : n < length values + 2

-- the number is this cell's
pub record IsNumberOf (values : List Value) (c : Cell) (n : ℕ) : Type 0 where
  pub number : IsNumber values n
  pub cell : cell_of values n ≡ c

-- no value stands at two places
abbrev pub AreOneToOne : List Value → Type 0
AreOneToOne values = (i j : ℕ) → i < length values → slice_get values i ≡ slice_get values j → i ≡ j

-- values have only come behind the others, and each still has one number if it had
pub record AreGrown (old new : List Value) : Type 0 where
  pub more : (rest : List Value) × (new ≡ old ++ rest)
  pub apart : AreOneToOne old → AreOneToOne new

-- the number is this cell's among the values as they are now
pub record IsNumbered (old new : List Value) (c : Cell) (n : ℕ) : Type 0 where
  pub grown : AreGrown old new
  pub number : IsNumberOf new c n

-- a number is this one exactly where it is the value's
abbrev pub IsSought : List Value → Value → ℕ → Type 0
IsSought values value sought = (n : ℕ) → IsNumber values n → (n ≡ sought) ↔ (cell_of values n ≡ Some value)
