-- Files that are stored one after another.
use Rattle.std.specs.Prelude.{◌≡◌, ◌≢◌, ℕ, List, [], ◌∷◌, take, slice_get, Option, Some, None, Result, Ok, Err, MatchOption, ⊤}
use Rattle.std.specs.FinMap.{get, insert}
use Rattle.outside_dm.specs.Counts.{Rose}
use Rattle.outside_dm.specs.Shelves.{Files, ShelfState, StoreKeeps}
use Rattle.outside_dm.specs.declared.shelf.StoreError.{StoreError}
use Rattle.outside_dm.specs.declared.shelf.StoreError.TheVariants.{Failed, Memory}

-- names with bytes, in the order in which they are stored
abbrev pub Batch : Type 0
Batch = List (List ℕ × List ℕ)

-- the files once all of the batch stands in them
abbrev pub insert_all : Batch → Files → Files
insert_all [] files = files
insert_all (entry ∷ batch) files = insert_all batch (insert files entry.0 entry.1)

-- told files have all of the batch
abbrev pub StoresAll : Batch → Option Files → Option Files → Type 0
StoresAll batch None new = ⊤
StoresAll batch (Some files) None = ⊥
StoresAll batch (Some files) (Some after) = after ≡ insert_all batch files

-- not the name of the entry at this place, if there is one
abbrev pub IsOther : Batch → ℕ → List ℕ → Type 0
IsOther batch place name = MatchOption (slice_get batch place) ⊤ (λ entry. name ≢ entry.0)

-- told files have the first few of the batch; what the name of the next one holds is open, and no other name changed
abbrev pub StoresFirst : Batch → Option Files → Option Files → Type 0
StoresFirst batch None new = ⊤
StoresFirst batch (Some files) None = ⊥
StoresFirst batch (Some files) (Some after) =
    (place : ℕ) × ((name : List ℕ) → IsOther batch place name → get after name ≡ get (insert_all (take place batch) files) name)

-- what became of a batch that was to be stored
abbrev pub BatchEnds : Batch → ShelfState → ShelfState → Result (Unit {0}) StoreError → Type 0
BatchEnds batch old new (Ok _) = StoresAll batch old.files new.files
BatchEnds batch old new (Err Failed) = (Rose old.store_faults new.store_faults) × StoresFirst batch old.files new.files
BatchEnds batch old new (Err Memory) = StoresFirst batch old.files new.files

-- the batch was stored, or at a refusal its first few
pub record Stores (batch : Batch) (old new : ShelfState) (result : Result (Unit {0}) StoreError) : Type 0 where
  pub ends : BatchEnds batch old new result
  pub kept : StoreKeeps old new

-- so far this batch has been stored
pub record Stored (batch : Batch) (old new : ShelfState) : Type 0 where
  pub all : StoresAll batch old.files new.files
  pub kept : StoreKeeps old new
