-- The calls that are made of a host, each with its answer.
use Rattle.std.specs.Prelude.{ℕ, List, ◌++◌, Result, Ok, Err, take}
use Rattle.std.specs.declared.io.Error.{Error}

-- a read: the bytes that it gave, none at the end, or its error
abbrev pub ReadCall : Type 0
ReadCall = Result (List ℕ) Error

-- a call of a writer: the bytes that a write took, or its error; what a flush answered
pub data WriteCall : Type 0 where
  wrote : Result (List ℕ) Error → WriteCall
  flushed : Result (Unit {0}) Error → WriteCall

-- a call of a folder, with the name or path that it was given, and what it answered
pub data FolderCall : Type 0 where
  opened : List ℕ → Result (Unit {0}) Error → FolderCall
  made_folder : List ℕ → Result (Unit {0}) Error → FolderCall
  created : List ℕ → Result (Unit {0}) Error → FolderCall

-- the first bytes of the piece, as many as were counted, or the error
abbrev pub counted_bytes : List ℕ → Result ℕ Error → Result (List ℕ) Error
counted_bytes piece (Ok count) = Ok (take count piece)
counted_bytes piece (Err error) = Err error

-- that it went well, or the error
abbrev pub outcome_of : {A : Type 0} → Result A Error → Result (Unit {0}) Error
outcome_of (Ok _) = Ok tt
outcome_of (Err error) = Err error

-- exactly these calls were made between two states, where `HasMade` says which calls were made up to a state
abbrev pub Makes : {D C : Type 0} → (D → List C → Type 0) → D → D → List C → Type 0
Makes {D} {C} HasMade old new calls = (before : List C) → HasMade old before → HasMade new (before ++ calls)
