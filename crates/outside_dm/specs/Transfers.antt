-- How pieces are put to a writer and files are read from a reader, by the calls that are made and what they answer.
use Rattle.std.specs.Prelude.{◌≡◌, ◌≢◌, ℕ, ◌+◌, ◌<◌, ◌≤◌, List, [], ◌∷◌, ◌++◌, length, map, All, Option, Some, None, Result, Ok, Err, IsErrAnd, ⊤}
use Rattle.std.specs.List.{concat}
use Rattle.std.specs.Option.{option_to_list}
use Rattle.std.specs.IoError.{error_kind}
use Rattle.std.specs.declared.io.ErrorKind.{ErrorKind}
use Rattle.std.specs.declared.io.ErrorKind.TheVariants.{OutOfMemory}
use Rattle.outside_dm.specs.Calls.{ReadCall, WriteCall, wrote, flushed, Makes}
use Rattle.outside_dm.specs.Shelves.{longest}
use Rattle.outside_dm.specs.declared.shelf.LoadError.{LoadError}
use Rattle.outside_dm.specs.declared.shelf.LoadError.TheVariants.{Absent, Failed as LoadFailed, TooLong, Memory as LoadMemory}
use Rattle.outside_dm.specs.declared.sink.PutError.{PutError}
use Rattle.outside_dm.specs.declared.sink.PutError.TheVariants.{Failed as PutFailed, Memory as PutMemory}

-- ---- a put

-- the refusal of a put at an error of this kind
abbrev pub PutRefusal : ErrorKind → PutError → Type 0
PutRefusal kind PutFailed = kind ≢ OutOfMemory
PutRefusal kind PutMemory = kind ≡ OutOfMemory

-- what the last call says of a put of which this rest was not taken before: a write took nothing of it, or failed; or all was
-- taken, and the flush decides
abbrev pub PutEnds : List ℕ → WriteCall → Result (Unit {0}) PutError → Type 0
PutEnds rest (wrote (Ok bytes)) result = (rest ≢ []) × (bytes ≡ []) × (result ≡ Err PutFailed)
PutEnds rest (wrote (Err error)) result = (rest ≢ []) × IsErrAnd result (PutRefusal (error_kind error))
PutEnds rest (flushed (Ok done)) result = (rest ≡ []) × (result ≡ Ok done)
PutEnds rest (flushed (Err error)) result = (rest ≡ []) × IsErrAnd result (PutRefusal (error_kind error))

-- how many of the calls are writes
abbrev pub writes : List WriteCall → ℕ
writes [] = 0
writes (wrote answer ∷ calls) = 1 + writes calls
writes (flushed answer ∷ calls) = writes calls

-- a piece was put: writes took it bit by bit, at least a byte each, and one call more decides; there were at most as many writes
-- as the piece has bytes
pub record PutsBy {W : Type 0} (HasMade : W → List WriteCall → Type 0) (old new : W) (piece : List ℕ) (result : Result (Unit {0}) PutError) : Type 0 where
  pub taken : List (List ℕ)
  pub rest : List ℕ
  pub last : WriteCall
  pub made : Makes HasMade old new (map (λ bytes. wrote (Ok bytes)) taken ++ last ∷ [])
  pub whole : piece ≡ concat taken ++ rest
  pub each : All (λ bytes. 0 < length bytes) taken
  pub budget : writes (map (λ bytes. wrote (Ok bytes)) taken ++ last ∷ []) ≤ length piece
  pub ends : PutEnds rest last result

-- ---- a load

-- the refusal of a load at a read that failed with an error of this kind
abbrev pub ReadRefusal : ErrorKind → LoadError → Type 0
ReadRefusal kind Absent = ⊥
ReadRefusal kind LoadFailed = kind ≢ OutOfMemory
ReadRefusal kind TooLong = ⊥
ReadRefusal kind LoadMemory = kind ≡ OutOfMemory

-- the refusal of a load that stops behind these bytes: they are too many, or memory for them ran out
abbrev pub StopsBehind : List ℕ → LoadError → Type 0
StopsBehind bytes Absent = ⊥
StopsBehind bytes LoadFailed = ⊥
StopsBehind bytes TooLong = longest < length bytes
StopsBehind bytes LoadMemory = ⊤

-- what the last read says of a load that was given these bytes before: it was the end, or it failed; or there was none
abbrev pub LoadEnds : List ℕ → Option ReadCall → Result (Unit {0}) LoadError → Type 0
LoadEnds bytes None result = IsErrAnd result (StopsBehind bytes)
LoadEnds bytes (Some (Ok end)) result = (end ≡ []) × (length bytes ≤ longest) × (result ≡ Ok tt)
LoadEnds bytes (Some (Err error)) result = IsErrAnd result (ReadRefusal (error_kind error))

-- these bytes were read: reads gave them chunk by chunk, at least a byte each, and maybe one read more decides; there were at most
-- as many reads as a load may take
pub record ReadsBy {R : Type 0} (HasMade : R → List ReadCall → Type 0) (old new : R) (bytes : List ℕ) (result : Result (Unit {0}) LoadError) : Type 0 where
  pub chunks : List (List ℕ)
  pub last : Option ReadCall
  pub made : Makes HasMade old new (map Ok chunks ++ option_to_list last)
  pub whole : bytes ≡ concat chunks
  pub each : All (λ chunk. 0 < length chunk) chunks
  pub budget : length (map Ok chunks ++ option_to_list last) ≤ longest + 1
  pub ends : LoadEnds bytes last result

-- the bytes were appended, or at a refusal nothing
abbrev pub AppendsAtOk : List ℕ → List ℕ → List ℕ → Result (Unit {0}) LoadError → Type 0
AppendsAtOk before after bytes (Ok _) = after ≡ before ++ bytes
AppendsAtOk before after bytes (Err _) = after ≡ before

-- all that a reader gives was appended, or at a refusal nothing
abbrev pub Reads : {R : Type 0} → (R → List ReadCall → Type 0) → R → R → List ℕ → List ℕ → Result (Unit {0}) LoadError → Type 0
Reads HasMade old new before after result = (bytes : List ℕ) × ReadsBy HasMade old new bytes result × AppendsAtOk before after bytes result
