-- How files of a folder are loaded and stored, by the calls that are made of the folder and what they answer.
use Rattle.std.specs.Prelude.{◌≡◌, ◌≢◌, ◌⊎◌, ℕ, List, [], ◌∷◌, ◌++◌, Result, Ok, Err, IsErrAnd, MatchOption, None, string_bytes}
use Rattle.std.specs.IoError.{error_kind}
use Rattle.std.specs.Path.{path_parent}
use Rattle.std.specs.declared.io.Error.{Error}
use Rattle.std.specs.declared.io.ErrorKind.{ErrorKind}
use Rattle.std.specs.declared.io.ErrorKind.TheVariants.{NotFound, OutOfMemory}
use Rattle.outside_dm.specs.Calls.{ReadCall, WriteCall, FolderCall, opened, made_folder, created, Makes}
use Rattle.outside_dm.specs.Shelves.{ShelfState}
use Rattle.outside_dm.specs.Transfers.{PutsBy, Reads}
use Rattle.outside_dm.specs.declared.folder_shelf.FolderShelf.{FolderShelf}
use Rattle.outside_dm.specs.declared.shelf.LoadError.{LoadError}
use Rattle.outside_dm.specs.declared.shelf.LoadError.TheVariants.{Absent, Failed as LoadFailed, TooLong, Memory as LoadMemory}
use Rattle.outside_dm.specs.declared.shelf.StoreError.{StoreError}
use Rattle.outside_dm.specs.declared.shelf.StoreError.TheVariants.{Failed as StoreFailed, Memory as StoreMemory}
use Rattle.outside_dm.specs.declared.sink.PutError.{PutError}
use Rattle.outside_dm.specs.declared.sink.PutError.TheVariants.{Failed as PutFailed, Memory as PutMemory}

-- the host that a shelf keeps
abbrev pub host_of : {R : Type 0} → FolderShelf R → R
host_of shelf = shelf.rt

-- what contracts see of a shelf over a folder: it tells no files
abbrev pub folder_state : {R : Type 0} → FolderShelf R → ShelfState
folder_state shelf = record {
  files = None;
  failed = string_bytes shelf.failed;
  load_faults = shelf.load_faults;
  store_faults = shelf.store_faults;
  absences = shelf.absences;
  overlongs = shelf.overlongs;
}

-- ---- a load

-- the refusal of a load whose file can't be opened, with an error of this kind: it is absent exactly where there is no such entry
abbrev pub OpenRefusal : ErrorKind → LoadError → Type 0
OpenRefusal kind Absent = kind ≡ NotFound
OpenRefusal kind LoadFailed = (kind ≢ NotFound) × (kind ≢ OutOfMemory)
OpenRefusal kind TooLong = ⊥
OpenRefusal kind LoadMemory = kind ≡ OutOfMemory

-- what became of a load by the answer to its opening: a reader of which no call was made before is read, or the load is refused
abbrev pub OpenEnds : {R : Type 0} → (R → List ReadCall → Type 0) → List ℕ → List ℕ → Result (Unit {0}) LoadError → Result (Unit {0}) Error → Type 0
OpenEnds {R} HasRead before after result (Ok _) = (first last : R) × HasRead first [] × Reads HasRead first last before after result
OpenEnds HasRead before after result (Err error) = (after ≡ before) × IsErrAnd result (OpenRefusal (error_kind error))

-- a file was loaded: it was opened once by its name; or memory ran out before that
abbrev pub LoadsBy : {F R : Type 0} → (F → List FolderCall → Type 0) → (R → List ReadCall → Type 0) → F → F → List ℕ → List ℕ → List ℕ → Result (Unit {0}) LoadError → Type 0
LoadsBy HasMade HasRead old new name before after result =
    (Makes HasMade old new [] × (result ≡ Err LoadMemory) × (after ≡ before))
    ⊎ ((answer : Result (Unit {0}) Error) × Makes HasMade old new (opened name answer ∷ []) × OpenEnds HasRead before after result answer)

-- ---- a store

-- the refusal of a store whose file or folder can't be made, with an error of this kind
abbrev pub StoreRefusal : ErrorKind → StoreError → Type 0
StoreRefusal kind StoreFailed = kind ≢ OutOfMemory
StoreRefusal kind StoreMemory = kind ≡ OutOfMemory

-- the answer of a store whose bytes were put with this answer
abbrev pub store_result : Result (Unit {0}) PutError → Result (Unit {0}) StoreError
store_result (Ok done) = Ok done
store_result (Err PutFailed) = Err StoreFailed
store_result (Err PutMemory) = Err StoreMemory

-- what became of a store by the answer to the making of its file: the bytes are put to a writer of which no call was made before,
-- or the store is refused
abbrev pub CreateEnds : {W : Type 0} → (W → List WriteCall → Type 0) → List ℕ → Result (Unit {0}) StoreError → Result (Unit {0}) Error → Type 0
CreateEnds {W} HasWritten bytes result (Ok _) =
    (first last : W) × (outcome : Result (Unit {0}) PutError) × HasWritten first [] × PutsBy HasWritten first last bytes outcome × (result ≡ store_result outcome)
CreateEnds HasWritten bytes result (Err error) = IsErrAnd result (StoreRefusal (error_kind error))

-- behind these calls the file was made once by its name, and its bytes were put
abbrev pub CreatesBehind : {F W : Type 0} → (F → List FolderCall → Type 0) → (W → List WriteCall → Type 0) → F → F → List ℕ → List ℕ → Result (Unit {0}) StoreError → List FolderCall → Type 0
CreatesBehind HasMade HasWritten old new name bytes result calls =
    (answer : Result (Unit {0}) Error) × Makes HasMade old new (calls ++ created name answer ∷ []) × CreateEnds HasWritten bytes result answer

-- what became of a store by the answer to the making of its folder
abbrev pub FolderEnds : {F W : Type 0} → (F → List FolderCall → Type 0) → (W → List WriteCall → Type 0) → F → F → List ℕ → List ℕ → Result (Unit {0}) StoreError → List ℕ → Result (Unit {0}) Error → Type 0
FolderEnds HasMade HasWritten old new name bytes result folder (Ok done) = CreatesBehind HasMade HasWritten old new name bytes result (made_folder folder (Ok done) ∷ [])
FolderEnds HasMade HasWritten old new name bytes result folder (Err error) =
    Makes HasMade old new (made_folder folder (Err error) ∷ []) × IsErrAnd result (StoreRefusal (error_kind error))

-- a file was stored: the folder that it lies in was made, if its name has one, and then the file
abbrev pub StoresBy : {F W : Type 0} → (F → List FolderCall → Type 0) → (W → List WriteCall → Type 0) → F → F → List ℕ → List ℕ → Result (Unit {0}) StoreError → Type 0
StoresBy HasMade HasWritten old new name bytes result =
    MatchOption (path_parent name)
    (CreatesBehind HasMade HasWritten old new name bytes result [])
    (λ folder. (answer : Result (Unit {0}) Error) × FolderEnds HasMade HasWritten old new name bytes result folder answer)
