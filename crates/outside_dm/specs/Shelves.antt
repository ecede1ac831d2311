-- What contracts see of a shelf, and what its calls do.
use Rattle.std.specs.Prelude.{◌≡◌, ◌≢◌, ℕ, ◌<◌, ◌≤◌, List, ◌++◌, length, Option, Some, None, Result, Ok, Err, IfSome, ⊤, ◌⊎◌}
use Rattle.std.specs.Ordering.{nat_cmp}
use Rattle.std.specs.FinMap.{FinMap, get, insert}
use Rattle.std.specs.Cmp.Lexicographic.{slice_cmp}
use Rattle.outside_dm.specs.Counts.{Rose, counted}
use Rattle.outside_dm.specs.declared.shelf.LoadError.{LoadError}
use Rattle.outside_dm.specs.declared.shelf.LoadError.TheVariants.{Absent, Failed as LoadFailed, TooLong, Memory as LoadMemory}
use Rattle.outside_dm.specs.declared.shelf.StoreError.{StoreError}
use Rattle.outside_dm.specs.declared.shelf.StoreError.TheVariants.{Failed as StoreFailed, Memory as StoreMemory}

-- contents of files by name, where a name is the UTF-8 bytes of its text
abbrev pub Files : Type 0
Files = FinMap (slice_cmp nat_cmp) (List ℕ)

-- the length of the longest file that a load takes, in bytes
abbrev pub longest : ℕ
longest = 268435456

-- the files where the shelf tells them, the name of the last load that failed (empty before one did), and counts of four events
pub record ShelfState : Type 0 where
  pub files : Option Files
  pub failed : List ℕ
  pub load_faults : ℕ
  pub store_faults : ℕ
  pub absences : ℕ
  pub overlongs : ℕ

-- ---- a load

-- the bytes of the file were appended, and where the files are told these are its bytes
pub record AppendsFile (old : ShelfState) (name before after : List ℕ) : Type 0 where
  pub bytes : List ℕ
  pub appended : after ≡ before ++ bytes
  pub short : length bytes ≤ longest
  pub told : IfSome old.files (λ files. get files name ≡ Some bytes)

-- there is a file, and it is too long for a load
abbrev pub IsOverlong : Option (List ℕ) → Type 0
IsOverlong None = ⊥
IsOverlong (Some bytes) = longest < length bytes

-- the event behind a refused load was counted
abbrev pub LoadCounted : {T : Type 0} → ShelfState → ShelfState → Result T LoadError → Type 0
LoadCounted old new (Ok _) = ⊤
LoadCounted old new (Err Absent) = Rose old.absences new.absences
LoadCounted old new (Err LoadFailed) = Rose old.load_faults new.load_faults
LoadCounted old new (Err TooLong) = Rose old.overlongs new.overlongs
LoadCounted old new (Err LoadMemory) = ⊤

-- a load that failed left its name, and no other load left one
abbrev pub NamesFailure : {T : Type 0} → ShelfState → ShelfState → List ℕ → Result T LoadError → Type 0
NamesFailure old new name (Ok _) = new.failed ≡ old.failed
NamesFailure old new name (Err Absent) = new.failed ≡ old.failed
NamesFailure old new name (Err LoadFailed) = new.failed ≡ name
NamesFailure old new name (Err TooLong) = new.failed ≡ old.failed
NamesFailure old new name (Err LoadMemory) = new.failed ≡ old.failed

-- absent only where told files have no such name
abbrev pub OnlyWhereAbsent : {T : Type 0} → ShelfState → List ℕ → Result T LoadError → Type 0
OnlyWhereAbsent old name (Ok _) = ⊤
OnlyWhereAbsent old name (Err Absent) = IfSome old.files (λ files. get files name ≡ None)
OnlyWhereAbsent old name (Err LoadFailed) = ⊤
OnlyWhereAbsent old name (Err TooLong) = ⊤
OnlyWhereAbsent old name (Err LoadMemory) = ⊤

-- too long only where the told file is
abbrev pub OnlyWhereTooLong : {T : Type 0} → ShelfState → List ℕ → Result T LoadError → Type 0
OnlyWhereTooLong old name (Ok _) = ⊤
OnlyWhereTooLong old name (Err Absent) = ⊤
OnlyWhereTooLong old name (Err LoadFailed) = ⊤
OnlyWhereTooLong old name (Err TooLong) = IfSome old.files (λ files. IsOverlong (get files name))
OnlyWhereTooLong old name (Err LoadMemory) = ⊤

-- this refusal, or want of memory
abbrev pub IsErrOrMemory : {T : Type 0} → Result T LoadError → LoadError → Type 0
IsErrOrMemory result error = (result ≡ Err error) ⊎ (result ≡ Err LoadMemory)

-- where no load fault rose, absent at each name that told files don't have
abbrev pub WhereAbsent : {T : Type 0} → ShelfState → ShelfState → List ℕ → Result T LoadError → Type 0
WhereAbsent old new name result =
    ¬ Rose old.load_faults new.load_faults → IfSome old.files (λ files. get files name ≡ None → IsErrOrMemory result Absent)

-- where no load fault rose, too long at each told file that is
abbrev pub WhereTooLong : {T : Type 0} → ShelfState → ShelfState → List ℕ → Result T LoadError → Type 0
WhereTooLong old new name result =
    ¬ Rose old.load_faults new.load_faults → IfSome old.files (λ files. IsOverlong (get files name) → IsErrOrMemory result TooLong)

-- a load changes no file and counts no store, and no count falls
pub record LoadKeeps (old new : ShelfState) : Type 0 where
  pub files : new.files ≡ old.files
  pub store_faults : new.store_faults ≡ old.store_faults
  pub load_faults : old.load_faults ≤ new.load_faults
  pub absences : old.absences ≤ new.absences
  pub overlongs : old.overlongs ≤ new.overlongs

-- the state after a load, exactly: each count rises by one at its own answer, a load that failed leaves its name, and all else stands
abbrev pub after_load : {T : Type 0} → ShelfState → List ℕ → Result T LoadError → ShelfState
after_load old name (Ok _) = old
after_load old name (Err Absent) = record old { absences = counted old.absences }
after_load old name (Err LoadFailed) = record old { load_faults = counted old.load_faults; failed = name }
after_load old name (Err TooLong) = record old { overlongs = counted old.overlongs }
after_load old name (Err LoadMemory) = old

-- ---- a store

-- told files have these bytes under the name, and are else as they were
abbrev pub Replaces : Option Files → Option Files → List ℕ → List ℕ → Type 0
Replaces None new name bytes = ⊤
Replaces (Some files) None name bytes = ⊥
Replaces (Some files) (Some after) name bytes = after ≡ insert files name bytes

-- under every other name told files hold what they held
abbrev pub KeepsOthers : Option Files → Option Files → List ℕ → Type 0
KeepsOthers None new name = ⊤
KeepsOthers (Some files) None name = ⊥
KeepsOthers (Some files) (Some after) name = (other : List ℕ) → other ≢ name → get after other ≡ get files other

-- what a store did: it stood, or a fault was counted, or memory ran out; a refusal leaves open what the name holds
abbrev pub StoreEnds : {T : Type 0} → ShelfState → ShelfState → List ℕ → List ℕ → Result T StoreError → Type 0
StoreEnds old new name bytes (Ok _) = Replaces old.files new.files name bytes
StoreEnds old new name bytes (Err StoreFailed) = (Rose old.store_faults new.store_faults) × KeepsOthers old.files new.files name
StoreEnds old new name bytes (Err StoreMemory) = KeepsOthers old.files new.files name

-- a store counts no load, and its own count doesn't fall
pub record StoreKeeps (old new : ShelfState) : Type 0 where
  pub failed : new.failed ≡ old.failed
  pub store_faults : old.store_faults ≤ new.store_faults
  pub load_faults : new.load_faults ≡ old.load_faults
  pub absences : new.absences ≡ old.absences
  pub overlongs : new.overlongs ≡ old.overlongs

-- the state after a store with these files, exactly: the count of faults rises by one at its own answer, and all else stands
abbrev pub after_store : {T : Type 0} → ShelfState → Option Files → Result T StoreError → ShelfState
after_store old files (Ok _) = record old { files = files }
after_store old files (Err StoreFailed) = record old { files = files; store_faults = counted old.store_faults }
after_store old files (Err StoreMemory) = record old { files = files }
