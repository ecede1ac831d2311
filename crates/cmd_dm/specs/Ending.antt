-- How a command ends: what each status means of the devices and of the outcome.
use Rattle.std.specs.Prelude.{◌≡◌, ◌⊎◌, ℕ, ◌≤◌, List, Option, Some, Result, Ok, Err}
use Rattle.std.specs.Io.KnownBytes.{Appends}
use Rattle.outside_dm.specs.Counts.{Rose}
use Rattle.outside_dm.specs.Shelves.{Files, ShelfState, LoadKeeps}
use Rattle.outside_dm.specs.Sinks.{SinkState, AppendsPrefix}
use Rattle.outside_dm.specs.Storing.{StoresAll, StoresFirst}
use Rattle.outside_dm.specs.declared.sink.PutError.{PutError}
use Rattle.outside_dm.specs.declared.sink.PutError.TheVariants.{Failed as PutFailed, Memory as PutMemory}
use Rattle.outside_dm.specs.declared.shelf.StoreError.{StoreError}
use Rattle.outside_dm.specs.declared.shelf.StoreError.TheVariants.{Failed as StoreFailed, Memory as StoreMemory}
use Rattle.cmd_dm.specs.Script.{Script, Work, Outcome, refused, absent, too_long, done, Comes, Reaches, MayLoad, Loads}
use Rattle.cmd_dm.specs.declared.status.Status.{Status}
use Rattle.cmd_dm.specs.declared.status.Status.TheVariants.{Ok as Done, Refused, Usage, Absent, ReadFault, WriteFault, Memory, TooLong}

-- which devices a command writes to
pub data Target : Type 0 where
  to_output : Target
  to_shelf : Target
  to_both : Target

-- a command leaves alone the device that it doesn't write to, also where the device tells nothing: no file and no count of
-- stores changed; the output is as it was
abbrev pub Spares : Target → ShelfState → ShelfState → SinkState → SinkState → Type 0
Spares to_output old new before after = (new.files ≡ old.files) × (new.store_faults ≡ old.store_faults)
Spares to_shelf old new before after = after ≡ before
Spares to_both old new before after = Unit {0}

-- all of the work was written
pub record Wrote (work : Work) (old new : ShelfState) (before after : SinkState) : Type 0 where
  pub files : StoresAll work.files old.files new.files
  pub text : Appends before.held after.held work.text

-- the work was cut off: among its files, and then nothing was put; or, with all files stored, in its text
abbrev pub WroteSome : Work → ShelfState → ShelfState → SinkState → SinkState → Type 0
WroteSome work old new before after =
    (StoresFirst work.files old.files new.files × (after.held ≡ before.held))
    ⊎ (StoresAll work.files old.files new.files × AppendsPrefix before.held after.held work.text)

-- nothing was written, also where the devices tell nothing: no file and no count of stores changed, and the output is as it was
pub record Untouched (old new : ShelfState) (before after : SinkState) : Type 0 where
  pub files : new.files ≡ old.files
  pub store_faults : new.store_faults ≡ old.store_faults
  pub output : after ≡ before

-- a fault was counted at a device that the command writes to
abbrev pub WriteFaultRose : Target → ShelfState → ShelfState → SinkState → SinkState → Type 0
WriteFaultRose to_output old new before after = Rose before.faults after.faults
WriteFaultRose to_shelf old new before after = Rose old.store_faults new.store_faults
WriteFaultRose to_both old new before after = Rose old.store_faults new.store_faults ⊎ Rose before.faults after.faults

-- where the shelf tells its files, this comes of the script over them
abbrev pub ToldComes : Script → ShelfState → Outcome → Type 0
ToldComes script old outcome = (files : Files) → old.files ≡ Some files → Comes files script outcome

-- where the shelf tells its files, the script comes to work of which this is true
abbrev pub ToldWork : Script → ShelfState → (Work → Type 0) → Type 0
ToldWork script old wrote = (files : Files) → old.files ≡ Some files → (work : Work) × (Comes files script (done work) × wrote work)

-- what each status means
abbrev pub Means : Target → Script → ShelfState → ShelfState → SinkState → SinkState → Status → Type 0
Means target script old new before after Done = ToldWork script old (λ work. Wrote work old new before after)
Means target script old new before after (Refused reason) = Untouched old new before after × ToldComes script old (refused reason)
Means target script old new before after Usage = ⊥
Means target script old new before after (Absent file) =
    Untouched old new before after × Rose old.absences new.absences × ToldComes script old (absent file) × Loads script file
Means target script old new before after (ReadFault file) =
    Untouched old new before after × Rose old.load_faults new.load_faults × MayLoad script file new.failed
    × ((files : Files) → old.files ≡ Some files → Reaches files script file new.failed)
Means target script old new before after WriteFault =
    WriteFaultRose target old new before after × ToldWork script old (λ work. WroteSome work old new before after)
Means target script old new before after Memory =
    Untouched old new before after ⊎ ToldWork script old (λ work. WroteSome work old new before after)
Means target script old new before after (TooLong file) =
    Untouched old new before after × Rose old.overlongs new.overlongs × ToldComes script old (too_long file) × Loads script file

-- told bytes were kept, and maybe others put behind them
abbrev pub Grows : Option (List ℕ) → Option (List ℕ) → Type 0
Grows old new = (text : List ℕ) × Appends old new text

-- no count fell, and the output grew if it changed
pub record CountsKept (old new : ShelfState) (before after : SinkState) : Type 0 where
  pub load_faults : old.load_faults ≤ new.load_faults
  pub store_faults : old.store_faults ≤ new.store_faults
  pub absences : old.absences ≤ new.absences
  pub overlongs : old.overlongs ≤ new.overlongs
  pub faults : before.faults ≤ after.faults
  pub shortages : before.shortages ≤ after.shortages
  pub grown : Grows before.held after.held

-- a command with this script ended with this status
pub record Ends (target : Target) (script : Script) (old new : ShelfState) (before after : SinkState) (status : Status) : Type 0 where
  pub means : Means target script old new before after status
  pub spares : Spares target old new before after
  pub counts : CountsKept old new before after

-- no device failed
pub record NoFault (old new : ShelfState) (before after : SinkState) : Type 0 where
  pub loads : ¬ Rose old.load_faults new.load_faults
  pub stores : ¬ Rose old.store_faults new.store_faults
  pub puts : ¬ Rose before.faults after.faults

-- ---- on the way

-- steps that went well have led from a script to what is left of it
pub record Leads (from : Script) (old : ShelfState) (to : Script) (new : ShelfState) : Type 0 where
  pub kept : LoadKeeps old new
  pub comes : (files : Files) → old.files ≡ Some files → (outcome : Outcome) → Comes files to outcome → Comes files from outcome
  pub reaches : (files : Files) → old.files ≡ Some files → (at : _) (by : List ℕ) → Reaches files to at by → Reaches files from at by
  pub may_load : (at : _) (by : List ℕ) → MayLoad to at by → MayLoad from at by

-- what a step did, which its node puts before whatever is next: it led there, or the run ends here and nothing is written
abbrev pub Step : {A : Type 0} → ((A → Script) → Script) → ShelfState → ShelfState → Result A Status → Type 0
Step node old new (Ok value) = (next : _ → Script) → Leads (node next) old (next value) new
Step node old new (Err status) = (target : Target) (next : _ → Script) (out : SinkState) → Ends target (node next) old new out out status

-- a step that loads nothing
abbrev pub PureStep : {A : Type 0} → ((A → Script) → Script) → Result A Status → Type 0
PureStep node result = (state : ShelfState) → Step node state state result

-- the status of a command's result
abbrev pub result_status : {A : Type 0} → Result A Status → Status
result_status (Ok _) = Done
result_status (Err status) = status

-- the status that the result of a put leads to
abbrev pub put_status : {A : Type 0} → Result A PutError → Status
put_status (Ok _) = Done
put_status (Err PutFailed) = WriteFault
put_status (Err PutMemory) = Memory

-- the status that the result of a store leads to
abbrev pub store_status : {A : Type 0} → Result A StoreError → Status
store_status (Ok _) = Done
store_status (Err StoreFailed) = WriteFault
store_status (Err StoreMemory) = Memory
