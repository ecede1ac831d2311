-- What the program does with the words of its command line, and the status that it exits with.
use Rattle.std.specs.Prelude.{◌≡◌, ◌≢◌, ◌⊎◌, ◌↔◌, ℕ, List, drop, map, Some, None, Result, Ok, Err, string_bytes}
use Rattle.std.specs.Vec.Iter.{into_iter_items}
use Rattle.std.specs.declared.vec.IntoIter.{IntoIter}
use Rattle.std.specs.declared.string.String.{String}
use Rattle.std.specs.IoError.{error_kind}
use Rattle.std.specs.declared.io.Error.{Error}
use Rattle.std.specs.declared.io.ErrorKind.{ErrorKind}
use Rattle.std.specs.declared.io.ErrorKind.TheVariants.{OutOfMemory}
use Rattle.outside_dm.specs.Shelves.{ShelfState}
use Rattle.outside_dm.specs.Sinks.{SinkState}
use Rattle.cmd_dm.specs.Ending.{Ends}
use Rattle.cmd_dm.specs.FaultLine.{Tells}
use Rattle.cmd_dm.specs.Plans.{plan_of}
use Rattle.cmd_dm.specs.Words.{command_of}
use Rattle.cmd_dm.specs.declared.status.Status.{Status}
use Rattle.cmd_dm.specs.declared.status.Status.TheVariants.{Usage, Memory}

-- what is seen of the three devices: the shelf, the output, and what the line is told to
pub record Devices : Type 0 where
  pub shelf : ShelfState
  pub output : SinkState
  pub line : SinkState

-- the command of these words was run, with this status
pub record Ran (words : List (List ℕ)) (old new : Devices) (status : Status) : Type 0 where
  pub usage : (status ≡ Usage) ↔ (command_of words ≡ None)
  pub ends : (command : _) → command_of words ≡ Some command →
      Ends (plan_of command).target (plan_of command).script old.shelf new.shelf old.output new.output status
  pub line : Tells status old.line new.line

-- words that can't be taken: memory ran out, or else one isn't UTF-8
pub record Untaken (kind : ErrorKind) (status : Status) : Type 0 where
  pub memory : kind ≡ OutOfMemory → status ≡ Memory
  pub other : kind ≢ OutOfMemory → status ≡ Usage

-- the words as the system gives them, or the kind of its error
abbrev pub words_of : {A : Type 0} → Result (IntoIter (String A) A) Error → Result (List (List ℕ)) ErrorKind
words_of (Ok words) = Ok (map string_bytes (into_iter_items words))
words_of (Err error) = Err (error_kind error)

-- what the program does: its own name, which stands first, is no word of the command; where the words can't be taken, no device
-- is touched
abbrev pub RunsWords : Result (List (List ℕ)) ErrorKind → Devices → Devices → Status → Type 0
RunsWords (Ok words) old new status = Ran (drop 1 words) old new status ⊎ ((status ≡ Memory) × (new ≡ old))
RunsWords (Err kind) old new status = Untaken kind status × (new ≡ old)
