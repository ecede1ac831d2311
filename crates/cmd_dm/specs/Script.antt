-- What a command does, as a script: its loads and questions in order, and then a refusal or what it writes. And what comes
-- of a script over files.
use Rattle.std.specs.Prelude.{◌≡◌, ◌⊎◌, ℕ, ◌≤◌, nat_lt, List, [], length, Option, Some, None, MatchBool}
use Rattle.std.specs.FinMap.{get}
use Rattle.outside_dm.specs.Shelves.{Files, longest}
use Rattle.outside_dm.specs.Storing.{Batch}
use Rattle.cmd_dm.specs.Questions.{Question, AnswerTo, Answers}
use Rattle.cmd_dm.specs.declared.status.File.{File}
use Rattle.cmd_dm.specs.declared.status.Reason.{Reason}
use Rattle.cmd_dm.specs.declared.status.Status.{Status}
use Rattle.cmd_dm.specs.declared.status.Status.TheVariants.{Ok as Done, Refused, Usage, Absent, TooLong}

-- what a command writes: files to the shelf, in order, and then a text to its output
pub record Work : Type 0 where
  pub files : Batch
  pub text : List ℕ

abbrev pub text_work : List ℕ → Work
text_work text = record { files = []; text = text }

-- load this file by its name and go on with its bytes; ask and go on with the answer; refuse; write
pub data Script : Type 0 where
  load : File → List ℕ → (List ℕ → Script) → Script
  ask : (question : Question) → (AnswerTo question → Script) → Script
  refuse : Reason → Script
  write : Work → Script

-- what comes of words
pub data Outcome : Type 0 where
  usage : Outcome
  refused : Reason → Outcome
  absent : File → Outcome
  too_long : File → Outcome
  done : Work → Outcome

-- the status of a run in which no device fails
abbrev pub status_of : Outcome → Status
status_of usage = Usage
status_of (refused reason) = Refused reason
status_of (absent file) = Absent file
status_of (too_long file) = TooLong file
status_of (done work) = Done

abbrev pub AfterLoad : File → Option (List ℕ) → (List ℕ → Type 0) → Outcome → Type 0
AfterLoad file None rest outcome = outcome ≡ absent file
AfterLoad file (Some bytes) rest outcome = MatchBool (nat_lt longest (length bytes)) (outcome ≡ too_long file) (rest bytes)

-- this comes of the script over these files
abbrev pub Comes : Files → Script → Outcome → Type 0
Comes files (load file name next) outcome = AfterLoad file (get files name) (λ bytes. Comes files (next bytes) outcome) outcome
Comes files (ask question next) outcome = (answer : AnswerTo question) × (Answers question answer × Comes files (next answer) outcome)
Comes files (refuse reason) outcome = outcome ≡ refused reason
Comes files (write work) outcome = outcome ≡ done work

abbrev pub PastLoad : Option (List ℕ) → (List ℕ → Type 0) → Type 0
PastLoad None rest = ⊥
PastLoad (Some bytes) rest = (length bytes ≤ longest) × rest bytes

-- over these files nothing decides the outcome before the file is loaded by this name
abbrev pub Reaches : Files → Script → File → List ℕ → Type 0
Reaches files (load file name next) at by =
    ((file ≡ at) × (name ≡ by)) ⊎ PastLoad (get files name) (λ bytes. Reaches files (next bytes) at by)
Reaches files (ask question next) at by = (answer : AnswerTo question) × (Answers question answer × Reaches files (next answer) at by)
Reaches files (refuse reason) at by = ⊥
Reaches files (write work) at by = ⊥

-- over some files, none of them too long, the file is loaded by this name
abbrev pub MayLoad : Script → File → List ℕ → Type 0
MayLoad (load file name next) at by =
    ((file ≡ at) × (name ≡ by)) ⊎ ((bytes : List ℕ) × ((length bytes ≤ longest) × MayLoad (next bytes) at by))
MayLoad (ask question next) at by = (answer : AnswerTo question) × (Answers question answer × MayLoad (next answer) at by)
MayLoad (refuse reason) at by = ⊥
MayLoad (write work) at by = ⊥

-- the script may load the file, by some name
abbrev pub Loads : Script → File → Type 0
Loads script file = (by : List ℕ) × MayLoad script file by
