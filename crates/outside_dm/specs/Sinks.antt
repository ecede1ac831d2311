-- What contracts see of a sink, and what a put does.
use Rattle.std.specs.Prelude.{◌≡◌, ℕ, ◌≤◌, List, take, Option, Result, Ok, Err}
use Rattle.std.specs.Io.KnownBytes.{Appends}
use Rattle.outside_dm.specs.Counts.{Rose, counted}
use Rattle.outside_dm.specs.declared.sink.PutError.{PutError}
use Rattle.outside_dm.specs.declared.sink.PutError.TheVariants.{Failed, Memory}

-- the bytes where the sink tells them, and counts of faults and of wants of memory
pub record SinkState : Type 0 where
  pub held : Option (List ℕ)
  pub faults : ℕ
  pub shortages : ℕ

-- told bytes grow by a prefix of the text
abbrev pub AppendsPrefix : Option (List ℕ) → Option (List ℕ) → List ℕ → Type 0
AppendsPrefix old new text = (kept : ℕ) × Appends old new (take kept text)

-- what became of a text that was to be put, in one piece or in many: all of it was put, or at a refusal a prefix of it
abbrev pub Puts : {T : Type 0} → List ℕ → SinkState → SinkState → Result T PutError → Type 0
Puts text old new (Ok _) = Appends old.held new.held text
Puts text old new (Err Failed) = (Rose old.faults new.faults) × AppendsPrefix old.held new.held text
Puts text old new (Err Memory) = AppendsPrefix old.held new.held text

-- no count falls
pub record SinkKeeps (old new : SinkState) : Type 0 where
  pub faults : old.faults ≤ new.faults
  pub shortages : old.shortages ≤ new.shortages

-- one put counts its own want of memory, and nothing else is counted as one
abbrev pub CountsShortage : {T : Type 0} → SinkState → SinkState → Result T PutError → Type 0
CountsShortage old new (Ok _) = new.shortages ≡ old.shortages
CountsShortage old new (Err Failed) = new.shortages ≡ old.shortages
CountsShortage old new (Err Memory) = Rose old.shortages new.shortages

-- the counts of one put, exactly: each rises by one at its own answer, and stands else
abbrev pub CountsPut : {T : Type 0} → SinkState → SinkState → Result T PutError → Type 0
CountsPut old new (Ok _) = (new.faults ≡ old.faults) × (new.shortages ≡ old.shortages)
CountsPut old new (Err Failed) = (new.faults ≡ counted old.faults) × (new.shortages ≡ old.shortages)
CountsPut old new (Err Memory) = (new.faults ≡ old.faults) × (new.shortages ≡ counted old.shortages)
