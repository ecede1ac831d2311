-- Texts that are put piece by piece.
use Rattle.std.specs.Prelude.{ℕ, List, Result, Ok, Err, ⊤}
use Rattle.std.specs.Io.KnownBytes.{Appends}
use Rattle.outside_dm.specs.Counts.{Rose}
use Rattle.outside_dm.specs.Sinks.{SinkState, SinkKeeps, Puts}
use Rattle.outside_dm.specs.declared.sink.PutError.{PutError}
use Rattle.outside_dm.specs.declared.sink.PutError.TheVariants.{Failed, Memory}

-- a writer put this text, or at a refusal a prefix of it; it may have run short of memory itself
pub record Writes (text : List ℕ) (old new : SinkState) (result : Result (Unit {0}) PutError) : Type 0 where
  pub puts : Puts text old new result
  pub kept : SinkKeeps old new

-- so far this text has been put
pub record Written (text : List ℕ) (old new : SinkState) : Type 0 where
  pub all : Appends old.held new.held text
  pub kept : SinkKeeps old new

-- the sink ran short of memory
abbrev pub RanShort : SinkState → SinkState → Result (Unit {0}) PutError → Type 0
RanShort old new (Ok _) = ⊤
RanShort old new (Err Failed) = ⊤
RanShort old new (Err Memory) = Rose old.shortages new.shortages

-- the same of a writer that takes no memory itself: where memory is wanting, it is the sink's
pub record Passes (text : List ℕ) (old new : SinkState) (result : Result (Unit {0}) PutError) : Type 0 where
  pub writes : Writes text old new result
  pub short : RanShort old new result
