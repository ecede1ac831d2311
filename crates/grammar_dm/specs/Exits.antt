-- What a function that reads tokens returned, against what reading them gives.
use Rattle.std.specs.Prelude.{◌≡◌, List, Result, Ok, Err}
use Rattle.grammar_dm.specs.declared.read_error.ReadError.{ReadError}
use Rattle.grammar_dm.specs.declared.read_error.ReadError.TheVariants.{Memory, At}
use Rattle.grammar_dm.specs.Part.{Part}
use Rattle.grammar_dm.specs.Verdict.{Fault, Judges}

-- it is the fault, unless memory ran out
abbrev pub Fails : {T Y : Type 0} → ReadError T → Result Y (Fault T) → Type 0
Fails Memory read = Unit {0}
Fails (At rest marked) read = read ≡ Err (record { rest = rest.now; marked = marked })

-- its value, seen by the view, is the one read, or its error is the fault
abbrev pub Gives : {X Y T : Type 0} → (X → Y) → Result X (ReadError T) → Result Y (Fault T) → Type 0
Gives view (Ok x) read = read ≡ Ok (view x)
Gives view (Err e) read = Fails e read

-- the verdict on all tokens, unless memory ran out
abbrev pub IsJudged : {T V : Type 0} → Part T V → List T → Result V (ReadError T) → Type 0
IsJudged part ts (Ok v) = Judges part ts (Ok v)
IsJudged part ts (Err Memory) = Unit {0}
IsJudged part ts (Err (At rest marked)) = Judges part ts (Err (record { rest = rest.now; marked = marked }))
