-- What is answered of a whole list of tokens: its value, or its first fault.
use Rattle.std.specs.Prelude.{◌≡◌, List, [], ◌∷◌, Result, Ok, Err, Bool, true, ◌↔◌}
use Rattle.grammar_dm.specs.Part.{Part, Spells, Begins, Marks}

-- the second list is what is left of the first when some of its front is taken away
pub data Suffix {T : Type 0} : List T → List T → Type 0 where
  all_left : {ts : List T} → Suffix ts ts
  less_left : {t : T} {ts rest : List T} → Suffix ts rest → Suffix (t ∷ ts) rest

-- with its first token the tokens no longer begin the part; where there is none, they are no whole one
abbrev pub Stops : {T V : Type 0} → Part T V → List T → List T → Type 0
Stops {T} {V} part ts [] = (v : V) → Spells part ts [] v → ⊥
Stops part ts (t ∷ rest) = Begins part ts rest → ⊥

-- The first fault of ts is at the front of rest: all fronts of ts up to there begin the part.
pub record IsFirstFault {T V : Type 0} (part : Part T V) (ts rest : List T) : Type 0 where
  pub is_rest : Suffix ts rest
  pub begins : (mid : List T) → Suffix ts mid → Suffix mid rest → Begins part ts mid
  pub stops : Stops part ts rest

-- where reading failed: the tokens from there on, and whether a marked part stands there
pub record Fault (T : Type 0) : Type 0 where
  pub rest : List T
  pub marked : Bool

-- the only value of the whole list of tokens, or else its first fault
abbrev pub Judges : {T V : Type 0} → Part T V → List T → Result V (Fault T) → Type 0
Judges {T} {V} part ts (Ok v) = Spells part ts [] v × ((w : V) → Spells part ts [] w → w ≡ v)
Judges {T} {V} part ts (Err fault) =
    IsFirstFault part ts fault.rest × ((v : V) → Spells part ts [] v → ⊥) × (fault.marked ≡ true ↔ Marks part ts fault.rest)
