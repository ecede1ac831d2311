-- Parts of grammars over tokens T, each with the values V that it gives. A grammar is written once, as a
-- part; what it is to be the part and what it is to begin it are read off that one text.
-- Notation: ISO/IEC 14977 (EBNF): sequence, choice, [ option ], { repetition }.
use Rattle.std.specs.Prelude.{◌≡◌, ℕ, List, [], ◌∷◌, ◌++◌, ◌⊎◌, Option, Some, None, IsSome}

pub data Part (T : Type 0) : Type 0 → Type 1 where
  -- one token to which the test gives a value
  token : {V : Type 0} → (T → Option V) → Part T V
  -- no token, with this value
  give : {V : Type 0} → V → Part T V
  -- a part, and behind it a part that may depend on its value
  then : {A V : Type 0} → Part T A → (A → Part T V) → Part T V
  -- one of two alternatives
  or : {V : Type 0} → Part T V → Part T V → Part T V
  -- a part, or no token
  optional : {V : Type 0} → Part T V → Part T (Option V)
  -- some repeats of a part, or none
  repeated : {V : Type 0} → Part T V → Part T (List V)
  -- one of countably many alternatives, as those of a rule that nests: the n-th nests at most n deep
  levels : {V : Type 0} → (ℕ → Part T V) → Part T V
  -- a part whose place is asked for
  marked : {V : Type 0} → Part T V → Part T V

-- Each relation below speaks of the tokens of ts that stand before rest, so ts is they, followed by rest.

pub data Repeats {T V : Type 0} (Whole : List T → List T → V → Type 0) : List T → List T → List V → Type 0 where
  no_repeat : {ts : List T} → Repeats Whole ts ts []
  one_more : {ts mid rest : List T} {v : V} {vs : List V} → Whole ts mid v → Repeats Whole mid rest vs → Repeats Whole ts rest (v ∷ vs)

-- the tokens are the whole part, with this value
abbrev pub Spells : {T V : Type 0} → Part T V → List T → List T → V → Type 0
Spells {T} (token test) ts rest v = (t : T) × (ts ≡ t ∷ rest) × (test t ≡ Some v)
Spells (give w) ts rest v = (ts ≡ rest) × (v ≡ w)
Spells {T} (then {A} a b) ts rest v = (mid : List T) × (x : A) × Spells a ts mid x × Spells (b x) mid rest v
Spells (or a b) ts rest v = Spells a ts rest v ⊎ Spells b ts rest v
Spells (optional {V} a) ts rest v = ((x : V) × Spells a ts rest x × (v ≡ Some x)) ⊎ ((ts ≡ rest) × (v ≡ None))
Spells (repeated a) ts rest v = Repeats (Spells a) ts rest v
Spells (levels p) ts rest v = (n : ℕ) × Spells (p n) ts rest v
Spells (marked a) ts rest v = Spells a ts rest v

-- The tokens begin the part. None do; a token begins itself; a sequence is begun by what begins its first
-- part, and by a whole first part and what begins the second; a choice by what begins an alternative;
-- an option by what begins the part; repeats by some whole ones, or none, and what begins one more.
abbrev pub Begins : {T V : Type 0} → Part T V → List T → List T → Type 0
Begins {T} (token test) ts rest = (ts ≡ rest) ⊎ ((t : T) × (ts ≡ t ∷ rest) × IsSome (test t))
Begins (give w) ts rest = ts ≡ rest
Begins {T} (then {A} a b) ts rest = Begins a ts rest ⊎ ((mid : List T) × (x : A) × Spells a ts mid x × Begins (b x) mid rest)
Begins (or a b) ts rest = Begins a ts rest ⊎ Begins b ts rest
Begins (optional a) ts rest = Begins a ts rest
Begins {T} (repeated {V} a) ts rest = (mid : List T) × (vs : List V) × Repeats (Spells a) ts mid vs × Begins a mid rest
Begins (levels p) ts rest = (n : ℕ) × Begins (p n) ts rest
Begins (marked a) ts rest = Begins a ts rest

-- The tokens lead up to a place where a marked part stands, by the same cases.
abbrev pub Marks : {T V : Type 0} → Part T V → List T → List T → Type 0
Marks (token test) ts rest = ⊥
Marks (give w) ts rest = ⊥
Marks {T} (then {A} a b) ts rest = Marks a ts rest ⊎ ((mid : List T) × (x : A) × Spells a ts mid x × Marks (b x) mid rest)
Marks (or a b) ts rest = Marks a ts rest ⊎ Marks b ts rest
Marks (optional a) ts rest = Marks a ts rest
Marks {T} (repeated {V} a) ts rest = (mid : List T) × (vs : List V) × Repeats (Spells a) ts mid vs × Marks a mid rest
Marks (levels p) ts rest = (n : ℕ) × Marks (p n) ts rest
Marks (marked a) ts rest = (ts ≡ rest) ⊎ Marks a ts rest

-- no tokens are the part, and none but the empty list begins it
abbrev pub never : {T V : Type 0} → Part T V
never = token (λ t. None)

-- a part whose value has no effect
abbrev pub skip : {T V : Type 0} → Part T V → Part T (Unit {0})
skip a = then a (λ _. give tt)

-- { part separator } part
abbrev pub ended_by : {T A B : Type 0} → Part T A → Part T B → Part T (List A)
ended_by a sep = then (repeated (then a (λ x. then sep (λ _. give x)))) (λ xs. then a (λ x. give (xs ++ x ∷ [])))

-- part { separator part }
abbrev pub separated_by : {T A B : Type 0} → Part T A → Part T B → Part T (List A)
separated_by a sep = then a (λ x. then (repeated (then sep (λ _. a))) (λ xs. give (x ∷ xs)))
