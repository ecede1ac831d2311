-- Reading from left to right: a value and the tokens behind it, or where reading failed.
use Rattle.std.specs.Prelude.{ℕ, zero, suc, List, [], ◌∷◌, length, Option, Some, None, Result, Ok, Err, Bool, true, false, ◌==◌, ◌||◌}
use Rattle.grammar_dm.specs.Verdict.{Fault}

abbrev pub Answer : Type 0 → Type 0 → Type 0
Answer T V = Result (V × List T) (Fault T)

infixl 10 ◌>>=◌
abbrev pub ◌>>=◌ : {A B E : Type 0} → Result A E → (A → Result B E) → Result B E
(Ok x) >>= f = f x
(Err e) >>= f = Err e

-- a fault at the front of these tokens
abbrev pub fault_at : {T X : Type 0} → List T → Result X (Fault T)
fault_at ts = Err (record { rest = ts; marked = false })

abbrev pub took : {T V : Type 0} → Option V → T → List T → Answer T V
took None t ts = fault_at (t ∷ ts)
took (Some v) t ts = Ok (v, ts)

-- the first token, where the test gives it a value
abbrev pub token_at : {T V : Type 0} → (T → Option V) → List T → Answer T V
token_at test [] = fault_at []
token_at test (t ∷ ts) = took (test t) t ts

-- whether there is a first token, and it passes the test
abbrev pub starts : {T : Type 0} → (T → Bool) → List T → Bool
starts test [] = false
starts test (t ∷ ts) = test t

-- the repeats that begin with a token that passes the test, n at most
abbrev pub at_most : {T V : Type 0} → ℕ → (T → Bool) → (List T → Answer T V) → List T → Answer T (List V)
at_most zero test item ts = Ok ([], ts)
at_most (suc n) test item ts = elim (starts test ts) [
  | true ↦ (item ts >>= λ x. at_most n test item x.1 >>= λ xs. Ok (x.0 ∷ xs.0, xs.1))
  | false ↦ Ok ([], ts)
]

-- all of them
abbrev pub many_at : {T V : Type 0} → (T → Bool) → (List T → Answer T V) → List T → Answer T (List V)
many_at test item ts = at_most (length ts) test item ts

-- a part, where the first token passes the test
abbrev pub optional_at : {T V : Type 0} → (T → Bool) → (List T → Answer T V) → List T → Answer T (Option V)
optional_at test item ts = elim (starts test ts) [
  | true ↦ (item ts >>= λ x. Ok (Some x.0, x.1))
  | false ↦ Ok (None, ts)
]

-- another value
abbrev pub through : {T V W : Type 0} → (V → W) → Answer T V → Answer T W
through f read = read >>= λ x. Ok (f x.0, x.1)

-- a part whose value has no effect, where the first token passes the test
abbrev pub skip_optional_at : {T : Type 0} → (T → Bool) → (List T → Answer T (Unit {0})) → List T → Answer T (Unit {0})
skip_optional_at test item ts = elim (starts test ts) [
  | true ↦ item ts
  | false ↦ Ok (tt, ts)
]

-- all repeats, whose values have no effect
abbrev pub skip_many_at : {T V : Type 0} → (T → Bool) → (List T → Answer T V) → List T → Answer T (Unit {0})
skip_many_at test item ts = through (λ _. tt) (many_at test item ts)

-- a separator and a part
abbrev pub behind_at : {T V B : Type 0} → (T → Option B) → (List T → Answer T V) → List T → Answer T V
behind_at sep item ts = token_at sep ts >>= λ c. item c.1

-- a part, and the others that stand behind a separator
abbrev pub separated_at : {T V : Type 0} → (T → Bool) → (List T → Answer T V) → (List T → Answer T V) → List T → Answer T (List V)
separated_at test item behind ts = item ts >>= λ x. through (λ xs. x.0 ∷ xs) (many_at test behind x.1)

-- a fault at the very front is one at the marked part
abbrev pub marked_at : {T V : Type 0} → List T → Answer T V → Answer T V
marked_at ts (Ok x) = Ok x
marked_at ts (Err fault) = Err (record { rest = fault.rest; marked = fault.marked || length fault.rest == length ts })

-- all tokens are read
abbrev pub ended : {T V : Type 0} → V → List T → Result V (Fault T)
ended v [] = Ok v
ended v (t ∷ ts) = fault_at (t ∷ ts)

abbrev pub all_of : {T V : Type 0} → Answer T V → Result V (Fault T)
all_of read = read >>= λ x. ended x.0 x.1
