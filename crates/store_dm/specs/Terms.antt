-- Terms and their numbers.
use Rattle.std.specs.Prelude.{◌≡◌, ◌⊎◌, ◌≤◌, ◌<◌, ◌+◌, length, ℕ, zero, suc, List, [], ◌∷◌, ◌++◌, Option, None, Some, slice_get}
use Rattle.names_dm.specs.declared.term.Term.{Term}

-- the term of a number, where 0 has none
abbrev pub term_at : List Term → ℕ → Option Term
term_at ts zero = None
term_at ts (suc k) = slice_get ts k

-- no term stands at two places
abbrev pub AreOneToOne : List Term → Type 0
AreOneToOne ts = (i j : ℕ) → i < length ts → slice_get ts i ≡ slice_get ts j → i ≡ j

-- the number is the term's, which goes last where it is new
pub record IsNumbered (old new : List Term) (t : Term) (n : ℕ) : Type 0 where
  pub number : term_at new n ≡ Some t
  pub grown : (new ≡ old) ⊎ (new ≡ old ++ t ∷ [])
  pub small : length new ≤ length old + 1
