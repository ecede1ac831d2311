-- Solution mappings (SPARQL 1.1 Query Language, sections 18.1.8 and 18.3).
use Rattle.std.specs.Prelude.{◌≡◌, ◌⊎◌, ℕ, List, Option, Some, None}
use Rattle.names_dm.specs.declared.term.Term.{Term}

-- a term for each variable that is bound, and None for every other
abbrev pub Mapping : Type 0
Mapping = List ℕ → Option Term

-- one term, where there are two
abbrev pub SameIfBoth : Option Term → Option Term → Type 0
SameIfBoth None b = Unit {0}
SameIfBoth (Some a) None = Unit {0}
SameIfBoth (Some a) (Some b) = a ≡ b

-- they agree on every variable that both bind
abbrev pub Compatible : Mapping → Mapping → Type 0
Compatible m n = (x : List ℕ) → SameIfBoth (m x) (n x)

abbrev pub first_of : Option Term → Option Term → Option Term
first_of None b = b
first_of (Some a) b = Some a

-- it binds what either binds
abbrev pub union : Mapping → Mapping → Mapping
union m n x = first_of (m x) (n x)

-- they bind no variable both
abbrev pub AreDisjoint : Mapping → Mapping → Type 0
AreDisjoint m n = (x : List ℕ) → (m x ≡ None) ⊎ (n x ≡ None)
