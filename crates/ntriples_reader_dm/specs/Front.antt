-- The longest part of a line at the front of a text.
use Rattle.std.specs.Prelude.{ℕ, ◌≤◌, List, length, Option, Some, None, chars}
use Rattle.std.specs.Borrow.{Bor}
use Rattle.names_dm.specs.Literals.{LiteralValue}
use Rattle.names_dm.specs.declared.term.Term.{Term}
use Rattle.names_dm.specs.declared.term.Term.TheVariants as terms
use Rattle.ntriples_reader_dm.specs.Part.{Part}

-- the part stands in ts before rest, and nowhere in ts a longer one
pub record IsLongest {V : Type 0} (part : Part V) (ts rest : List ℕ) (v : V) : Type 0 where
  pub stands : part ts rest v
  pub longest : (others : List ℕ) (w : V) → part ts others w → length rest ≤ length others

-- the longest one that stands at the front, and the text behind it, if one stands there
abbrev pub IsFront : {V : Type 0} → Part V → List ℕ → Option (V × List ℕ) → Type 0
IsFront part ts (Some x) = IsLongest part ts x.1 x.0
IsFront {V} part ts None = (rest : List ℕ) (v : V) → part ts rest v → ⊥

abbrev pub iri_seen : Option (List ℕ × Bor (List ℕ)) → Option (List ℕ × List ℕ)
iri_seen None = None
iri_seen (Some x) = Some (x.0, chars x.1.now)

abbrev pub literal_seen : Option (LiteralValue × Bor (List ℕ)) → Option (LiteralValue × List ℕ)
literal_seen None = None
literal_seen (Some x) = Some (x.0, chars x.1.now)

-- the same as a term
abbrev pub as_term : Option (LiteralValue × List ℕ) → Option (Term × List ℕ)
as_term None = None
as_term (Some x) = Some (terms.Literal x.0, x.1)
