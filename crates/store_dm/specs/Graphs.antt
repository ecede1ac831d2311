-- What a contract sees of a graph.
use Rattle.std.specs.Prelude.{◌≡◌, ◌↔◌, ◌⊎◌, ◌≤◌, ◌<◌, ◌*◌, ◌^◌, ℕ, List, Some, Contains, length}
use Rattle.std.specs.List.{AllZip}
use Rattle.names_dm.specs.declared.term.Term.{Term}
use Rattle.names_dm.specs.declared.term.Term.TheVariants.{Iri}
use Rattle.names_dm.specs.Statements.{Statement}
use Rattle.store_dm.specs.Terms.{AreOneToOne, term_at}
use Rattle.store_dm.specs.declared.listing.Triad.{Triad}

pub record GraphValue : Type 0 where
  pub terms : List Term
  -- each triple of numbers once
  pub triples : List Triad

-- the other two lists have the same triples, turned
pub record AreTurned (by_subject by_predicate by_object : List Triad) : Type 0 where
  pub predicates : (s p o : ℕ) → Contains by_predicate (record { first = p; second = o; third = s }) ↔ Contains by_subject (record { first = s; second = p; third = o })
  pub objects : (s p o : ℕ) → Contains by_object (record { first = o; second = s; third = p }) ↔ Contains by_subject (record { first = s; second = p; third = o })

-- the numbers are those of the triple's terms
abbrev pub Names : List Term → Triad → Statement → Type 0
Names terms n t = (term_at terms n.first ≡ Some t.subject) × (term_at terms n.second ≡ Some (Iri t.predicate)) × (term_at terms n.third ≡ Some t.object)

-- one of the numbers is the term's
abbrev pub Mentions : List Term → Triad → Term → Type 0
Mentions terms n x = (term_at terms n.first ≡ Some x) ⊎ ((term_at terms n.second ≡ Some x) ⊎ (term_at terms n.third ≡ Some x))

-- each term stands in a triple
abbrev pub AreUsed : List Term → List Triad → Type 0
AreUsed terms triads = (x : Term) → Contains terms x → (n : Triad) × Contains triads n × Mentions terms n x

-- each number is a term's
abbrev pub AreNamed : List Term → List Triad → Type 0
AreNamed terms triads = (n : Triad) → Contains triads n → (t : Statement) × Names terms n t

-- triples and their numbers, in order
pub record AreNumbered (terms : List Term) (triads : List Triad) (ts : List Statement) : Type 0 where
  pub named : AllZip (Names terms) triads ts
  pub used : AreUsed terms triads
  pub small : length terms ≤ 3 * length ts
  pub apart : AreOneToOne terms

pub record IsGraph (terms : List Term) (by_subject by_predicate by_object : List Triad) : Type 0 where
  pub turned : AreTurned by_subject by_predicate by_object
  pub used : AreUsed terms by_subject
  pub named : AreNamed terms by_subject
  pub small : length terms < 2 ^ 32
  pub apart : AreOneToOne terms

-- one of the triples is this
abbrev pub HasTriple : GraphValue → Statement → Type 0
HasTriple g t = (n : Triad) × Contains g.triples n × Names g.terms n t

-- the graph of some terms and triples of numbers
pub record IsGraphOf (terms : List Term) (triads : List Triad) (g : GraphValue) : Type 0 where
  pub terms_are : g.terms ≡ terms
  pub triples_are : (x : Triad) → Contains g.triples x ↔ Contains triads x

-- one of the triples holds the term
abbrev pub HoldsTerm : GraphValue → Term → Type 0
HoldsTerm g x = (n : Triad) × Contains g.triples n × Mentions g.terms n x

-- what holds of every graph: each term stands in a triple, each number is a term's, and no term has two numbers
pub record IsLawful (g : GraphValue) : Type 0 where
  pub used : AreUsed g.terms g.triples
  pub named : AreNamed g.terms g.triples
  pub apart : AreOneToOne g.terms
