-- Terms and triples of a graph by their numbers.
use Rattle.std.specs.Prelude.{◌≡◌, ◌≢◌, ◌⊎◌, ◌↔◌, ℕ, List, Some, Contains}
use Rattle.std.specs.Prelude.{MatchOption, Option}
use Rattle.members_dm.specs.Membership.{IsIn}
use Rattle.names_dm.specs.declared.term.Term.{Term}
use Rattle.names_dm.specs.Statements.{Statement}
use Rattle.facts_dm.specs.Facts.{word_term}
use Rattle.facts_dm.specs.declared.word.Word.TheVariants as word
use Rattle.store_dm.specs.Graphs.{GraphValue, HasTriple, HoldsTerm, IsLawful}
use Rattle.store_dm.specs.Terms.{term_at}
use Rattle.roles_dm.specs.declared.words.Words.{Words}
use Rattle.roles_dm.specs.declared.words.Datatypes.{Datatypes}
use Rattle.value_dm.specs.declared.kind.Kind.{Kind}
use Rattle.value_dm.specs.declared.kind.Kind.TheVariants as kind

-- the graph has exactly the triples of the list
pub record IsGraphOf (g : GraphValue) (G : List Statement) : Type 0 where
  pub lawful : IsLawful g
  pub same : (t : Statement) → HasTriple g t ↔ IsIn t G

-- the number of the term, or 0 where no triple holds it
abbrev pub IsNumberOf : GraphValue → Term → ℕ → Type 0
IsNumberOf g x n = ((n ≡ 0) × (¬ HoldsTerm g x)) ⊎ ((n ≢ 0) × (term_at g.terms n ≡ Some x))

-- the graph has the triple of these numbers
abbrev pub HasNumbers : GraphValue → ℕ → ℕ → ℕ → Type 0
HasNumbers g s p o = (s ≢ 0) × (p ≢ 0) × (o ≢ 0) × Contains g.triples (record { first = s; second = p; third = o })

-- there is one object of the subject and the predicate, and no other
abbrev pub IsOnlyObject : GraphValue → ℕ → ℕ → ℕ → Type 0
IsOnlyObject g s p o = HasNumbers g s p o × ((b : ℕ) → HasNumbers g s p b → b ≡ o)

-- the only object, or none where there are none or several
abbrev pub TellsOnly : GraphValue → ℕ → ℕ → Option ℕ → Type 0
TellsOnly g s p found = MatchOption found ((o : ℕ) → ¬ IsOnlyObject g s p o) (IsOnlyObject g s p)

-- the numbers of the words that graphs are written with
pub record AreWords (g : GraphValue) (w : Words) : Type 0 where
  pub rdf_type : IsNumberOf g (word_term word.RdfType) w.rdf_type
  pub domain : IsNumberOf g (word_term word.RdfsDomain) w.domain
  pub range : IsNumberOf g (word_term word.RdfsRange) w.range
  pub class : IsNumberOf g (word_term word.OwlClass) w.class
  pub datatype_property : IsNumberOf g (word_term word.OwlDatatypeProperty) w.datatype_property
  pub object_property : IsNumberOf g (word_term word.OwlObjectProperty) w.object_property
  pub different_from : IsNumberOf g (word_term word.OwlDifferentFrom) w.different_from

-- the number of a kind's datatype
abbrev pub datatype_number : Datatypes → Kind → ℕ
datatype_number d kind.Text = d.text
datatype_number d kind.Integer = d.integer
datatype_number d kind.Decimal = d.decimal
datatype_number d kind.Boolean = d.boolean
datatype_number d kind.Date = d.date
datatype_number d kind.Time = d.time
datatype_number d kind.DateTime = d.date_time
datatype_number d kind.Binary = d.binary

abbrev pub AreDatatypes : GraphValue → Datatypes → Type 0
AreDatatypes g d = (k : Kind) → IsNumberOf g (word_term (word.Datatype k)) (datatype_number d k)

-- a kind whose datatype has the number, if there is one
abbrev pub TellsKind : Datatypes → ℕ → Option Kind → Type 0
TellsKind d n found = MatchOption found ((k : Kind) → n ≢ datatype_number d k) (λ k. n ≡ datatype_number d k)
