-- What the texts of a triple are by their types: of their grammar (RDF 1.1 N-Triples, section 7), and of characters.
use Rattle.std.specs.Prelude.{◌≡◌, ℕ, List, true, false}
use Rattle.names_dm.specs.Literals.{is_string_type}
use Rattle.names_dm.specs.Statements.{Statement}
use Rattle.names_dm.specs.Terminals.{is_iri, is_label, is_tag}
use Rattle.names_dm.specs.declared.literal.LiteralType.{LiteralType}
use Rattle.names_dm.specs.declared.literal.LiteralType.TheVariants.{Plain, Typed, Tagged}
use Rattle.names_dm.specs.declared.term.Term.{Term}
use Rattle.names_dm.specs.declared.term.Term.TheVariants as term
use Rattle.value_dm.specs.Texts.{IsText}

abbrev pub IsIri : List ℕ → Type 0
IsIri iri = (is_iri iri ≡ true) × IsText iri

abbrev pub IsLabel : List ℕ → Type 0
IsLabel label = (is_label label ≡ true) × IsText label

abbrev pub IsTag : List ℕ → Type 0
IsTag tag = (is_tag tag ≡ true) × IsText tag

abbrev pub IsLawfulType : LiteralType → Type 0
IsLawfulType Plain = Unit {0}
IsLawfulType (Typed datatype) = IsIri datatype × (is_string_type (Typed datatype) ≡ false)
IsLawfulType (Tagged tag) = IsTag tag

-- a subject is no literal
abbrev pub IsLawfulNode : Term → Type 0
IsLawfulNode (term.Iri iri) = IsIri iri
IsLawfulNode (term.Blank label) = IsLabel label
IsLawfulNode (term.Literal literal) = ⊥

abbrev pub IsLawfulTerm : Term → Type 0
IsLawfulTerm (term.Iri iri) = IsIri iri
IsLawfulTerm (term.Blank label) = IsLabel label
IsLawfulTerm (term.Literal literal) = IsText literal.text × IsLawfulType literal.kind

pub record IsLawful (t : Statement) : Type 0 where
  pub subject : IsLawfulNode t.subject
  pub predicate : IsIri t.predicate
  pub object : IsLawfulTerm t.object
