-- Triples as clauses see them (RDF 1.1 Concepts, section 3.1).
use Rattle.std.specs.Prelude.{ℕ, Bool, true, false, List}
use Rattle.names_dm.specs.declared.term.Term.{Term}
use Rattle.names_dm.specs.declared.term.Term.TheVariants as variant

pub record Statement : Type 0 where
  pub subject : Term
  pub predicate : List ℕ
  pub object : Term

abbrev pub is_literal : Term → Bool
is_literal (variant.Iri text) = false
is_literal (variant.Blank label) = false
is_literal (variant.Literal value) = true
