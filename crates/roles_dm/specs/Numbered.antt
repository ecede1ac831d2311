-- Triples by the numbers of their terms.
use Rattle.std.specs.Prelude.{List}
use Rattle.std.specs.List.{AllZip}
use Rattle.names_dm.specs.declared.term.Term.TheVariants as term
use Rattle.names_dm.specs.Statements.{Statement}
use Rattle.store_dm.specs.Graphs.{GraphValue}
use Rattle.store_dm.specs.declared.listing.Triad.{Triad}
use Rattle.roles_dm.specs.Numbers.{IsNumberOf}
use Rattle.roles_dm.specs.declared.numbered.Numbered.{Numbered}

-- the numbers of the triple's terms
pub record AreNumbersOf (g : GraphValue) (x : Statement) (n : Numbered) : Type 0 where
  pub subject : IsNumberOf g x.subject n.subject
  pub predicate : IsNumberOf g (term.Iri x.predicate) n.predicate
  pub object : IsNumberOf g x.object n.object

-- the numbers of the triples, place by place
abbrev pub AreNumbers : GraphValue → List Statement → List Numbered → Type 0
AreNumbers g G numbers = AllZip (AreNumbersOf g) G numbers

-- the numbers of a triple, of the triad that begins with its subject
abbrev pub of_triad : Triad → Numbered
of_triad x = record { subject = x.first; predicate = x.second; object = x.third }
