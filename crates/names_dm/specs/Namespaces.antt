-- The namespaces of the vocabularies, and which texts can be a base.
use Rattle.std.specs.Prelude.{ℕ, ◌||◌, ◌&&◌, Bool, true, false, not, List, [], ◌∷◌, nat_eq, codes}
use Rattle.std.specs.List.{list_any, starts_with}
use Rattle.names_dm.specs.Terminals.{is_iri}

-- both in RDF Schema 1.1, section 1
abbrev pub rdf : List ℕ
rdf = codes "http://www.w3.org/1999/02/22-rdf-syntax-ns#"

abbrev pub rdfs : List ℕ
rdfs = codes "http://www.w3.org/2000/01/rdf-schema#"

-- all four in OWL 2, Structural Specification and Functional-Style Syntax, section 2.4
abbrev pub owl : List ℕ
owl = codes "http://www.w3.org/2002/07/owl#"

abbrev pub xsd : List ℕ
xsd = codes "http://www.w3.org/2001/XMLSchema#"

abbrev pub namespaces : List (List ℕ)
namespaces = rdf ∷ rdfs ∷ owl ∷ xsd ∷ []

abbrev pub is_empty_text : List ℕ → Bool
is_empty_text [] = true
is_empty_text (c ∷ cs) = false

-- one of the texts begins with the other
abbrev pub one_begins : List ℕ → List ℕ → Bool
one_begins a b = starts_with nat_eq a b || starts_with nat_eq b a

-- the text can stand before the names of a database: it is an IRI's, not empty, and neither it nor a namespace begins with
-- the other
unfoldable pub is_base : List ℕ → Bool
is_base text = not (is_empty_text text) && is_iri text && not (list_any (one_begins text) namespaces)
