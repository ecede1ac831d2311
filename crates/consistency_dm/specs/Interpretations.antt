-- Interpretations of triples, by which a list of triples can contradict itself. The meaning is this project's own, after OWL 2,
-- Direct Semantics, sections 2.3.2, 2.3.3 and 2.3.6, in outline, and says less or more than that in these: datatypes differ
-- where their IRIs do, so an integer is no decimal; whether a literal's text fits its datatype isn't looked at; rdfs:Literal asks
-- nothing; and a range outside the xsd, rdf and rdfs namespaces is a class, never a datatype.
use Rattle.std.specs.Prelude.{ℕ, ◌≡◌, ◌≢◌, ◌⊎◌, ◌||◌, List, if◌then◌else◌, nat_eq}
use Rattle.std.specs.List.{starts_with}
use Rattle.members_dm.specs.Membership.{IsIn}
use Rattle.names_dm.specs.Literals.{LiteralValue, xsd_string}
use Rattle.names_dm.specs.Namespaces.{rdf, rdfs, xsd}
use Rattle.names_dm.specs.Statements.{Statement}
use Rattle.names_dm.specs.declared.literal.LiteralType.{LiteralType}
use Rattle.names_dm.specs.declared.literal.LiteralType.TheVariants.{Plain, Typed, Tagged}
use Rattle.names_dm.specs.declared.term.Term.{Term}
use Rattle.names_dm.specs.declared.term.Term.TheVariants as term
use Rattle.facts_dm.specs.Facts.{Node, iri, blank, node_term}
use Rattle.facts_dm.specs.Vocabulary.{word_iri}
use Rattle.facts_dm.specs.declared.word.Word.TheVariants.{RdfType, RdfsDomain, RdfsRange, OwlDifferentFrom}

-- what a term stands for: an individual or a literal, and no individual is a literal. Nothing is known of an individual but
-- which one it is, so any finite set of individuals is as good as a set of nodes.
pub data Thing : Type 0 where
  an_individual : Node → Thing
  a_literal : LiteralValue → Thing

-- a finite set of individuals; and for IRIs and blank nodes an individual, a class, which is a set of individuals, and a
-- property, which is a set of pairs of an individual and an individual or literal
pub record Interpretation : Type 0 where
  pub individuals : List Node
  pub individual : Node → Node
  pub class : Node → List Node
  pub property : Node → List (Node × Thing)

-- the node stands in one of the triples, as its subject, its predicate or its object
abbrev pub StandsIn : Node → List Statement → Type 0
StandsIn n triples = (x : Statement) × IsIn x triples × ((x.subject ≡ node_term n) ⊎ ((term.Iri x.predicate ≡ node_term n) ⊎ (x.object ≡ node_term n)))

-- a literal, or one of the individuals
abbrev pub IsAmong : List Node → Thing → Type 0
IsAmong individuals (an_individual i) = IsIn i individuals
IsAmong individuals (a_literal value) = Unit {0}

-- of the nodes that stand in the triples, what the interpretation gives is made of its individuals and of literals; what it
-- gives of others plays no part
pub record IsInterpretationOf (triples : List Statement) (J : Interpretation) : Type 0 where
  pub individual : (n : Node) → StandsIn n triples → IsIn (J.individual n) J.individuals
  pub class : (n i : Node) → StandsIn n triples → IsIn i (J.class n) → IsIn i J.individuals
  pub property : (n i : Node) (b : Thing) → StandsIn n triples → IsIn {X = Node × Thing} (i, b) (J.property n) → IsIn i J.individuals × IsAmong J.individuals b

-- literals stand for themselves
abbrev pub meaning : Interpretation → Term → Thing
meaning J (term.Iri text) = an_individual (J.individual (iri text))
meaning J (term.Blank label) = an_individual (J.individual (blank label))
meaning J (term.Literal value) = a_literal value

-- a plain literal has the datatype xsd:string, and a tagged one none that is looked at here
abbrev pub HasDatatype : LiteralType → List ℕ → Type 0
HasDatatype Plain datatype = datatype ≡ xsd_string
HasDatatype (Typed own) datatype = datatype ≡ own
HasDatatype (Tagged tag) datatype = ⊥

abbrev pub IsLiteralOf : List ℕ → Thing → Type 0
IsLiteralOf datatype (an_individual i) = ⊥
IsLiteralOf datatype (a_literal value) = HasDatatype value.kind datatype

abbrev pub IsMember : List Node → Thing → Type 0
IsMember class (an_individual i) = IsIn i class
IsMember class (a_literal value) = ⊥

-- what the object of rdfs:range asks of the objects of the property: an IRI of the xsd namespace asks for literals of that
-- datatype, one of the rdf or the rdfs namespace and a literal ask nothing, and any other node asks for members of the class
pub data RangeForm : Type 0 where
  literals_of : List ℕ → RangeForm
  anything : RangeForm
  members_of : Node → RangeForm

abbrev pub range_form : Term → RangeForm
range_form (term.Iri text) =
    if starts_with nat_eq text xsd then literals_of text
    else (if starts_with nat_eq text rdf || starts_with nat_eq text rdfs then anything else members_of (iri text))
range_form (term.Blank label) = members_of (blank label)
range_form (term.Literal value) = anything

-- the range lets the individual or literal in
abbrev pub LetsIn : Interpretation → RangeForm → Thing → Type 0
LetsIn J (literals_of datatype) b = IsLiteralOf datatype b
LetsIn J anything b = Unit {0}
LetsIn J (members_of c) b = IsMember (J.class c) b

-- the interpretation satisfies the triple: the pair of subject and object is in the property, and besides, by the predicate
-- and where the object is no literal but for rdfs:range, that of the word
pub record Satisfies (J : Interpretation) (x : Statement) : Type 0 where
  pub pair : (n : Node) × (x.subject ≡ node_term n) × IsIn {X = Node × Thing} (J.individual n, meaning J x.object) (J.property (iri x.predicate))
  -- the individual of the subject is in the class
  pub type : x.predicate ≡ word_iri RdfType → (n c : Node) → x.subject ≡ node_term n → x.object ≡ node_term c → IsIn (J.individual n) (J.class c)
  -- the first of each pair of the property is in the class
  pub domain : x.predicate ≡ word_iri RdfsDomain → (p c : Node) → x.subject ≡ node_term p → x.object ≡ node_term c
      → (i : Node) (b : Thing) → IsIn {X = Node × Thing} (i, b) (J.property p) → IsIn i (J.class c)
  -- the second of each pair of the property is let in by the range
  pub range : x.predicate ≡ word_iri RdfsRange → (p : Node) → x.subject ≡ node_term p
      → (i : Node) (b : Thing) → IsIn {X = Node × Thing} (i, b) (J.property p) → LetsIn J (range_form x.object) b
  -- the individuals differ
  pub different : x.predicate ≡ word_iri OwlDifferentFrom → (n m : Node) → x.subject ≡ node_term n → x.object ≡ node_term m → J.individual n ≢ J.individual m

-- an interpretation satisfies every triple
abbrev pub HasInterpretation : List Statement → Type 0
HasInterpretation triples = (J : Interpretation) × IsInterpretationOf triples J × ((x : Statement) → IsIn x triples → Satisfies J x)
