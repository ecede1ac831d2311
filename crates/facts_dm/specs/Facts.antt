-- What one triple of a database's graph says, and the triples that say it.
use Rattle.std.specs.Prelude.{ℕ, ◌++◌, List, [], ◌∷◌, codes}
use Rattle.value_dm.specs.declared.kind.Kind.{Kind}
use Rattle.names_dm.specs.declared.names.ColumnName.{ColumnName}
use Rattle.names_dm.specs.declared.names.RefName.{RefName}
use Rattle.names_dm.specs.declared.names.RelName.{RelName}
use Rattle.names_dm.specs.declared.term.Term.{Term}
use Rattle.names_dm.specs.declared.term.Term.TheVariants as term
use Rattle.names_dm.specs.IriSafe.{safe_form}
use Rattle.names_dm.specs.Names.{column_iri, number_sign, ref_iri, rel_iri, table_iri}
use Rattle.names_dm.specs.Statements.{Statement}
use Rattle.facts_dm.specs.declared.word.Word.{Word}
use Rattle.facts_dm.specs.declared.word.Word.TheVariants.{RdfType, RdfsDomain, RdfsRange, OwlDifferentFrom, OwlClass, OwlDatatypeProperty, OwlObjectProperty, Datatype}
use Rattle.facts_dm.specs.Vocabulary.{literal_type, word_iri}

-- what can be a subject
pub data Node : Type 0 where
  iri : List ℕ → Node
  blank : List ℕ → Node

abbrev pub node_term : Node → Term
node_term (iri text) = term.Iri text
node_term (blank label) = term.Blank label

-- a value as a literal has it: its kind and its lexical form
pub record KindText : Type 0 where
  pub kind : Kind
  pub text : List ℕ

abbrev pub literal_term : KindText → Term
literal_term value = term.Literal (record { text = value.text; kind = literal_type value.kind })

-- a reference or a relation
pub data Link : Type 0 where
  ref_link : RefName → Link
  rel_link : RelName → Link

-- A reference without columns has no IRI. It is given a text here that no maker gives, so that the laws hold of all links.
abbrev pub ref_link_iri : List ℕ → List ℕ → List (List ℕ) → List ℕ
ref_link_iri base table [] = base ++ (safe_form table ++ number_sign ∷ codes "=")
ref_link_iri base table (column ∷ columns) = ref_iri base record { table = table; columns = column ∷ columns }

abbrev pub link_iri : List ℕ → Link → List ℕ
link_iri base (ref_link name) = ref_link_iri base name.table name.columns
link_iri base (rel_link name) = rel_iri base name

-- what one triple says
pub data Fact : Type 0 where
  -- the table is a class
  a_class : List ℕ → Fact
  -- the column is a property with literals
  a_property : ColumnName → Fact
  -- the reference or relation is a property with nodes
  an_object : Link → Fact
  -- what has the property of this IRI is of the table; by its IRI, since a column and a reference can share one
  a_domain : List ℕ → List ℕ → Fact
  -- the column's literals are of the kind
  a_range : ColumnName → Kind → Fact
  -- the link leads to nodes of the table
  a_link_range : Link → List ℕ → Fact
  -- the node is one of the table's
  a_node : Node → List ℕ → Fact
  -- the node has the value in the column
  a_cell : Node → ColumnName → KindText → Fact
  -- the link leads from the node to the node
  a_link : Node → Link → Node → Fact
  -- the node is marked as different from itself
  a_mark : Node → Fact

abbrev pub word_term : Word → Term
word_term w = term.Iri (word_iri w)

abbrev pub table_term : List ℕ → List ℕ → Term
table_term base table = term.Iri (table_iri base table)

-- the triple that says it
abbrev pub triple_of : List ℕ → Fact → Statement
triple_of base (a_class t) = record { subject = table_term base t; predicate = word_iri RdfType; object = word_term OwlClass }
triple_of base (a_property c) =
    record { subject = term.Iri (column_iri base c); predicate = word_iri RdfType; object = word_term OwlDatatypeProperty }
triple_of base (an_object l) =
    record { subject = term.Iri (link_iri base l); predicate = word_iri RdfType; object = word_term OwlObjectProperty }
triple_of base (a_domain i t) = record { subject = term.Iri i; predicate = word_iri RdfsDomain; object = table_term base t }
triple_of base (a_range c k) =
    record { subject = term.Iri (column_iri base c); predicate = word_iri RdfsRange; object = word_term (Datatype k) }
triple_of base (a_link_range l t) =
    record { subject = term.Iri (link_iri base l); predicate = word_iri RdfsRange; object = table_term base t }
triple_of base (a_node n t) = record { subject = node_term n; predicate = word_iri RdfType; object = table_term base t }
triple_of base (a_cell n c v) = record { subject = node_term n; predicate = column_iri base c; object = literal_term v }
triple_of base (a_link n l m) = record { subject = node_term n; predicate = link_iri base l; object = node_term m }
triple_of base (a_mark n) = record { subject = node_term n; predicate = word_iri OwlDifferentFrom; object = node_term n }
