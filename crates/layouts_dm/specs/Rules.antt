-- The rules by which a triple of a graph is explained by the graph, and what is read off an accepted graph. All names that a
-- rule speaks of are good ones.
use Rattle.std.specs.Prelude.{ℕ, ◌≡◌, ◌≢◌, ◌⊎◌, ◌↔◌, List, Some, map}
use Rattle.value_dm.specs.declared.kind.Kind.{Kind}
use Rattle.members_dm.specs.Membership.{IsIn, NoRepeats}
use Rattle.schema_dm.specs.Naming.{Name}
use Rattle.names_dm.specs.declared.names.RefName.{RefName}
use Rattle.names_dm.specs.declared.names.RelName.{RelName}
use Rattle.names_dm.specs.declared.term.Term.{Term}
use Rattle.names_dm.specs.declared.term.Term.TheVariants as term
use Rattle.names_dm.specs.Names.{table_iri}
use Rattle.names_dm.specs.Statements.{Statement}
use Rattle.facts_dm.specs.declared.word.Word.TheVariants.{RdfsDomain, RdfsRange, Datatype}
use Rattle.facts_dm.specs.Vocabulary.{word_iri}
use Rattle.facts_dm.specs.Facts.{Fact, KindText, Link, Node, a_cell, a_class, a_domain, a_link, a_link_range, a_mark, a_node, a_property, a_range, an_object, link_iri, ref_link, rel_link, triple_of}
use Rattle.layouts_dm.specs.Layouts.{Class, ClassColumn, HasClass, IsCanonical, IsGoodLink, IsGoodName, Layout, Part, cell_fact, property_fact, property_iri, range_fact}

abbrev pub iri_term : List ℕ → Term
iri_term i = term.Iri i

-- the graph says it
abbrev pub Says : List ℕ → List Statement → Fact → Type 0
Says base G f = IsIn (triple_of base f) G

-- ---- what the graph says of a name

-- class t
abbrev pub IsClass : List ℕ → List Statement → Name → Type 0
IsClass base G t = Says base G (a_class t) × IsGoodName t

-- the graph has no other rdfs:range of the IRI i than o
abbrev pub OneRange : List ℕ → List Statement → List ℕ → List ℕ → Type 0
OneRange base G i o = (x : Statement) → IsIn x G → x.subject ≡ iri_term i → x.predicate ≡ word_iri RdfsRange → x.object ≡ iri_term o

-- the graph has no other rdfs:domain of the IRI i than o
abbrev pub OneDomain : List ℕ → List Statement → List ℕ → List ℕ → Type 0
OneDomain base G i o = (x : Statement) → IsIn x G → x.subject ≡ iri_term i → x.predicate ≡ word_iri RdfsDomain → x.object ≡ iri_term o

-- column c of the class t with the kind k: its three triples are in the graph, and it has no other range
pub record IsColumn (base : List ℕ) (G : List Statement) (t c : Name) (k : Kind) : Type 0 where
  pub class : IsClass base G t
  pub good : IsGoodName c
  pub property : Says base G (property_fact t c)
  pub domain : Says base G (a_domain (property_iri base t c) t)
  pub range : Says base G (range_fact t c k)
  pub one_range : OneRange base G (property_iri base t c) (word_iri (Datatype k))

-- node n of the class t
abbrev pub IsNode : List ℕ → List Statement → Node → Name → Type 0
IsNode base G n t = IsClass base G t × Says base G (a_node n t)

-- ---- what the graph says of a reference or a relation

-- the three triples of the link from t to u are in the graph, t and u are classes, and it has no other range
pub record IsLinked (base : List ℕ) (G : List Statement) (l : Link) (t u : Name) : Type 0 where
  pub good : IsGoodLink l
  pub object : Says base G (an_object l)
  pub domain : Says base G (a_domain (link_iri base l) t)
  pub range : Says base G (a_link_range l u)
  pub from : IsClass base G t
  pub to : IsClass base G u
  pub one_range : OneRange base G (link_iri base l) (table_iri base u)

-- a reference of t: on one or more columns of t, none twice
pub record IsReference (base : List ℕ) (G : List Statement) (r : RefName) (t : Name) : Type 0 where
  pub of_table : t ≡ r.table
  pub some : (c : Name) × IsIn c r.columns
  pub distinct : NoRepeats r.columns
  pub columns : (c : Name) → IsIn c r.columns → (k : Kind) × IsColumn base G r.table c k

-- a relation from t to u: of two different columns, named with a column of t and a column of u; its table is no class, it has
-- no other domain, and the graph says of no other relation's name of this table that it is a property, explained or not
pub record IsRelation (base : List ℕ) (G : List Statement) (q : RelName) (t u : Name) : Type 0 where
  pub two : q.left ≢ q.right
  pub no_class : ¬ IsClass base G q.table
  pub left : (k : Kind) × IsColumn base G t q.left_target k
  pub right : (k : Kind) × IsColumn base G u q.right_target k
  pub one_domain : OneDomain base G (link_iri base (rel_link q)) (table_iri base t)
  pub one : (s : RelName) → IsGoodLink (rel_link s) → s.table ≡ q.table → Says base G (an_object (rel_link s)) → s ≡ q

abbrev pub IsOfSort : List ℕ → List Statement → Link → Name → Name → Type 0
IsOfSort base G (ref_link r) t u = IsReference base G r t
IsOfSort base G (rel_link q) t u = IsRelation base G q t u

-- the link is a reference, or a relation, from t to u
pub record IsLink (base : List ℕ) (G : List Statement) (l : Link) (t u : Name) : Type 0 where
  pub linked : IsLinked base G l t u
  pub sort : IsOfSort base G l t u

-- ---- when a fact is explained

abbrev pub Explains : List ℕ → List Statement → Fact → Type 0
-- a class: it has a column
Explains base G (a_class t) = (c : Name) × (k : Kind) × IsColumn base G t c k
-- the property of a column, or its domain, or its range
Explains base G (a_property c) = (k : Kind) × IsColumn base G c.table c.column k
Explains base G (a_domain i t) =
    ((c : Name) × (k : Kind) × (property_iri base t c ≡ i) × IsColumn base G t c k) ⊎ ((l : Link) × (u : Name) × (link_iri base l ≡ i) × IsLink base G l t u)
Explains base G (a_range c k) = IsColumn base G c.table c.column k
-- the property of a reference or relation, or its domain (above), or its range
Explains base G (an_object l) = (t : Name) × (u : Name) × IsLink base G l t u
Explains base G (a_link_range l u) = (t : Name) × IsLink base G l t u
-- a node of a class
Explains base G (a_node n t) = IsClass base G t
-- a cell of a node of the class: the literal has the column's kind, in its canonical form
Explains base G (a_cell n c v) = IsNode base G n c.table × IsColumn base G c.table c.column v.kind × IsCanonical v
-- a pair of nodes of the classes at the link's two ends
Explains base G (a_link n l m) = (t : Name) × (u : Name) × IsLink base G l t u × IsNode base G n t × IsNode base G m u
-- a mark of a node of some class
Explains base G (a_mark n) = (t : Name) × IsNode base G n t

-- the triple says a fact that is explained
abbrev pub Explained : List ℕ → List Statement → Statement → Type 0
Explained base G x = (f : Fact) × (x ≡ triple_of base f) × Explains base G f

-- ---- which graphs are accepted

-- both ends have a value in the relation's column
abbrev pub HasValues : List ℕ → List Statement → RelName → Name → Name → Node → Node → Type 0
HasValues base G q t u n m = ((v : KindText) × Says base G (cell_fact n t q.left_target v)) × ((w : KindText) × Says base G (cell_fact m u q.right_target w))

-- each triple is explained, no node has two values in a column or two classes, and no pair of a relation lacks a value
pub record Accepted (base : List ℕ) (G : List Statement) : Type 0 where
  pub explained : (x : Statement) → IsIn x G → Explained base G x
  pub one_value : (n : Node) (t c : Name) (v w : KindText) → Says base G (cell_fact n t c v) → Says base G (cell_fact n t c w) → v ≡ w
  pub one_table : (n : Node) (t u : Name) → Says base G (a_node n t) → Says base G (a_node n u) → t ≡ u
  pub values : (q : RelName) (t u : Name) (n m : Node) → IsLink base G (rel_link q) t u → Says base G (a_link n (rel_link q) m) → HasValues base G q t u n m

-- ---- what is read off an accepted graph

-- the layout has the classes, columns, nodes, cells, links and pairs that the graph says, each once, and the marks that it says
pub record ReadOff (base : List ℕ) (G : List Statement) (L : Layout) : Type 0 where
  pub names : NoRepeats (map (λ c. c.name) L.classes)
  pub classes : (t : Name) → IsClass base G t → HasClass L t
  pub classes_back : (c : Class) → IsIn c L.classes → IsClass base G c.name
  pub columns_distinct : (c : Class) → IsIn c L.classes → NoRepeats (map (λ d. d.name) c.columns)
  pub columns : (c : Class) (x : Name) (k : Kind) → IsIn c L.classes → Says base G (range_fact c.name x k) → (d : ClassColumn) × IsIn d c.columns × (d.name ≡ x) × (d.kind ≡ k)
  pub columns_back : (c : Class) (d : ClassColumn) → IsIn c L.classes → IsIn d c.columns → Says base G (range_fact c.name d.name d.kind)
  pub nodes_distinct : (c : Class) → IsIn c L.classes → NoRepeats c.nodes
  pub nodes : (c : Class) (n : Node) → IsIn c L.classes → Says base G (a_node n c.name) ↔ IsIn n c.nodes
  pub cells : (c : Class) (n : Node) (d : ClassColumn) (v : KindText) → IsIn c L.classes → IsIn n c.nodes → IsIn d c.columns → Says base G (cell_fact n c.name d.name v) ↔ (L.cell n d.name ≡ Some v)
  pub links : NoRepeats (map (λ p. p.link) L.parts)
  pub parts : (l : Link) → Says base G (an_object l) → (p : Part) × IsIn p L.parts × (p.link ≡ l)
  pub parts_back : (p : Part) → IsIn p L.parts → IsLink base G p.link p.from p.to
  pub pairs_distinct : (p : Part) → IsIn p L.parts → NoRepeats p.pairs
  pub pairs : (p : Part) (n m : Node) → IsIn p L.parts → Says base G (a_link n p.link m) ↔ IsIn {X = Node × Node} (n, m) p.pairs
  pub marks : (n : Node) → Says base G (a_mark n) ↔ IsIn n L.marked
