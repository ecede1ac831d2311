-- Layouts: what a graph can say of tables, without their keys (after Sequeda, Arenas and Miranker, On Directly Mapping
-- Relational Databases to RDF and OWL, WWW 2012: information preservation). Tables and columns are named. The rows of
-- a class are nodes, and those of a relation are pairs of nodes.
use Rattle.std.specs.Prelude.{ℕ, ◌≡◌, ◌≢◌, ◌⊎◌, ◌++◌, List, [], ◌∷◌, Option, Some, codes, map}
use Rattle.value_dm.specs.declared.kind.Kind.{Kind}
use Rattle.value_dm.specs.declared.value.Value.{Value}
use Rattle.value_dm.specs.Kinds.{kind_of}
use Rattle.value_dm.specs.Lawful.{IsLawful}
use Rattle.value_dm.specs.Lexical.{lexical_form}
use Rattle.members_dm.specs.Membership.{IsIn, NoRepeats}
use Rattle.schema_dm.specs.Naming.{Name, IsBadName}
use Rattle.names_dm.specs.declared.names.ColumnName.{ColumnName}
use Rattle.names_dm.specs.declared.names.RefName.{RefName}
use Rattle.names_dm.specs.declared.names.RelName.{RelName}
use Rattle.names_dm.specs.Names.{column_iri}
use Rattle.names_dm.specs.Statements.{Statement}
use Rattle.facts_dm.specs.Facts.{Fact, KindText, Link, Node, a_cell, a_class, a_domain, a_link, a_link_range, a_mark, a_node, a_property, a_range, an_object, link_iri, ref_link, rel_link, triple_of}

abbrev pub column_named : Name → Name → ColumnName
column_named table column = record { table = table; column = column }

-- the IRI of the column of the table
abbrev pub property_iri : List ℕ → Name → Name → List ℕ
property_iri base table column = column_iri base (column_named table column)

abbrev pub property_fact : Name → Name → Fact
property_fact table column = a_property (column_named table column)

abbrev pub range_fact : Name → Name → Kind → Fact
range_fact table column kind = a_range (column_named table column) kind

abbrev pub cell_fact : Node → Name → Name → KindText → Fact
cell_fact node table column value = a_cell node (column_named table column) value

abbrev pub reference_link : Name → List Name → Link
reference_link table columns = ref_link (record { table = table; columns = columns })

-- the literal has the canonical form of some value of its kind
abbrev pub IsCanonical : KindText → Type 0
IsCanonical literal = (value : Value) × IsLawful value × (kind_of value ≡ literal.kind) × (lexical_form value ≡ literal.text)

-- a name of a table or column: not empty, not beginning with U+FEFF, of scalar values
abbrev pub IsGoodName : Name → Type 0
IsGoodName name = ¬ IsBadName name

-- ---- the parts of a layout

pub record ClassColumn : Type 0 where
  pub name : Name
  pub kind : Kind

-- a table whose rows have nodes of their own
pub record Class : Type 0 where
  pub name : Name
  pub columns : List ClassColumn
  pub nodes : List Node

-- a reference or a relation between the nodes of two classes, and its pairs of nodes
pub record Part : Type 0 where
  pub link : Link
  pub from : Name
  pub to : Name
  pub pairs : List (Node × Node)

-- a node has a cell for each column of its class: a literal, or none for NULL
pub record Layout : Type 0 where
  pub classes : List Class
  pub cell : Node → Name → Option KindText
  pub parts : List Part
  pub marked : List Node

abbrev pub HasClass : Layout → Name → Type 0
HasClass L t = (c : Class) × IsIn c L.classes × (c.name ≡ t)

abbrev pub HasColumn : Layout → Name → Name → Type 0
HasColumn L t x = (c : Class) × IsIn c L.classes × (c.name ≡ t) × (d : ClassColumn) × IsIn d c.columns × (d.name ≡ x)

abbrev pub HasColumnOfKind : Layout → Name → Name → Kind → Type 0
HasColumnOfKind L t x k = (c : Class) × IsIn c L.classes × (c.name ≡ t) × (d : ClassColumn) × IsIn d c.columns × (d.name ≡ x) × (d.kind ≡ k)

abbrev pub HasNode : Layout → Name → Node → Type 0
HasNode L t n = (c : Class) × IsIn c L.classes × (c.name ≡ t) × IsIn n c.nodes

-- ---- the triples of a layout

-- What a layout says: of each class that it is one; of each column that it is a property, its domain and its range, and of
-- each reference and relation the same; of each node its class; of each cell that isn't NULL its literal; each pair; and
-- of each marked node that it differs from itself.
abbrev pub Holds : List ℕ → Layout → Fact → Type 0
Holds base L (a_class t) = HasClass L t
Holds base L (a_property c) = HasColumn L c.table c.column
Holds base L (an_object l) = (p : Part) × IsIn p L.parts × (p.link ≡ l)
Holds base L (a_domain i t) =
    ((x : Name) × (property_iri base t x ≡ i) × HasColumn L t x) ⊎ ((p : Part) × IsIn p L.parts × (link_iri base p.link ≡ i) × (p.from ≡ t))
Holds base L (a_range c k) = HasColumnOfKind L c.table c.column k
Holds base L (a_link_range l u) = (p : Part) × IsIn p L.parts × (p.link ≡ l) × (p.to ≡ u)
Holds base L (a_node n t) = HasNode L t n
Holds base L (a_cell n c v) =
    (k : Class) × IsIn k L.classes × (k.name ≡ c.table) × IsIn n k.nodes × (d : ClassColumn) × IsIn d k.columns × (d.name ≡ c.column) × (L.cell n c.column ≡ Some v)
Holds base L (a_link n l m) = (p : Part) × IsIn p L.parts × (p.link ≡ l) × IsIn {X = Node × Node} (n, m) p.pairs
Holds base L (a_mark n) = IsIn n L.marked

-- the graph, as a set, has exactly the triples of the layout
pub record Describes (base : List ℕ) (L : Layout) (G : List Statement) : Type 0 where
  pub only : (s : Statement) → IsIn s G → (f : Fact) × Holds base L f × (s ≡ triple_of base f)
  pub all : (f : Fact) → Holds base L f → IsIn (triple_of base f) G

-- ---- which layouts are well formed

-- a reference: on one or more columns of a class, none twice, to a class
pub record GoodReference (L : Layout) (p : Part) (r : RefName) : Type 0 where
  pub of_table : p.from ≡ r.table
  pub from : HasClass L p.from
  pub to : HasClass L p.to
  pub some : (c : Name) × IsIn c r.columns
  pub distinct : NoRepeats r.columns
  pub columns : (c : Name) → IsIn c r.columns → HasColumn L r.table c
  -- no column `ref-x` stands beside a reference on x alone
  pub no_clash : (x : Name) → r.columns ≡ x ∷ [] → ¬ HasColumn L r.table (codes "ref-" ++ x)

-- a relation: its name is no class and no other relation, its columns are two, and each is named with a column of the class
-- at its end; no pair has a NULL there
pub record GoodRelation (L : Layout) (p : Part) (q : RelName) : Type 0 where
  pub two : q.left ≢ q.right
  pub no_class : ¬ HasClass L q.table
  pub one : (r : Part) (s : RelName) → IsIn r L.parts → r.link ≡ rel_link s → s.table ≡ q.table → s ≡ q
  pub left : HasColumn L p.from q.left_target
  pub right : HasColumn L p.to q.right_target
  pub values : (n m : Node) → IsIn {X = Node × Node} (n, m) p.pairs
      → ((v : KindText) × (L.cell n q.left_target ≡ Some v)) × ((w : KindText) × (L.cell m q.right_target ≡ Some w))

abbrev pub GoodLink : Layout → Part → Link → Type 0
GoodLink L p (ref_link r) = GoodReference L p r
GoodLink L p (rel_link q) = GoodRelation L p q

-- all names in it are good
abbrev pub IsGoodLink : Link → Type 0
IsGoodLink (ref_link r) = IsGoodName r.table × ((c : Name) → IsIn c r.columns → IsGoodName c)
IsGoodLink (rel_link q) = IsGoodName q.table × IsGoodName q.left × IsGoodName q.left_target × IsGoodName q.right × IsGoodName q.right_target

pub record WellFormed (L : Layout) : Type 0 where
  -- classes: different names, and one or more columns of different names
  pub class_names : (c : Class) → IsIn c L.classes → IsGoodName c.name
  pub classes : NoRepeats (map (λ c. c.name) L.classes)
  pub some_column : (c : Class) → IsIn c L.classes → (d : ClassColumn) × IsIn d c.columns
  pub column_names : (c : Class) (d : ClassColumn) → IsIn c L.classes → IsIn d c.columns → IsGoodName d.name
  pub columns : (c : Class) → IsIn c L.classes → NoRepeats (map (λ d. d.name) c.columns)
  -- nodes: none stands twice, and none in two classes; a cell that isn't NULL has a value of the column's kind
  pub nodes : (c : Class) → IsIn c L.classes → NoRepeats c.nodes
  pub one_class : (c d : Class) (n : Node) → IsIn c L.classes → IsIn d L.classes → IsIn n c.nodes → IsIn n d.nodes → c.name ≡ d.name
  pub cells : (c : Class) (n : Node) (d : ClassColumn) (v : KindText) → IsIn c L.classes → IsIn n c.nodes → IsIn d c.columns → L.cell n d.name ≡ Some v → (v.kind ≡ d.kind) × IsCanonical v
  -- references and relations: none stands twice, and their pairs are of nodes of the two classes, none twice
  pub link_names : (p : Part) → IsIn p L.parts → IsGoodLink p.link
  pub links : NoRepeats (map (λ p. p.link) L.parts)
  pub good : (p : Part) → IsIn p L.parts → GoodLink L p p.link
  pub pairs : (p : Part) → IsIn p L.parts → NoRepeats p.pairs
  pub pair_nodes : (p : Part) (n m : Node) → IsIn p L.parts → IsIn {X = Node × Node} (n, m) p.pairs → HasNode L p.from n × HasNode L p.to m
  -- marks are of nodes
  pub marks : (n : Node) → IsIn n L.marked → (t : Name) × HasNode L t n
