-- The facts that the triples of a graph say, as a list.
use Rattle.std.proofs.Common.{◌≡◌, ◌↔◌, ℕ, List, Option, Some, None, refl, sym, ap, ◌∙◌, subst, inl, inr}
use Rattle.std.specs.Prelude.{option_and_then}
use Rattle.members_dm.specs.Membership.{IsIn, NoRepeats}
use Rattle.schema_dm.specs.Naming.{Name}
use Rattle.names_dm.specs.declared.names.ColumnName.{ColumnName}
use Rattle.names_dm.specs.declared.term.Term.{Term}
use Rattle.names_dm.specs.declared.term.Term.TheVariants as term
use Rattle.names_dm.specs.Reading.{told_column}
use Rattle.names_dm.specs.Statements.{Statement}
use Rattle.facts_dm.specs.declared.word.Word.TheVariants.{RdfType, RdfsDomain, RdfsRange, OwlDifferentFrom, OwlClass, OwlDatatypeProperty, OwlObjectProperty, Datatype}
use Rattle.facts_dm.specs.Facts.{Fact, KindText, Link, Node, a_cell, a_class, a_domain, a_link, a_link_range, a_mark, a_node, a_property, a_range, an_object, blank, iri, link_iri, node_term, triple_of}
use Rattle.facts_dm.specs.Meanings.{Meaning, NamingLaws, meaning, of_nothing, of_property, of_table, of_word, told_link, value_told}
use Rattle.layouts_dm.specs.Layouts.{cell_fact, column_named}
use Rattle.layouts_dm.specs.Rules.{Says}
use Rattle.graph_tables_dm.proofs.Decisions as decide
use Rattle.graph_tables_dm.proofs.Decisions.{Told, told_some, told_statement}
use Rattle.graph_tables_dm.proofs.Collecting.{collect, collected, from_once, once, once_apart, to_collect, to_once}

-- ---- what a triple says

node_told : Term → Option Node
node_told (term.Iri text) = Some (iri text)
node_told (term.Blank label) = Some (blank label)
node_told (term.Literal value) = None

class_of : List ℕ → Meaning → Option Fact
class_of i (of_table t) = Some (a_class t)
class_of i (of_word w) = None
class_of i of_property = None
class_of i of_nothing = None

of_type : List ℕ → Term → Meaning → Option Fact
of_type base (term.Iri i) (of_word OwlClass) = class_of i (meaning base i)
of_type base (term.Iri i) (of_word OwlDatatypeProperty) = option_and_then (λ c. Some (a_property c)) (told_column base i)
of_type base (term.Iri i) (of_word OwlObjectProperty) = option_and_then (λ l. Some (an_object l)) (told_link base i)
of_type base subject (of_table t) = option_and_then (λ n. Some (a_node n t)) (node_told subject)
of_type base subject _ = None

type_said : List ℕ → Term → Term → Option Fact
type_said base subject (term.Iri o) = of_type base subject (meaning base o)
type_said base subject _ = None

of_domain : List ℕ → Meaning → Option Fact
of_domain i (of_table t) = Some (a_domain i t)
of_domain i _ = None

domain_said : List ℕ → Term → Term → Option Fact
domain_said base (term.Iri i) (term.Iri o) = of_domain i (meaning base o)
domain_said base subject object = None

of_range : List ℕ → List ℕ → Meaning → Option Fact
of_range base i (of_table t) = option_and_then (λ l. Some (a_link_range l t)) (told_link base i)
of_range base i (of_word (Datatype k)) = option_and_then (λ c. Some (a_range c k)) (told_column base i)
of_range base i _ = None

range_said : List ℕ → Term → Term → Option Fact
range_said base (term.Iri i) (term.Iri o) = of_range base i (meaning base o)
range_said base subject object = None

cell_said : Node → Option ColumnName → Option KindText → Option Fact
cell_said n (Some c) (Some v) = Some (a_cell n c v)
cell_said n c v = None

link_said : Node → Node → Option Link → Option Fact
link_said n m (Some l) = Some (a_link n l m)
link_said n m None = None

of_object : List ℕ → List ℕ → Node → Term → Option Fact
of_object base predicate n (term.Literal value) = cell_said n (told_column base predicate) (value_told value)
of_object base predicate n (term.Iri text) = link_said n (iri text) (told_link base predicate)
of_object base predicate n (term.Blank label) = link_said n (blank label) (told_link base predicate)

of_predicate : List ℕ → Statement → Meaning → Option Fact
of_predicate base s (of_word RdfType) = type_said base s.subject s.object
of_predicate base s (of_word RdfsDomain) = domain_said base s.subject s.object
of_predicate base s (of_word RdfsRange) = range_said base s.subject s.object
of_predicate base s (of_word OwlDifferentFrom) = option_and_then (λ n. Some (a_mark n)) (node_told s.subject)
of_predicate base s of_property = option_and_then (λ n. of_object base s.predicate n s.object) (node_told s.subject)
of_predicate base s _ = None

fact_told : List ℕ → Statement → Option Fact
fact_told base s = of_predicate base s (meaning base s.predicate)

node_back : (n : Node) → node_told (node_term n) ≡ Some n
unfolding node_told
node_back (iri text) = refl
node_back (blank label) = refl

of_object-node : (base predicate : List ℕ) (n m : Node) → of_object base predicate n (node_term m) ≡ link_said n m (told_link base predicate)
unfolding of_object
of_object-node base predicate n (iri text) = refl
of_object-node base predicate n (blank label) = refl

of_type-table : (base t : List ℕ) (n : Node) → of_type base (node_term n) (of_table t) ≡ Some (a_node n t)
unfolding of_type node_told
of_type-table base t (iri text) = refl
of_type-table base t (blank label) = refl

module _ (base : List ℕ) (laws : NamingLaws base) where
  fact_back : (f : Fact) → fact_told base (triple_of base f) ≡ Some f
  unfolding fact_told of_predicate type_said of_type class_of domain_said of_domain range_said of_range of_object cell_said link_said
  fact_back (a_class t) = rw (laws.word_meaning RdfType, laws.word_meaning OwlClass, laws.table_meaning t) refl
  fact_back (a_property c) = rw (laws.word_meaning RdfType, laws.word_meaning OwlDatatypeProperty, laws.column_told c) refl
  fact_back (an_object l) = rw (laws.word_meaning RdfType, laws.word_meaning OwlObjectProperty, laws.link_told l) refl
  fact_back (a_domain i t) = rw (laws.word_meaning RdfsDomain, laws.table_meaning t) refl
  fact_back (a_range c k) = rw (laws.word_meaning RdfsRange, laws.word_meaning (Datatype k), laws.column_told c) refl
  fact_back (a_link_range l t) = rw (laws.word_meaning RdfsRange, laws.table_meaning t, laws.link_told l) refl
  fact_back (a_node n t) = rw (laws.word_meaning RdfType, laws.table_meaning t) (of_type-table base t n)
  fact_back (a_cell n c v) = rw (laws.column_meaning c, node_back n, laws.column_told c, laws.value_back v) refl
  fact_back (a_link n l m) = rw (laws.link_meaning l, node_back n, of_object-node base (link_iri base l) n m, laws.link_told l) refl
  fact_back (a_mark n) = rw (laws.word_meaning OwlDifferentFrom, node_back n) refl

  -- the fact, if the triple is its triple
  checked : (s : Statement) (f : Fact) → Told (s ≡ triple_of base f) → Option Fact
  checked s f (inl e) = Some f
  checked s f (inr n) = None

  fact_if : Statement → Option Fact → Option Fact
  fact_if s None = None
  fact_if s (Some f) = checked s f (told_statement s (triple_of base f))

  fact_of : Statement → Option Fact
  fact_of s = fact_if s (fact_told base s)

  checked_is : (s : Statement) (f h : Fact) (t : Told (s ≡ triple_of base f)) → checked s f t ≡ Some h → s ≡ triple_of base h
  unfolding checked
  checked_is s f h (inl e) q = e ∙ ap (triple_of base) (let r : Some f ≡ Some h = q in cc)
  checked_is s f h (inr n) q = absurd (let r : None ≡ Some h = q in cc)

  fact_if-is : (s : Statement) (o : Option Fact) (f : Fact) → fact_if s o ≡ Some f → s ≡ triple_of base f
  unfolding fact_if
  fact_if-is s None f e = absurd (let r : None ≡ Some f = e in cc)
  fact_if-is s (Some h) f e = checked_is s h f (told_statement s (triple_of base h)) e

  checked-back : (f : Fact) (t : Told (triple_of base f ≡ triple_of base f)) → checked (triple_of base f) f t ≡ Some f
  unfolding checked
  checked-back f (inl e) = refl
  checked-back f (inr n) = absurd (n refl)

  fact_of-back : (f : Fact) → fact_of (triple_of base f) ≡ Some f
  unfolding fact_of fact_if
  fact_of-back f = ap (fact_if (triple_of base f)) (fact_back f) ∙ checked-back f (told_statement (triple_of base f) (triple_of base f))

  fact_of-is : (s : Statement) (f : Fact) → fact_of s ≡ Some f → s ≡ triple_of base f
  unfolding fact_of
  fact_of-is s f e = fact_if-is s (fact_told base s) f e

  module _ (G : List Statement) where
    -- the facts that the graph says
    pub facts : List Fact
    facts = collect fact_of G

    pub said : (f : Fact) → IsIn f facts → Says base G f
    unfolding facts
    said f i = let h = collected fact_of G f i in subst (λ s. IsIn s G) (fact_of-is h.0 f h.2) h.1

    pub to_facts : (f : Fact) → Says base G f → IsIn f facts
    unfolding facts
    to_facts f i = to_collect fact_of G (triple_of base f) f i (fact_of-back f)

    -- ---- facts of one sort

    module _ {X : Type 0} (made : X → Fact) (one : (x y : X) → made x ≡ made y → x ≡ y) (tell : (f : Fact) → Told ((x : X) × (f ≡ made x))) (told : (x y : X) → Told (x ≡ y)) where
      item : (f : Fact) → Told ((x : X) × (f ≡ made x)) → Option X
      item f (inl h) = Some h.0
      item f (inr n) = None

      item_is : (f : Fact) (t : Told ((x : X) × (f ≡ made x))) (x : X) → item f t ≡ Some x → f ≡ made x
      unfolding item
      item_is f (inl h) x e = h.1 ∙ ap made (let r : Some h.0 ≡ Some x = e in cc)
      item_is f (inr n) x e = absurd (let r : None ≡ Some x = e in cc)

      item_back : (x : X) (t : Told ((y : X) × (made x ≡ made y))) → item (made x) t ≡ Some x
      unfolding item
      item_back x (inl h) = ap Some (one h.0 x (sym h.1))
      item_back x (inr n) = absurd (n (x, refl))

      -- what the graph says by facts of the sort, each once
      pub items : List X
      items = once told (collect (λ f. item f (tell f)) facts)

      pub items_once : NoRepeats items
      unfolding items
      items_once = once_apart told (collect (λ f. item f (tell f)) facts)

      pub items_same : (x : X) → IsIn x items ↔ Says base G (made x)
      unfolding items
      items_same x = (
        (λ i.
            let h = collected (λ f. item f (tell f)) facts x (from_once told (collect (λ f. item f (tell f)) facts) x i) in
            said (made x) (subst (λ f. IsIn f facts) (item_is h.0 (tell h.0) x h.2) h.1)),
        (λ h. to_once told (collect (λ f. item f (tell f)) facts) x (to_collect (λ f. item f (tell f)) facts (made x) x (to_facts (made x) h) (item_back x (tell (made x))))),
      )

    -- ---- the value of a node in a column

    pub SaysValue : Node → Name → Fact → Type 0
    SaysValue n x f = (t : Name) × (v : KindText) × (f ≡ cell_fact n t x v)

    same_node : (m n : Node) (c d : ColumnName) (v w : KindText) → a_cell m c v ≡ a_cell n d w → m ≡ n
    same_node m n c d v w e = cc

    same_column : (m n : Node) (c d : ColumnName) (v w : KindText) → a_cell m c v ≡ a_cell n d w → c ≡ d
    same_column m n c d v w e = cc

    told_says : (n : Node) (x : Name) (f : Fact) → Told (SaysValue n x f)
    unfolding SaysValue
    told_says n x (a_cell m c v) = decide.told_as
        (λ h. (c.table, v, (λ i. a_cell (h.0 i) (record { table = c.table; column = h.1 i }) v)))
        (λ h. (same_node m n c (column_named h.0 x) v h.1 h.2, ap (λ (y : ColumnName). y.column) (same_column m n c (column_named h.0 x) v h.1 h.2)))
        (decide.told_both (decide.told_node m n) (decide.told_text c.column x))
    told_says n x f = inr (λ h. let e = h.2 in cc)

    told_cell : (n : Node) (x : Name) → Told ((f : Fact) × IsIn f facts × SaysValue n x f)
    told_cell n x = told_some (SaysValue n x) (told_says n x) facts

    value_if : (n : Node) (x : Name) → Told ((f : Fact) × IsIn f facts × SaysValue n x f) → Option KindText
    unfolding SaysValue
    value_if n x (inl h) = Some h.2.1
    value_if n x (inr none) = None

    pub cell : Node → Name → Option KindText
    cell n x = value_if n x (told_cell n x)

    cell_is : (n : Node) (x : Name) (v : KindText) (t : Told ((f : Fact) × IsIn f facts × SaysValue n x f)) → value_if n x t ≡ Some v → (t : Name) × Says base G (cell_fact n t x v)
    unfolding value_if SaysValue
    cell_is n x v (inl h) e =
        let same : h.2.1 ≡ v = (let r : Some h.2.1 ≡ Some v = e in cc) in
        (h.2.0, said (cell_fact n h.2.0 x v) (subst (λ f. IsIn f facts) (h.2.2 ∙ ap (cell_fact n h.2.0 x) same) h.1))
    cell_is n x v (inr none) e = absurd (let r : None ≡ Some v = e in cc)

    cell_some : (n : Node) (t x : Name) (v : KindText) (d : Told ((f : Fact) × IsIn f facts × SaysValue n x f)) → Says base G (cell_fact n t x v) → (u : KindText) × (value_if n x d ≡ Some u)
    unfolding value_if SaysValue
    cell_some n t x v (inl h) s = (h.2.1, refl)
    cell_some n t x v (inr none) s = absurd (none (cell_fact n t x v, to_facts (cell_fact n t x v) s, (t, v, refl)))

    -- a value that stands there is said, of some table
    pub cell_said_of : (n : Node) (x : Name) (v : KindText) → cell n x ≡ Some v → (t : Name) × Says base G (cell_fact n t x v)
    unfolding cell
    cell_said_of n x v e = cell_is n x v (told_cell n x) e

    -- where one is said, one stands there
    pub cell_stands : (n : Node) (t x : Name) (v : KindText) → Says base G (cell_fact n t x v) → (u : KindText) × (cell n x ≡ Some u)
    unfolding cell
    cell_stands n t x v s = cell_some n t x v (told_cell n x) s

    -- whether the graph says a value of the node in the column of the table
    told_of : (n : Node) (t x : Name) (f : Fact) → Told ((v : KindText) × (f ≡ cell_fact n t x v))
    told_of n t x (a_cell m c v) = decide.told_as
        (λ h. (v, (λ i. a_cell (h.0 i) (h.1 i) v)))
        (λ h. (same_node m n c (column_named t x) v h.0 h.1, same_column m n c (column_named t x) v h.0 h.1))
        (decide.told_both (decide.told_node m n) (decide.told_column c (column_named t x)))
    told_of n t x f = inr (λ h. let e = h.1 in cc)

    pub told_values : (n : Node) (t x : Name) → Told ((v : KindText) × Says base G (cell_fact n t x v))
    told_values n t x = decide.told_as
        (λ h. (h.2.0, said (cell_fact n t x h.2.0) (subst (λ f. IsIn f facts) h.2.1 h.1)))
        (λ h. (cell_fact n t x h.0, to_facts (cell_fact n t x h.0) h.1, (h.0, refl)))
        (told_some (λ f. (v : KindText) × (f ≡ cell_fact n t x v)) (told_of n t x) facts)

    -- ---- nodes, pairs, links and marks

    tell_node : (t : Name) (f : Fact) → Told ((n : Node) × (f ≡ a_node n t))
    tell_node t (a_node n u) = decide.told_as (λ e. (n, ap (a_node n) e)) (λ h. let e = h.1 in cc) (decide.told_text u t)
    tell_node t f = inr (λ h. let e = h.1 in cc)

    one_node : (t : Name) (m n : Node) → a_node m t ≡ a_node n t → m ≡ n
    one_node t m n e = cc

    pub nodes : Name → List Node
    nodes t = items (λ n. a_node n t) (one_node t) (tell_node t) decide.told_node

    pub nodes_once : (t : Name) → NoRepeats (nodes t)
    unfolding nodes
    nodes_once t = items_once (λ n. a_node n t) (one_node t) (tell_node t) decide.told_node

    pub nodes_same : (t : Name) (n : Node) → IsIn n (nodes t) ↔ Says base G (a_node n t)
    unfolding nodes
    nodes_same t n = items_same (λ n. a_node n t) (one_node t) (tell_node t) decide.told_node n

    tell_pair : (l : Link) (f : Fact) → Told ((p : Node × Node) × (f ≡ a_link p.0 l p.1))
    tell_pair l (a_link n k m) = decide.told_as (λ e. ((n, m), ap (λ j. a_link n j m) e)) (λ h. let e = h.1 in cc) (decide.told_link base laws k l)
    tell_pair l f = inr (λ h. let e = h.1 in cc)

    link_from : (l : Link) (m n o p : Node) → a_link m l o ≡ a_link n l p → m ≡ n
    link_from l m n o p e = cc

    link_to : (l : Link) (m n o p : Node) → a_link m l o ≡ a_link n l p → o ≡ p
    link_to l m n o p e = cc

    one_pair : (l : Link) (p q : Node × Node) → a_link p.0 l p.1 ≡ a_link q.0 l q.1 → p ≡ q
    one_pair l p q e = λ i. (link_from l p.0 q.0 p.1 q.1 e i, link_to l p.0 q.0 p.1 q.1 e i)

    pub pairs : Link → List (Node × Node)
    pairs l = items {X = Node × Node} (λ p. a_link p.0 l p.1) (one_pair l) (tell_pair l) decide.told_pair

    pub pairs_once : (l : Link) → NoRepeats (pairs l)
    unfolding pairs
    pairs_once l = items_once {X = Node × Node} (λ p. a_link p.0 l p.1) (one_pair l) (tell_pair l) decide.told_pair

    pub pairs_same : (l : Link) (p : Node × Node) → IsIn p (pairs l) ↔ Says base G (a_link p.0 l p.1)
    unfolding pairs
    pairs_same l p = items_same {X = Node × Node} (λ p. a_link p.0 l p.1) (one_pair l) (tell_pair l) decide.told_pair p

    tell_object : (f : Fact) → Told ((l : Link) × (f ≡ an_object l))
    tell_object (an_object l) = inl (l, refl)
    tell_object f = inr (λ h. let e = h.1 in cc)

    one_object : (l m : Link) → an_object l ≡ an_object m → l ≡ m
    one_object l m e = cc

    pub links : List Link
    links = items an_object one_object tell_object (decide.told_link base laws)

    pub links_once : NoRepeats links
    unfolding links
    links_once = items_once an_object one_object tell_object (decide.told_link base laws)

    pub links_same : (l : Link) → IsIn l links ↔ Says base G (an_object l)
    unfolding links
    links_same l = items_same an_object one_object tell_object (decide.told_link base laws) l

    tell_mark : (f : Fact) → Told ((n : Node) × (f ≡ a_mark n))
    tell_mark (a_mark n) = inl (n, refl)
    tell_mark f = inr (λ h. let e = h.1 in cc)

    one_mark : (m n : Node) → a_mark m ≡ a_mark n → m ≡ n
    one_mark m n e = cc

    pub marks : List Node
    marks = items a_mark one_mark tell_mark decide.told_node

    pub marks_same : (n : Node) → IsIn n marks ↔ Says base G (a_mark n)
    unfolding marks
    marks_same n = items_same a_mark one_mark tell_mark decide.told_node n
