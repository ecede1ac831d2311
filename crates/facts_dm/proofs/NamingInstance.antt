-- Every base keeps the laws of names.
use Rattle.std.proofs.Common.{◌≡◌, ◌∙◌, ◌++◌, ◌∷◌, ◌||◌, ◌&&◌, [], ℕ, List, Bool, true, false, not, eqb, refl, sym, ap, inl, inr, Option, Some, None}
use Rattle.std.proofs.lemmas.Bool.{cases_Bool, eqb-true}
use Rattle.std.specs.Prelude.{codes, nat_eq, option_and_then}
use Rattle.std.specs.List.{list_any, starts_with}
use Rattle.value_dm.specs.declared.kind.Kind.{Kind}
use Rattle.value_dm.specs.declared.kind.Kind.TheVariants as kind
use Rattle.names_dm.specs.declared.names.ColumnName.{ColumnName}
use Rattle.names_dm.specs.declared.term.Term.{Term}
use Rattle.names_dm.specs.declared.term.Term.TheVariants as term
use Rattle.names_dm.specs.IriSafe.{safe_form}
use Rattle.names_dm.specs.Names.{column_list, number_sign, pairing, semicolon, table_iri}
use Rattle.names_dm.specs.Namespaces.{is_base, is_empty_text, namespaces, one_begins, owl, rdf, rdfs, xsd}
use Rattle.names_dm.specs.Reading.{after, cut_at, told_column, told_ref, told_rel}
use Rattle.names_dm.specs.Statements.{Statement}
use Rattle.names_dm.specs.Terminals.{is_iri}
use Rattle.facts_dm.specs.declared.word.Word.{Word}
use Rattle.facts_dm.specs.declared.word.Word.TheVariants.{RdfType, RdfsDomain, RdfsRange, OwlDifferentFrom, OwlClass, OwlDatatypeProperty, OwlObjectProperty, Datatype}
use Rattle.facts_dm.specs.Facts.{Fact, KindText, Link, Node, a_cell, a_class, a_domain, a_link, a_link_range, a_mark, a_node, a_property, a_range, an_object, blank, iri, link_iri, node_term, ref_link, rel_link, triple_of}
use Rattle.facts_dm.specs.Meanings.{Meaning, NamingLaws, kind_told, meaning, of_nothing, of_property, of_table, of_word, told_link, value_told, word_of}
use Rattle.facts_dm.specs.Vocabulary.{literal_type, word_iri}
use Rattle.names_dm.proofs.Ascii.{and_parts}
use Rattle.names_dm.proofs.Parts.{after-append, cut_at-append, eqb-same, lacks}
use Rattle.names_dm.proofs.ReadBack.{unsafe_form-safe_form}
use Rattle.names_dm.proofs.Told.{form_lacks, local_parts-append, number_sign_out, told_column-column, told_ref-ref, told_rel-rel}

-- ---- words stand outside the base

or_parts : (a b : Bool) → (a || b) ≡ false → (a ≡ false) × (b ≡ false)
or_parts true b e = cc e
or_parts false b e = (refl, e)

outside : (base space local : List ℕ) → starts_with eqb space base ≡ false → starts_with eqb base space ≡ false → after base (space ++ local) ≡ None
outside [] space local one other = cc one
outside (b ∷ base) [] local one other = cc other
outside (b ∷ base) (n ∷ space) local one other = elim (cases_Bool (eqb b n)) [
  | inl same ↦
      let eq : b ≡ n = eqb-true b n same in
      let back : eqb n b ≡ true = ap (λ (m : ℕ). eqb m b) (sym eq) ∙ eqb-same b in
      rw same (outside base space local (rw same at one) (rw back at other))
  | inr differs ↦ rw differs refl
]

not_true : (a : Bool) → not a ≡ true → a ≡ false
not_true true e = sym e
not_true false e = refl

apart_each : (base : List ℕ) → is_base base ≡ true
    → (one_begins base rdf ≡ false) × ((one_begins base rdfs ≡ false) × ((one_begins base owl ≡ false) × (one_begins base xsd ≡ false)))
unfolding is_base
apart_each base ok =
    let any = not_true (list_any (one_begins base) namespaces) (and_parts (not (is_empty_text base) && is_iri base) (not (list_any (one_begins base) namespaces)) ok).1 in
    let a = or_parts (one_begins base rdf) _ any in
    let b = or_parts (one_begins base rdfs) _ a.1 in
    let c = or_parts (one_begins base owl) _ b.1 in
    let d = or_parts (one_begins base xsd) _ c.1 in
    (a.0, (b.0, (c.0, d.0)))

in_space : (base space local : List ℕ) → one_begins base space ≡ false → after base (space ++ local) ≡ None
in_space base space local apart =
    let h = or_parts (starts_with nat_eq base space) (starts_with nat_eq space base) apart in
    outside base space local h.1 h.0

datatype_outside : (base : List ℕ) (k : Kind) → one_begins base xsd ≡ false → after base (word_iri (Datatype k)) ≡ None
datatype_outside base kind.Text apart = in_space base xsd (codes "string") apart
datatype_outside base kind.Integer apart = in_space base xsd (codes "integer") apart
datatype_outside base kind.Decimal apart = in_space base xsd (codes "decimal") apart
datatype_outside base kind.Boolean apart = in_space base xsd (codes "boolean") apart
datatype_outside base kind.Date apart = in_space base xsd (codes "date") apart
datatype_outside base kind.Time apart = in_space base xsd (codes "time") apart
datatype_outside base kind.DateTime apart = in_space base xsd (codes "dateTime") apart
datatype_outside base kind.Binary apart = in_space base xsd (codes "hexBinary") apart

word_outside : (base : List ℕ) (w : Word) → is_base base ≡ true → after base (word_iri w) ≡ None
word_outside base RdfType ok = in_space base rdf (codes "type") (apart_each base ok).0
word_outside base RdfsDomain ok = in_space base rdfs (codes "domain") (apart_each base ok).1.0
word_outside base RdfsRange ok = in_space base rdfs (codes "range") (apart_each base ok).1.0
word_outside base OwlDifferentFrom ok = in_space base owl (codes "differentFrom") (apart_each base ok).1.1.0
word_outside base OwlClass ok = in_space base owl (codes "Class") (apart_each base ok).1.1.0
word_outside base OwlDatatypeProperty ok = in_space base owl (codes "DatatypeProperty") (apart_each base ok).1.1.0
word_outside base OwlObjectProperty ok = in_space base owl (codes "ObjectProperty") (apart_each base ok).1.1.0
word_outside base (Datatype k) ok = datatype_outside base k (apart_each base ok).1.1.1

datatype_found : (k : Kind) → word_of (word_iri (Datatype k)) ≡ of_word (Datatype k)
unfolding word_of
datatype_found kind.Text = refl
datatype_found kind.Integer = refl
datatype_found kind.Decimal = refl
datatype_found kind.Boolean = refl
datatype_found kind.Date = refl
datatype_found kind.Time = refl
datatype_found kind.DateTime = refl
datatype_found kind.Binary = refl

word_found : (w : Word) → word_of (word_iri w) ≡ of_word w
unfolding word_of
word_found RdfType = refl
word_found RdfsDomain = refl
word_found RdfsRange = refl
word_found OwlDifferentFrom = refl
word_found OwlClass = refl
word_found OwlDatatypeProperty = refl
word_found OwlObjectProperty = refl
word_found (Datatype k) = datatype_found k

word_means : (base : List ℕ) (w : Word) → is_base base ≡ true → meaning base (word_iri w) ≡ of_word w
unfolding meaning
word_means base w ok = rw (word_outside base w ok) (word_found w)

-- ---- names stand below it

cut_at-lacks : (c : ℕ) (text : List ℕ) → lacks c text ≡ true → ◌≡◌ {A = Option (List ℕ × List ℕ)} (cut_at c text) None
cut_at-lacks c [] none = refl
cut_at-lacks c (d ∷ text) none = elim (cases_Bool (eqb d c)) [
  | inl same ↦ cc (rw same at none)
  | inr other ↦ rw (other, cut_at-lacks c text (rw other at none)) refl
]

table_means : (base t : List ℕ) → meaning base (table_iri base t) ≡ of_table t
unfolding meaning
table_means base t =
    rw (after-append base (safe_form t), cut_at-lacks number_sign (safe_form t) (form_lacks number_sign t number_sign_out), unsafe_form-safe_form t) refl

local_means : (base t rest : List ℕ) → meaning base (base ++ (safe_form t ++ number_sign ∷ rest)) ≡ of_property
unfolding meaning
local_means base t rest =
    rw (after-append base (safe_form t ++ number_sign ∷ rest), cut_at-append number_sign (safe_form t) rest (form_lacks number_sign t number_sign_out)) refl

link_means : (base : List ℕ) (l : Link) → meaning base (link_iri base l) ≡ of_property
link_means base (ref_link name) = go name.columns where
  go : (columns : List (List ℕ)) → meaning base (link_iri base (ref_link (record { table = name.table; columns = columns }))) ≡ of_property
  go [] = local_means base name.table (codes "=")
  go (column ∷ columns) = local_means base name.table (codes "ref-" ++ column_list (column ∷ columns))
link_means base (rel_link name) = local_means base name.table (codes "rel-" ++ (pairing name.left name.left_target ++ semicolon ∷ pairing name.right name.right_target))

no_ref : (base t rest : List ℕ) → after (codes "ref-") rest ≡ None → told_ref base (base ++ (safe_form t ++ number_sign ∷ rest)) ≡ None
unfolding told_ref
no_ref base t rest none = rw (local_parts-append base t rest, unsafe_form-safe_form t, none) refl

no_rel : (base t rest : List ℕ) → after (codes "rel-") rest ≡ None → told_rel base (base ++ (safe_form t ++ number_sign ∷ rest)) ≡ None
unfolding told_rel
no_rel base t rest none = rw (local_parts-append base t rest, unsafe_form-safe_form t, none) refl

empty_told : (base t : List ℕ) → told_link base (base ++ (safe_form t ++ number_sign ∷ codes "=")) ≡ Some (ref_link (record { table = t; columns = [] }))
unfolding told_link
empty_told base t =
    rw (no_ref base t (codes "=") refl, no_rel base t (codes "=") refl, local_parts-append base t (codes "="), unsafe_form-safe_form t) refl

link_back : (base : List ℕ) (l : Link) → told_link base (link_iri base l) ≡ Some l
unfolding told_link
link_back base (ref_link name) = go name.columns where
  go : (columns : List (List ℕ)) → told_link base (link_iri base (ref_link (record { table = name.table; columns = columns }))) ≡ Some (ref_link (record { table = name.table; columns = columns }))
  go [] = empty_told base name.table
  go (column ∷ columns) = rw (told_ref-ref base name.table column columns) refl
link_back base (rel_link name) =
    let rest = codes "rel-" ++ (pairing name.left name.left_target ++ semicolon ∷ pairing name.right name.right_target) in
    rw (no_ref base name.table rest refl, told_rel-rel base name) refl

-- ---- values

kind_back : (k : Kind) → kind_told (literal_type k) ≡ Some k
kind_back kind.Text = refl
kind_back kind.Integer = refl
kind_back kind.Decimal = refl
kind_back kind.Boolean = refl
kind_back kind.Date = refl
kind_back kind.Time = refl
kind_back kind.DateTime = refl
kind_back kind.Binary = refl

value_comes_back : (v : KindText) → value_told (record { text = v.text; kind = literal_type v.kind }) ≡ Some v
unfolding value_told
value_comes_back v = rw (kind_back v.kind) refl

-- ---- a triple says one thing

node_of : Term → Option Node
node_of (term.Iri text) = Some (iri text)
node_of (term.Blank label) = Some (blank label)
node_of (term.Literal value) = None

class_told : List ℕ → Meaning → Option Fact
class_told i (of_table t) = Some (a_class t)
class_told i (of_word w) = None
class_told i of_property = None
class_told i of_nothing = None

-- by what the object of a type triple is
by_type : List ℕ → Term → Meaning → Option Fact
by_type base (term.Iri i) (of_word OwlClass) = class_told i (meaning base i)
by_type base (term.Iri i) (of_word OwlDatatypeProperty) = option_and_then (λ c. Some (a_property c)) (told_column base i)
by_type base (term.Iri i) (of_word OwlObjectProperty) = option_and_then (λ l. Some (an_object l)) (told_link base i)
by_type base subject (of_table t) = option_and_then (λ n. Some (a_node n t)) (node_of subject)
by_type base subject _ = None

type_told : List ℕ → Term → Term → Option Fact
type_told base subject (term.Iri o) = by_type base subject (meaning base o)
type_told base subject _ = None

by_domain : List ℕ → Meaning → Option Fact
by_domain i (of_table t) = Some (a_domain i t)
by_domain i _ = None

domain_told : List ℕ → Term → Term → Option Fact
domain_told base (term.Iri i) (term.Iri o) = by_domain i (meaning base o)
domain_told base subject object = None

by_range : List ℕ → List ℕ → Meaning → Option Fact
by_range base i (of_table t) = option_and_then (λ l. Some (a_link_range l t)) (told_link base i)
by_range base i (of_word (Datatype k)) = option_and_then (λ c. Some (a_range c k)) (told_column base i)
by_range base i _ = None

range_told : List ℕ → Term → Term → Option Fact
range_told base (term.Iri i) (term.Iri o) = by_range base i (meaning base o)
range_told base subject object = None

cell_told : Node → Option ColumnName → Option KindText → Option Fact
cell_told n (Some c) (Some v) = Some (a_cell n c v)
cell_told n c v = None

linked : Node → Node → Option Link → Option Fact
linked n m (Some l) = Some (a_link n l m)
linked n m None = None

by_object : List ℕ → List ℕ → Node → Term → Option Fact
by_object base predicate n (term.Literal value) = cell_told n (told_column base predicate) (value_told value)
by_object base predicate n (term.Iri text) = linked n (iri text) (told_link base predicate)
by_object base predicate n (term.Blank label) = linked n (blank label) (told_link base predicate)

by_predicate : List ℕ → Statement → Meaning → Option Fact
by_predicate base s (of_word RdfType) = type_told base s.subject s.object
by_predicate base s (of_word RdfsDomain) = domain_told base s.subject s.object
by_predicate base s (of_word RdfsRange) = range_told base s.subject s.object
by_predicate base s (of_word OwlDifferentFrom) = option_and_then (λ n. Some (a_mark n)) (node_of s.subject)
by_predicate base s of_property = option_and_then (λ n. by_object base s.predicate n s.object) (node_of s.subject)
by_predicate base s _ = None

fact_told : List ℕ → Statement → Option Fact
fact_told base s = by_predicate base s (meaning base s.predicate)

node_back : (n : Node) → node_of (node_term n) ≡ Some n
unfolding node_of
node_back (iri text) = refl
node_back (blank label) = refl

by_object-node : (base predicate : List ℕ) (n m : Node) → by_object base predicate n (node_term m) ≡ linked n m (told_link base predicate)
unfolding by_object
by_object-node base predicate n (iri text) = refl
by_object-node base predicate n (blank label) = refl

by_type-table : (base t : List ℕ) (n : Node) → by_type base (node_term n) (of_table t) ≡ Some (a_node n t)
unfolding by_type node_of
by_type-table base t (iri text) = refl
by_type-table base t (blank label) = refl

fact_back : (base : List ℕ) (f : Fact) → is_base base ≡ true → fact_told base (triple_of base f) ≡ Some f
unfolding fact_told by_predicate type_told by_type class_told domain_told by_domain range_told by_range by_object cell_told linked
fact_back base (a_class t) ok = rw (word_means base RdfType ok, word_means base OwlClass ok, table_means base t) refl
fact_back base (a_property c) ok = rw (word_means base RdfType ok, word_means base OwlDatatypeProperty ok, told_column-column base c) refl
fact_back base (an_object l) ok = rw (word_means base RdfType ok, word_means base OwlObjectProperty ok, link_back base l) refl
fact_back base (a_domain i t) ok = rw (word_means base RdfsDomain ok, table_means base t) refl
fact_back base (a_range c k) ok = rw (word_means base RdfsRange ok, word_means base (Datatype k) ok, told_column-column base c) refl
fact_back base (a_link_range l t) ok = rw (word_means base RdfsRange ok, table_means base t, link_back base l) refl
fact_back base (a_node n t) ok = rw (word_means base RdfType ok, table_means base t) (by_type-table base t n)
fact_back base (a_cell n c v) ok =
    rw (local_means base c.table (safe_form c.column), node_back n, told_column-column base c, value_comes_back v) refl
fact_back base (a_link n l m) ok = rw (link_means base l, node_back n, by_object-node base (link_iri base l) n m, link_back base l) refl
fact_back base (a_mark n) ok = rw (word_means base OwlDifferentFrom ok, node_back n) refl

some_fact : (f g : Fact) → Some f ≡ Some g → f ≡ g
some_fact f g e = cc

pub naming_laws : (base : List ℕ) → is_base base ≡ true → NamingLaws base
naming_laws base ok = record {
  word_meaning = λ w. word_means base w ok;
  table_meaning = table_means base;
  column_meaning = λ c. local_means base c.table (safe_form c.column);
  link_meaning = link_means base;
  column_told = told_column-column base;
  link_told = link_back base;
  value_back = value_comes_back;
  one_fact = λ f g same. some_fact f g (sym (fact_back base f ok) ∙ ap (fact_told base) same ∙ fact_back base g ok);
}
