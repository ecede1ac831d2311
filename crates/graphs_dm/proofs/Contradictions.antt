-- The map-keys graph contradicts itself exactly where a key is violated.
use Rattle.std.proofs.Common.{◌≡◌, ◌∙◌, ◌<◌, ◌++◌, ◌||◌, ◌&&◌, ℕ, Bool, true, false, not, List, [], ◌∷◌, None, refl, sym, ap, subst, inl, inr, map, length, eqb, arith, get_or}
use Rattle.std.specs.Prelude.{codes, nat_eq}
use Rattle.std.specs.List.{list_any, starts_with}
use Rattle.std.proofs.lemmas.Bool.{cases_Bool, eqb-true}
use Rattle.std.proofs.lemmas.List.{get_or-map}
use Rattle.std.proofs.lemmas.Option.{slice_get-get_or}
use Rattle.value_dm.specs.declared.kind.Kind.{Kind}
use Rattle.value_dm.specs.declared.kind.Kind.TheVariants as kind
use Rattle.members_dm.specs.Membership.{IsIn}
use Rattle.members_dm.proofs.AnyLemmas.{any_from_item}
use Rattle.members_dm.proofs.ElementsLemmas.{item_at_index}
use Rattle.schema_dm.specs.Naming.{name_at}
use Rattle.schema_dm.specs.Schemas.{IsTable, table_at}
use Rattle.schema_dm.specs.declared.draft.Column.{Column}
use Rattle.schema_dm.specs.declared.table.Table.{Table}
use Rattle.names_dm.specs.Names.{column_iri, ref_iri, table_iri}
use Rattle.names_dm.specs.Namespaces.{is_base, is_empty_text, namespaces, one_begins, rdf, rdfs, xsd}
use Rattle.names_dm.specs.Terminals.{is_iri}
use Rattle.names_dm.specs.Statements.{Statement, is_literal}
use Rattle.names_dm.specs.declared.names.ColumnName.{ColumnName}
use Rattle.names_dm.specs.declared.names.RefName.{RefName}
use Rattle.names_dm.specs.declared.term.Term.TheVariants as term
use Rattle.names_dm.proofs.Ascii.{and_parts}
use Rattle.names_dm.proofs.NamesApart.{names_apart}
use Rattle.names_dm.proofs.Parts.{eqb-same}
use Rattle.facts_dm.specs.Facts.{Fact, KindText, Link, Node, a_cell, a_class, a_domain, a_link, a_link_range, a_mark, a_node, a_property, a_range, an_object, blank, iri, link_iri, literal_term, node_term, ref_link, table_term, triple_of, word_term}
use Rattle.facts_dm.specs.Meanings.{NamingLaws, meaning, of_property, of_word}
use Rattle.facts_dm.specs.Vocabulary.{word_iri}
use Rattle.facts_dm.specs.declared.word.Word.{Word}
use Rattle.facts_dm.specs.declared.word.Word.TheVariants.{Datatype, OwlDifferentFrom, RdfType, RdfsDomain, RdfsRange}
use Rattle.facts_dm.proofs.NamingInstance.{naming_laws}
use Rattle.table_csv.specs.Databases.{Data, IsDatabase}
use Rattle.keys_dm.specs.Violations.{KeepsKeys}
use Rattle.consistency_dm.specs.Conflicts.{IsConflict}
use Rattle.consistency_dm.specs.Interpretations.{HasInterpretation, range_form}
use Rattle.consistency_dm.specs.Ranges.{is_let_in}
use Rattle.consistency_dm.proofs.Interpreted.{form_lets, interpretation, no_conflict, refused}
use Rattle.graphs_dm.specs.Graphs.{AreTriplesOf, of_row, row_mark}
use Rattle.graphs_dm.specs.Interpreted.{IsInterpretedWhereKept}
use Rattle.graphs_dm.specs.Nodes.{row_node}
use Rattle.graphs_dm.specs.declared.graph_name.GraphName.TheVariants.{MapKeys}
use Rattle.graphs_dm.proofs.GraphFacts.{IsColumnOf, IsReferenceOf, IsViolated, Says, one_kind, one_table, says}
use Rattle.graphs_dm.proofs.NodeLaws.{is_table}

-- ---- no table is a datatype

or_parts : (a b : Bool) → (a || b) ≡ false → (a ≡ false) × (b ≡ false)
or_parts true b e = cc e
or_parts false b e = (refl, e)

not_true : (a : Bool) → not a ≡ true → a ≡ false
not_true true e = cc e
not_true false e = refl

longer_begins : (text rest space : List ℕ) → starts_with eqb text space ≡ false → starts_with eqb space text ≡ false → starts_with eqb (text ++ rest) space ≡ false
longer_begins [] rest space one other = cc other
longer_begins (c ∷ text) rest [] one other = cc one
longer_begins (c ∷ text) rest (n ∷ space) one other = elim (cases_Bool (eqb n c)) [
  | inl same ↦
      let eq : n ≡ c = eqb-true n c same in
      let back : eqb c n ≡ true = ap (λ (m : ℕ). eqb m n) (sym eq) ∙ eqb-same n in
      rw same (longer_begins text rest space (rw same at one) (rw back at other))
  | inr differs ↦ rw differs refl
]

xsd_apart : (base : List ℕ) → is_base base ≡ true → one_begins base xsd ≡ false
unfolding is_base
xsd_apart base ok =
    let any = not_true (list_any (one_begins base) namespaces) (and_parts (not (is_empty_text base) && is_iri base) (not (list_any (one_begins base) namespaces)) ok).1 in
    let a = or_parts (one_begins base rdf) _ any in
    let b = or_parts (one_begins base rdfs) _ a.1 in
    (or_parts _ _ (or_parts _ _ b.1).1).0

no_datatype : (base table : List ℕ) → is_base base ≡ true → starts_with nat_eq (table_iri base table) xsd ≡ false
no_datatype base table ok =
    let h = or_parts (starts_with nat_eq base xsd) (starts_with nat_eq xsd base) (xsd_apart base ok) in
    longer_begins base _ xsd h.0 h.1

node_let_in : (base table : List ℕ) → is_base base ≡ true → (node : Node) → form_lets (range_form (table_term base table)) (node_term node) ≡ true
node_let_in base table ok node = rw (no_datatype base table ok) (elim (cases_Bool (starts_with nat_eq (table_iri base table) rdf || starts_with nat_eq (table_iri base table) rdfs)) [
  | inl known ↦ rw known refl
  | inr other ↦ rw other (member node)
])
  where
    member : (n : Node) → is_let_in None (node_term n) ≡ true
    member (iri text) = refl
    member (blank label) = refl

literal_let_in : (value : KindText) → form_lets (range_form (word_term (Datatype value.kind))) (literal_term value) ≡ true
literal_let_in value = go value.kind
  where
    go : (k : Kind) → form_lets (range_form (word_term (Datatype k))) (literal_term (record { kind = k; text = value.text })) ≡ true
    go kind.Text = refl
    go kind.Integer = refl
    go kind.Decimal = refl
    go kind.Boolean = refl
    go kind.Date = refl
    go kind.Time = refl
    go kind.DateTime = refl
    go kind.Binary = refl

-- ---- subjects are nodes

node_subject : (n : Node) → is_literal (node_term n) ≡ false
node_subject (iri text) = refl
node_subject (blank label) = refl

subject_is_node : (base : List ℕ) (f : Fact) → is_literal (triple_of base f).subject ≡ false
subject_is_node base (a_class t) = refl
subject_is_node base (a_property c) = refl
subject_is_node base (an_object l) = refl
subject_is_node base (a_domain i t) = refl
subject_is_node base (a_range c k) = refl
subject_is_node base (a_link_range l t) = refl
subject_is_node base (a_node n t) = node_subject n
subject_is_node base (a_cell n c v) = node_subject n
subject_is_node base (a_link n l m) = node_subject n
subject_is_node base (a_mark n) = node_subject n

module _ (base : List ℕ) (ok : is_base base ≡ true) (laws : NamingLaws base) (D : Data) (database : IsDatabase D) where
  one_word : (v w : Word) → word_iri v ≡ word_iri w → v ≡ w
  one_word v w e = let s : of_word v ≡ of_word w = sym (laws.word_meaning v) ∙ ap (meaning base) e ∙ laws.word_meaning w in cc

  no_property : (w : Word) (text : List ℕ) → meaning base text ≡ of_property → text ≡ word_iri w → ⊥
  no_property w text m e = let s : of_property ≡ of_word w = sym m ∙ ap (meaning base) e ∙ laws.word_meaning w in cc

  -- no column shares its property with a reference
  no_shared : (c : ColumnName) (k : Kind) (l : Link) → IsColumnOf D c k → IsReferenceOf D l → column_iri base c ≡ link_iri base l → ⊥
  no_shared c k l h r e = go r.key.columns refl
    where
      T : Table
      T = table_at D.tables r.t

      valid : IsTable D.tables T
      valid = is_table D database r.t r.below

      among : IsIn r.key T.foreign
      among = item_at_index r.key T.foreign r.k r.stands

      shared : (p : ℕ) (places : List ℕ) → r.key.columns ≡ p ∷ places → (x : List ℕ) → name_at T.columns p ∷ map (name_at T.columns) places ≡ x ∷ [] → c ≡ record { table = T.name; column = codes "ref-" ++ x } → ⊥
      shared p (q ∷ places) e x one is = cc one
      shared p [] q x one is =
          let at : name_at T.columns p ≡ x = cc in
          let within : p < length T.columns = (valid.foreign r.key among).columns.within p (subst (λ (ps : List ℕ). IsIn p ps) (sym q) (inl refl)) in
          let column = get_or T.columns p h.column in
          let same : x ≡ column.name = sym at ∙ get_or-map (λ (a : Column). a.name) T.columns p h.column [] within in
          let names : ◌≡◌ {A = ColumnName} (record { table = (table_at D.tables h.t).name; column = h.column.name }) (record { table = T.name; column = codes "ref-" ++ x }) = sym h.named ∙ is in
          let tables : table_at D.tables h.t ≡ T = one_table D database h.t r.t h.below r.below (ap (λ (a : ColumnName). a.table) names) in
          let there : IsIn h.column T.columns = subst (λ (table : Table). IsIn h.column table.columns) tables (item_at_index h.column (table_at D.tables h.t).columns h.k h.stands) in
          valid.no_clash r.key p column among q (slice_get-get_or T.columns p h.column within)
          (any_from_item (λ (a : Column). a.name ≡ codes "ref-" ++ column.name) h.column T.columns there (ap (λ (a : ColumnName). a.column) names ∙ ap (λ y. codes "ref-" ++ y) same))

      go : (places : List ℕ) → r.key.columns ≡ places → ⊥
      go [] p = let some = (valid.foreign r.key among).columns.some in let none : length r.key.columns ≡ 0 = ap length p in omega arith
      go (p ∷ places) q =
          let name : RefName = record { table = T.name; columns = name_at T.columns p ∷ map (name_at T.columns) places } in
          let as_ref : column_iri base c ≡ ref_iri base name = e ∙ ap (link_iri base) r.named ∙ ap (λ ps. link_iri base (ref_link (record { table = T.name; columns = map (name_at T.columns) ps }))) q in
          let (x, one, is) = (names_apart base).column_ref c name (λ none. cc none) as_ref in
          shared p places q x one is

  lets : (g f : Fact) → Says D g → Says D f → (triple_of base g).predicate ≡ word_iri RdfsRange → (triple_of base g).subject ≡ term.Iri (triple_of base f).predicate
      → form_lets (range_form (triple_of base g).object) (triple_of base f).object ≡ true
  lets (a_class t) f a b p s = let w = one_word RdfType RdfsRange p in cc w
  lets (a_property c) f a b p s = let w = one_word RdfType RdfsRange p in cc w
  lets (an_object l) f a b p s = let w = one_word RdfType RdfsRange p in cc w
  lets (a_domain i t) f a b p s = let w = one_word RdfsDomain RdfsRange p in cc w
  lets (a_node n t) f a b p s = let w = one_word RdfType RdfsRange p in cc w
  lets (a_mark n) f a b p s = let w = one_word OwlDifferentFrom RdfsRange p in cc w
  lets (a_cell n c v) f a b p s = absurd (no_property RdfsRange (column_iri base c) (laws.column_meaning c) p)
  lets (a_link n l m) f a b p s = absurd (no_property RdfsRange (link_iri base l) (laws.link_meaning l) p)
  lets (a_range c k) (a_class t) a b p s = absurd (no_property RdfType (column_iri base c) (laws.column_meaning c) cc)
  lets (a_range c k) (a_property d) a b p s = absurd (no_property RdfType (column_iri base c) (laws.column_meaning c) cc)
  lets (a_range c k) (an_object l) a b p s = absurd (no_property RdfType (column_iri base c) (laws.column_meaning c) cc)
  lets (a_range c k) (a_domain i t) a b p s = absurd (no_property RdfsDomain (column_iri base c) (laws.column_meaning c) cc)
  lets (a_range c k) (a_range d j) a b p s = absurd (no_property RdfsRange (column_iri base c) (laws.column_meaning c) cc)
  lets (a_range c k) (a_link_range l t) a b p s = absurd (no_property RdfsRange (column_iri base c) (laws.column_meaning c) cc)
  lets (a_range c k) (a_node n t) a b p s = absurd (no_property RdfType (column_iri base c) (laws.column_meaning c) cc)
  lets (a_range c k) (a_mark n) a b p s = absurd (no_property OwlDifferentFrom (column_iri base c) (laws.column_meaning c) cc)
  lets (a_range c k) (a_cell n d v) a b p s =
      let e : column_iri base c ≡ column_iri base d = cc in
      let same : c ≡ d = (names_apart base).columns c d e in
      let kinds : k ≡ v.kind = one_kind D database d k v.kind (subst (λ (x : ColumnName). IsColumnOf D x k) same a) b in
      subst (λ (j : Kind). form_lets (range_form (word_term (Datatype j))) (literal_term v) ≡ true) (sym kinds) (literal_let_in v)
  lets (a_range c k) (a_link n l m) a b p s = let e : column_iri base c ≡ link_iri base l = cc in absurd (no_shared c k l a b e)
  lets (a_link_range l t) (a_class u) a b p s = absurd (no_property RdfType (link_iri base l) (laws.link_meaning l) cc)
  lets (a_link_range l t) (a_property d) a b p s = absurd (no_property RdfType (link_iri base l) (laws.link_meaning l) cc)
  lets (a_link_range l t) (an_object m) a b p s = absurd (no_property RdfType (link_iri base l) (laws.link_meaning l) cc)
  lets (a_link_range l t) (a_domain i u) a b p s = absurd (no_property RdfsDomain (link_iri base l) (laws.link_meaning l) cc)
  lets (a_link_range l t) (a_range d j) a b p s = absurd (no_property RdfsRange (link_iri base l) (laws.link_meaning l) cc)
  lets (a_link_range l t) (a_link_range m u) a b p s = absurd (no_property RdfsRange (link_iri base l) (laws.link_meaning l) cc)
  lets (a_link_range l t) (a_node n u) a b p s = absurd (no_property RdfType (link_iri base l) (laws.link_meaning l) cc)
  lets (a_link_range l t) (a_mark n) a b p s = absurd (no_property OwlDifferentFrom (link_iri base l) (laws.link_meaning l) cc)
  lets (a_link_range l t) (a_cell n d v) a b p s = let e : link_iri base l ≡ column_iri base d = cc in absurd (no_shared d v.kind l b a (sym e))
  lets (a_link_range l t) (a_link n o m) a b p s = node_let_in base t ok m

  marked : (f : Fact) → Says D f → (triple_of base f).predicate ≡ word_iri OwlDifferentFrom → IsViolated D
  marked (a_mark n) a p = a
  marked (a_class t) a p = let w = one_word RdfType OwlDifferentFrom p in cc w
  marked (a_property c) a p = let w = one_word RdfType OwlDifferentFrom p in cc w
  marked (an_object l) a p = let w = one_word RdfType OwlDifferentFrom p in cc w
  marked (a_domain i t) a p = let w = one_word RdfsDomain OwlDifferentFrom p in cc w
  marked (a_range c k) a p = let w = one_word RdfsRange OwlDifferentFrom p in cc w
  marked (a_link_range l t) a p = let w = one_word RdfsRange OwlDifferentFrom p in cc w
  marked (a_node n t) a p = let w = one_word RdfType OwlDifferentFrom p in cc w
  marked (a_cell n c v) a p = absurd (no_property OwlDifferentFrom (column_iri base c) (laws.column_meaning c) p)
  marked (a_link n l m) a p = absurd (no_property OwlDifferentFrom (link_iri base l) (laws.link_meaning l) p)

  module _ (triples : List Statement) (are : AreTriplesOf MapKeys base D triples) where
    kept_where_interpreted : HasInterpretation triples → KeepsKeys D
    kept_where_interpreted h t i kind table row violates =
        let node = row_node base D t i in
        let mark = triple_of base (a_mark node) in
        no_conflict triples h mark
        (are.all mark (a_mark node, (1 ∷ t ∷ i ∷ 3 ∷ [], of_row t i (3 ∷ []) (record { table = table; row = row }) refl (row_mark tt kind violates refl refl)), refl)) (inl (refl, refl))

    none_where_kept : KeepsKeys D → (x : Statement) → IsIn x triples → ¬ IsConflict triples x
    none_where_kept kept x i (inl same) =
        let f = are.only x i in
        let v = marked f.0 (says D database base f.1.0 f.0 f.1.1) (ap (λ (z : Statement). z.predicate) (sym f.2) ∙ same.0) in
        kept v.0 v.1 v.2 v.3.table v.3.row v.4
    none_where_kept kept x i (inr (r, j, p, s, none)) =
        let f = are.only x i in
        let g = are.only r j in
        let shut = refused triples x i (range_form r.object) none in
        let open_ = lets g.0 f.0 (says D database base g.1.0 g.0 g.1.1) (says D database base f.1.0 f.0 f.1.1) (ap (λ (z : Statement). z.predicate) (sym g.2) ∙ p)
        (ap (λ (z : Statement). z.subject) (sym g.2) ∙ s ∙ ap (λ (z : Statement). term.Iri z.predicate) f.2) in
        let both : true ≡ false = sym open_ ∙ ap (λ (z : Statement). form_lets (range_form z.object) (triple_of base f.0).object) (sym g.2) ∙ ap (λ (z : Statement). form_lets (range_form r.object) z.object) (sym f.2) ∙ shut in
        cc both

  pub interpreted_where_kept : IsInterpretedWhereKept base D
  interpreted_where_kept = record {
    interpreted = λ triples are. (
      (λ h. kept_where_interpreted triples are h),
      (λ kept. interpretation triples (λ x i. let f = are.only x i in ap (λ (z : Statement). is_literal z.subject) f.2 ∙ subject_is_node base f.0) (none_where_kept triples are kept)),
    );
  }

-- the same of any base
pub interpreted_below : (base : List ℕ) → is_base base ≡ true → (D : Data) → IsDatabase D → IsInterpretedWhereKept base D
interpreted_below base ok D database = interpreted_where_kept base ok (naming_laws base ok) D database
