-- A term means one thing, and by what it means the triples of its properties are explained.
use Rattle.std.proofs.Common.{◌≡◌, ◌≢◌, ◌↔◌, ℕ, List, refl, sym, ap, ◌∙◌, subst, inl, inr}
use Rattle.value_dm.specs.declared.kind.Kind.{Kind}
use Rattle.members_dm.specs.Membership.{IsIn}
use Rattle.schema_dm.specs.Naming.{Name}
use Rattle.names_dm.specs.declared.names.ColumnName.{ColumnName}
use Rattle.names_dm.specs.declared.term.Term.TheVariants as term
use Rattle.names_dm.specs.Names.{column_iri}
use Rattle.names_dm.specs.Statements.{Statement}
use Rattle.facts_dm.specs.Facts.{Fact, KindText, Link, Node, a_cell, a_class, a_domain, a_link, a_link_range, a_mark, a_node, a_property, a_range, an_object, link_iri, literal_term, node_term, table_term, triple_of, word_term}
use Rattle.facts_dm.specs.Meanings.{NamingLaws, meaning, of_property, of_table}
use Rattle.facts_dm.specs.Vocabulary.{word_iri}
use Rattle.facts_dm.specs.declared.word.Word.{Word}
use Rattle.facts_dm.specs.declared.word.Word.TheVariants.{Datatype, OwlClass, OwlDatatypeProperty, OwlDifferentFrom, OwlObjectProperty, RdfsDomain, RdfsRange, RdfType}
use Rattle.layouts_dm.specs.Layouts.{column_named}
use Rattle.layouts_dm.specs.Rules.{Explained, Explains, IsClass, IsColumn, IsLink, IsNode}
use Rattle.layouts_dm.specs.Layouts.{IsCanonical}
use Rattle.layouts_dm.proofs.Sound.{link_from, link_to}
use Rattle.layouts_dm.proofs.Facts.{column-injective, datatype-injective, datatype≢table, link-injective, word≢column, word≢link}
use Rattle.roles_dm.specs.Meanings.{Means, means_class, means_column, means_link, means_nothing}
use Rattle.roles_dm.specs.Naming.{column_term, link_term}
use Rattle.roles_dm.proofs.Explaining.{as_class, as_domain, as_mark, as_node, as_object, as_pair, as_property, as_range, explained_by}

iri_of : (x y : List ℕ) → term.Iri x ≡ term.Iri y → x ≡ y
iri_of x y e = cc

module _ (base : List ℕ) (laws : NamingLaws base) where
  pub table≢column : (t : Name) (c : ColumnName) → table_term base t ≡ column_term base c → ⊥
  table≢column t c e = let s : of_table t ≡ of_property = sym (laws.table_meaning t) ∙ ap (meaning base) (iri_of _ _ e) ∙ laws.column_meaning c in cc

  pub table≢link : (t : Name) (l : Link) → table_term base t ≡ link_term base l → ⊥
  table≢link t l e = let s : of_table t ≡ of_property = sym (laws.table_meaning t) ∙ ap (meaning base) (iri_of _ _ e) ∙ laws.link_meaning l in cc

  module _ (G : List Statement) where
    -- no column's IRI is that of a reference or relation, if both are explained: they have different ranges
    pub column≢link : (c : ColumnName) (k : Kind) (l : Link) (t u : Name) → column_term base c ≡ link_term base l → IsColumn base G c.table c.column k → IsLink base G l t u → ⊥
    column≢link c k l t u e column link =
        let same : word_term (Datatype k) ≡ table_term base u = link.linked.one_range (triple_of base (a_range c k)) column.range e refl in
        datatype≢table base laws k u (iri_of _ _ same)

    -- a triple with rdfs:range is explained by what its subject means
    module _ (x : Statement) (there : IsIn x G) (p : x.predicate ≡ word_iri RdfsRange) where
      pub range_of_column : (c : ColumnName) (k : Kind) → Means base G x.subject (means_column c k) → Explained base G x
      range_of_column c k h =
          let object : x.object ≡ word_term (Datatype k) = h.1.one_range x there h.0 p in
          (a_range c k, (λ i. record { subject = h.0 i; predicate = p i; object = object i }), h.1)

      pub range_of_link : (l : Link) (t u : Name) → Means base G x.subject (means_link l t u) → Explained base G x
      range_of_link l t u h =
          let object : x.object ≡ table_term base u = h.1.linked.one_range x there h.0 p in
          (a_link_range l u, (λ i. record { subject = h.0 i; predicate = p i; object = object i }), (t, h.1))

      subject_of : (f : Fact) → x ≡ triple_of base f → x.subject ≡ (triple_of base f).subject
      subject_of f e = ap (λ (y : Statement). y.subject) e

      pub range_of_class : (t : Name) → Means base G x.subject (means_class t) → ¬ Explained base G x
      range_of_class t h e = elim (as_range base laws G x p e) [
        | inl s ↦ table≢column t s.0 (sym h.0 ∙ subject_of (a_range s.0 s.1) s.2)
        | inr s ↦ table≢link t s.0 (sym h.0 ∙ subject_of (a_link_range s.0 s.1) s.2)
      ]

      pub range_of_nothing : Means base G x.subject means_nothing → ¬ Explained base G x
      range_of_nothing h e = elim (as_range base laws G x p e) [
        | inl s ↦ h.1 s.0 s.1 (subject_of (a_range s.0 s.1) s.2) ((explained_by base laws G x (a_range s.0 s.1) s.2).0 e)
        | inr s ↦ (let k = (explained_by base laws G x (a_link_range s.0 s.1) s.2).0 e in h.2 s.0 k.0 s.1 (subject_of (a_link_range s.0 s.1) s.2) k.1)
      ]

    -- a triple with rdfs:domain is explained where its object is the class of what its subject means
    module _ (x : Statement) (p : x.predicate ≡ word_iri RdfsDomain) where
      domain_fact : (i : List ℕ) (t : Name) → x.subject ≡ term.Iri i → x.object ≡ table_term base t → x ≡ triple_of base (a_domain i t)
      domain_fact i t s o = λ j. record { subject = s j; predicate = p j; object = o j }

      pub domain_of_column : (c : ColumnName) (k : Kind) → Means base G x.subject (means_column c k) → Explained base G x ↔ (x.object ≡ table_term base c.table)
      domain_of_column c k h = (
        (λ e.
            let s = as_domain base laws G x p e in
            let iri : term.Iri s.0 ≡ column_term base c = sym (ap (λ (y : Statement). y.subject) s.2) ∙ h.0 in
            let object : x.object ≡ table_term base s.1 = ap (λ (y : Statement). y.object) s.2 in
            elim ((explained_by base laws G x (a_domain s.0 s.1) s.2).0 e) [
              | inl d ↦ object ∙ ap (table_term base) (column-injective base laws s.1 d.0 c.table c.column (d.2 ∙ iri_of _ _ iri)).0
              | inr d ↦ absurd (column≢link c k d.0 s.1 d.1 (sym iri ∙ ap term.Iri (sym d.2)) h.1 d.3)
            ]),
        (λ o. (a_domain (column_iri base c) c.table, domain_fact (column_iri base c) c.table h.0 o, inl (c.column, k, refl, h.1))),
      )

      pub domain_of_link : (l : Link) (t u : Name) → Means base G x.subject (means_link l t u) → Explained base G x ↔ (x.object ≡ table_term base t)
      domain_of_link l t u h = (
        (λ e.
            let s = as_domain base laws G x p e in
            let iri : term.Iri s.0 ≡ link_term base l = sym (ap (λ (y : Statement). y.subject) s.2) ∙ h.0 in
            let object : x.object ≡ table_term base s.1 = ap (λ (y : Statement). y.object) s.2 in
            elim ((explained_by base laws G x (a_domain s.0 s.1) s.2).0 e) [
              | inl d ↦ absurd (column≢link (column_named s.1 d.0) d.1 l t u (ap term.Iri d.2 ∙ iri) d.3 h.1)
              | inr d ↦
                  (let link : IsLink base G l s.1 d.1 = subst (λ m. IsLink base G m s.1 d.1) (link-injective base laws d.0 l (d.2 ∙ iri_of _ _ iri)) d.3 in
                  object ∙ ap (table_term base) (link_from base laws G l s.1 d.1 t u link h.1))
            ]),
        (λ o. (a_domain (link_iri base l) t, domain_fact (link_iri base l) t h.0 o, inr (l, u, refl, h.1))),
      )

      pub domain_of_class : (t : Name) → Means base G x.subject (means_class t) → ¬ Explained base G x
      domain_of_class t h e =
          let s = as_domain base laws G x p e in
          let iri : term.Iri s.0 ≡ table_term base t = sym (ap (λ (y : Statement). y.subject) s.2) ∙ h.0 in
          elim ((explained_by base laws G x (a_domain s.0 s.1) s.2).0 e) [
            | inl d ↦ table≢column t (column_named s.1 d.0) (sym iri ∙ ap term.Iri (sym d.2))
            | inr d ↦ table≢link t d.0 (sym iri ∙ ap term.Iri (sym d.2))
          ]

      pub domain_of_nothing : Means base G x.subject means_nothing → ¬ Explained base G x
      domain_of_nothing h e =
          let s = as_domain base laws G x p e in
          let subject : x.subject ≡ term.Iri s.0 = ap (λ (y : Statement). y.subject) s.2 in
          elim ((explained_by base laws G x (a_domain s.0 s.1) s.2).0 e) [
            | inl d ↦ h.1 (column_named s.1 d.0) d.1 (subject ∙ ap term.Iri (sym d.2)) d.3
            | inr d ↦ h.2 d.0 s.1 d.1 (subject ∙ ap term.Iri (sym d.2)) d.3
          ]

    -- a triple with rdf:type, by its object
    module _ (x : Statement) (p : x.predicate ≡ word_iri RdfType) where
      pub class_explained : (t : Name) → x.object ≡ word_term OwlClass → x.subject ≡ table_term base t → Explained base G x ↔ Explains base G (a_class t)
      class_explained t o s = explained_by base laws G x (a_class t) (λ j. record { subject = s j; predicate = p j; object = o j })

      -- a class that isn't one has no column
      pub class_unexplained : x.object ≡ word_term OwlClass → ((t : Name) → x.subject ≡ table_term base t → ¬ IsClass base G t) → ¬ Explained base G x
      class_unexplained o none e =
          let s = as_class base laws G x p o e in
          none s.0 (ap (λ (y : Statement). y.subject) s.1) ((explained_by base laws G x (a_class s.0) s.1).0 e).2.class

      pub property_explained : (c : ColumnName) (k : Kind) → x.object ≡ word_term OwlDatatypeProperty → Means base G x.subject (means_column c k) → Explained base G x
      property_explained c k o h = (a_property c, (λ j. record { subject = h.0 j; predicate = p j; object = o j }), (k, h.1))

      pub property_unexplained : x.object ≡ word_term OwlDatatypeProperty → ((c : ColumnName) (k : Kind) → x.subject ≡ column_term base c → ¬ IsColumn base G c.table c.column k) → ¬ Explained base G x
      property_unexplained o none e =
          let s = as_property base laws G x p o e in
          let k = (explained_by base laws G x (a_property s.0) s.1).0 e in
          none s.0 k.0 (ap (λ (y : Statement). y.subject) s.1) k.1

      pub object_explained : (l : Link) (t u : Name) → x.object ≡ word_term OwlObjectProperty → Means base G x.subject (means_link l t u) → Explained base G x
      object_explained l t u o h = (an_object l, (λ j. record { subject = h.0 j; predicate = p j; object = o j }), (t, u, h.1))

      pub object_unexplained : x.object ≡ word_term OwlObjectProperty → ((l : Link) (t u : Name) → x.subject ≡ link_term base l → ¬ IsLink base G l t u) → ¬ Explained base G x
      object_unexplained o none e =
          let s = as_object base laws G x p o e in
          let k = (explained_by base laws G x (an_object s.0) s.1).0 e in
          none s.0 k.0 k.1 (ap (λ (y : Statement). y.subject) s.1) k.2

      pub node_explained : (n : Node) (t : Name) → x.subject ≡ node_term n → Means base G x.object (means_class t) → Explained base G x
      node_explained n t s h = (a_node n t, (λ j. record { subject = s j; predicate = p j; object = h.0 j }), h.1)

      pub node_unexplained : ((w : Word) → x.object ≢ word_term w) → ((t : Name) → x.object ≡ table_term base t → ¬ IsClass base G t) → ¬ Explained base G x
      node_unexplained apart none e =
          let s = as_node base laws G x p apart e in
          none s.1 (ap (λ (y : Statement). y.object) s.2) ((explained_by base laws G x (a_node s.0 s.1) s.2).0 e)

    -- a triple with owl:differentFrom
    module _ (x : Statement) (p : x.predicate ≡ word_iri OwlDifferentFrom) where
      pub mark_explained : (n : Node) (t : Name) → x.subject ≡ node_term n → x.object ≡ x.subject → IsNode base G n t → Explained base G x
      mark_explained n t s o h = (a_mark n, (λ j. record { subject = s j; predicate = p j; object = (o ∙ s) j }), (t, h))

      pub mark_told : Explained base G x → (n : Node) × (t : Name) × (x.subject ≡ node_term n) × (x.object ≡ x.subject) × IsNode base G n t
      mark_told e =
          let s = as_mark base laws G x p e in
          let k = (explained_by base laws G x (a_mark s.0) s.1).0 e in
          let subject : x.subject ≡ node_term s.0 = ap (λ (y : Statement). y.subject) s.1 in
          let object : x.object ≡ node_term s.0 = ap (λ (y : Statement). y.object) s.1 in
          (s.0, k.0, subject, object ∙ sym subject, k.1)

    -- a column has one kind
    pub one_kind : (t c : Name) (k m : Kind) → IsColumn base G t c k → IsColumn base G t c m → k ≡ m
    one_kind t c k m a b = datatype-injective base laws k m (iri_of _ _ (b.one_range (triple_of base (a_range (column_named t c) k)) a.range refl refl))

    -- a triple whose predicate is no word of the vocabularies, by what its predicate means
    module _ (x : Statement) where
      column_no_word : (c : ColumnName) → term.Iri x.predicate ≡ column_term base c → (w : Word) → x.predicate ≢ word_iri w
      column_no_word c e w h = word≢column base laws w c (sym (iri_of _ _ e) ∙ h)

      link_no_word : (l : Link) → term.Iri x.predicate ≡ link_term base l → (w : Word) → x.predicate ≢ word_iri w
      link_no_word l e w h = word≢link base laws w l (sym (iri_of _ _ e) ∙ h)

      pub cell_explained : (n : Node) (c : ColumnName) (k : Kind) (v : KindText) → Means base G (term.Iri x.predicate) (means_column c k) → x.subject ≡ node_term n → x.object ≡ literal_term v → v.kind ≡ k
          → IsNode base G n c.table → IsCanonical v → Explained base G x
      cell_explained n c k v h s o kind node canonical =
          (a_cell n c v, (λ j. record { subject = s j; predicate = iri_of _ _ h.0 j; object = o j }), (node, subst (IsColumn base G c.table c.column) (sym kind) h.1, canonical))

      pub record CellTold (c : ColumnName) (k : Kind) : Type 0 where
        pub node : Node
        pub value : KindText
        pub subject : x.subject ≡ node_term node
        pub object : x.object ≡ literal_term value
        pub kind : value.kind ≡ k
        pub is_node : IsNode base G node c.table
        pub canonical : IsCanonical value

      pub cell_told : (c : ColumnName) (k : Kind) → Means base G (term.Iri x.predicate) (means_column c k) → Explained base G x → CellTold c k
      cell_told c k h e =
          let apart = column_no_word c h.0 in
          elim (as_pair base laws G x (apart RdfType) (apart RdfsDomain) (apart RdfsRange) (apart OwlDifferentFrom) e) [
            | inl s ↦
                (let f = (explained_by base laws G x (a_cell s.0 s.1 s.2) s.3).0 e in
                let r = column-injective base laws s.1.table s.1.column c.table c.column (sym (ap (λ (y : Statement). y.predicate) s.3) ∙ iri_of _ _ h.0) in
                let column : IsColumn base G c.table c.column s.2.kind = subst {A = Name × Name} (λ z. IsColumn base G z.0 z.1 s.2.kind) (λ j. (r.0 j, r.1 j)) f.1 in
                record {
                  node = s.0;
                  value = s.2;
                  subject = ap (λ (y : Statement). y.subject) s.3;
                  object = ap (λ (y : Statement). y.object) s.3;
                  kind = one_kind c.table c.column s.2.kind k column h.1;
                  is_node = subst (IsNode base G s.0) r.0 f.0;
                  canonical = f.2;
                })
            | inr s ↦
                (let f = (explained_by base laws G x (a_link s.0 s.1 s.2) s.3).0 e in
                absurd (column≢link c k s.1 f.0 f.1 (sym h.0 ∙ ap (λ (y : Statement). term.Iri y.predicate) s.3) h.1 f.2))
          ]

      pub pair_explained : (n m : Node) (l : Link) (t u : Name) → Means base G (term.Iri x.predicate) (means_link l t u) → x.subject ≡ node_term n → x.object ≡ node_term m → IsNode base G n t → IsNode base G m u → Explained base G x
      pair_explained n m l t u h s o from to =
          (a_link n l m, (λ j. record { subject = s j; predicate = iri_of _ _ h.0 j; object = o j }), (t, u, h.1, from, to))

      pub record PairTold (t u : Name) : Type 0 where
        pub node : Node
        pub other : Node
        pub subject : x.subject ≡ node_term node
        pub object : x.object ≡ node_term other
        pub from : IsNode base G node t
        pub to : IsNode base G other u

      pub pair_told : (l : Link) (t u : Name) → Means base G (term.Iri x.predicate) (means_link l t u) → Explained base G x → PairTold t u
      pair_told l t u h e =
          let apart = link_no_word l h.0 in
          elim (as_pair base laws G x (apart RdfType) (apart RdfsDomain) (apart RdfsRange) (apart OwlDifferentFrom) e) [
            | inl s ↦
                (let f = (explained_by base laws G x (a_cell s.0 s.1 s.2) s.3).0 e in
                absurd (column≢link s.1 s.2.kind l t u (sym (ap (λ (y : Statement). term.Iri y.predicate) s.3) ∙ h.0) f.1 h.1))
            | inr s ↦
                (let f = (explained_by base laws G x (a_link s.0 s.1 s.2) s.3).0 e in
                let same = link-injective base laws s.1 l (sym (ap (λ (y : Statement). y.predicate) s.3) ∙ iri_of _ _ h.0) in
                let link : IsLink base G l f.0 f.1 = subst (λ m. IsLink base G m f.0 f.1) same f.2 in
                record {
                  node = s.0;
                  other = s.2;
                  subject = ap (λ (y : Statement). y.subject) s.3;
                  object = ap (λ (y : Statement). y.object) s.3;
                  from = subst (IsNode base G s.0) (link_from base laws G l f.0 f.1 t u link h.1) f.3;
                  to = subst (IsNode base G s.2) (link_to base laws G l f.0 f.1 t u link h.1) f.4;
                })
          ]

      -- where the predicate is no word, no column and no link
      pub pair_unexplained : x.predicate ≢ word_iri RdfType → x.predicate ≢ word_iri RdfsDomain → x.predicate ≢ word_iri RdfsRange → x.predicate ≢ word_iri OwlDifferentFrom → Means base G (term.Iri x.predicate) means_nothing → ¬ Explained base G x
      pair_unexplained no_type no_domain no_range no_different h e = elim (as_pair base laws G x no_type no_domain no_range no_different e) [
        | inl s ↦ h.1 s.1 s.2.kind (ap (λ (y : Statement). term.Iri y.predicate) s.3) ((explained_by base laws G x (a_cell s.0 s.1 s.2) s.3).0 e).1
        | inr s ↦ (let f = (explained_by base laws G x (a_link s.0 s.1 s.2) s.3).0 e in h.2 s.1 f.0 f.1 (ap (λ (y : Statement). term.Iri y.predicate) s.3) f.2)
      ]

      pub class_pair_unexplained : x.predicate ≢ word_iri RdfType → x.predicate ≢ word_iri RdfsDomain → x.predicate ≢ word_iri RdfsRange → x.predicate ≢ word_iri OwlDifferentFrom → (t : Name) → Means base G (term.Iri x.predicate) (means_class t) → ¬ Explained base G x
      class_pair_unexplained no_type no_domain no_range no_different t h e = elim (as_pair base laws G x no_type no_domain no_range no_different e) [
        | inl s ↦ table≢column t s.1 (sym h.0 ∙ ap (λ (y : Statement). term.Iri y.predicate) s.3)
        | inr s ↦ table≢link t s.1 (sym h.0 ∙ ap (λ (y : Statement). term.Iri y.predicate) s.3)
      ]
