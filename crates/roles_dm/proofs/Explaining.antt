-- By which fact a triple is explained, told by its predicate and its object.
use Rattle.std.proofs.Common.{◌≡◌, ◌≢◌, ◌⊎◌, ◌↔◌, ℕ, List, refl, sym, ap, ◌∙◌, subst, inl, inr}
use Rattle.value_dm.specs.declared.kind.Kind.{Kind}
use Rattle.schema_dm.specs.Naming.{Name}
use Rattle.names_dm.specs.declared.names.ColumnName.{ColumnName}
use Rattle.names_dm.specs.declared.term.Term.{Term}
use Rattle.names_dm.specs.Statements.{Statement}
use Rattle.facts_dm.specs.Facts.{Fact, KindText, Link, Node, a_cell, a_class, a_domain, a_link, a_link_range, a_mark, a_node, a_property, a_range, an_object, triple_of, word_term}
use Rattle.facts_dm.specs.Meanings.{NamingLaws}
use Rattle.facts_dm.specs.Vocabulary.{word_iri}
use Rattle.facts_dm.specs.declared.word.Word.{Word}
use Rattle.facts_dm.specs.declared.word.Word.TheVariants.{OwlClass, OwlDatatypeProperty, OwlDifferentFrom, OwlObjectProperty, RdfsDomain, RdfsRange, RdfType}
use Rattle.layouts_dm.specs.Layouts.{column_named}
use Rattle.layouts_dm.specs.Rules.{Explained, Explains}
use Rattle.layouts_dm.proofs.Facts.{class_said, domain_of, mark_of, node_said, object_said, property_of, property_said, range_of, type_of}

module _ (base : List ℕ) (laws : NamingLaws base) (G : List Statement) where
  -- a triple that says a fact is explained where the fact is
  pub explained_by : (x : Statement) (f : Fact) → x ≡ triple_of base f → Explained base G x ↔ Explains base G f
  explained_by x f e = (
    (λ h. subst (Explains base G) (laws.one_fact h.0 f (sym h.1 ∙ e)) h.2),
    (λ h. (f, e, h)),
  )

  module _ (x : Statement) where
    -- the three terms of a fact make its triple
    pub says_fact : (f : Fact) → x.subject ≡ (triple_of base f).subject → x.predicate ≡ (triple_of base f).predicate → x.object ≡ (triple_of base f).object → x ≡ triple_of base f
    says_fact f s p o = λ i. record { subject = s i; predicate = p i; object = o i }

    predicate_of : (f : Fact) (p : List ℕ) → x ≡ triple_of base f → x.predicate ≡ p → (triple_of base f).predicate ≡ p
    predicate_of f p e h = sym (ap (λ (y : Statement). y.predicate) e) ∙ h

    object_of : (f : Fact) (o : Term) → x ≡ triple_of base f → x.object ≡ o → (triple_of base f).object ≡ o
    object_of f o e h = sym (ap (λ (y : Statement). y.object) e) ∙ h

    -- rdf:type
    pub as_class : x.predicate ≡ word_iri RdfType → x.object ≡ word_term OwlClass → Explained base G x → (t : Name) × (x ≡ triple_of base (a_class t))
    as_class p o h =
        let s = class_said base laws h.0 (type_of base laws h.0 (predicate_of h.0 (word_iri RdfType) h.1 p)) (object_of h.0 (word_term OwlClass) h.1 o) in
        (s.0, h.1 ∙ ap (triple_of base) s.1)

    pub as_property : x.predicate ≡ word_iri RdfType → x.object ≡ word_term OwlDatatypeProperty → Explained base G x → (c : ColumnName) × (x ≡ triple_of base (a_property c))
    as_property p o h =
        let s = property_said base laws h.0 (type_of base laws h.0 (predicate_of h.0 (word_iri RdfType) h.1 p)) (object_of h.0 (word_term OwlDatatypeProperty) h.1 o) in
        (s.0, h.1 ∙ ap (triple_of base) s.1)

    pub as_object : x.predicate ≡ word_iri RdfType → x.object ≡ word_term OwlObjectProperty → Explained base G x → (l : Link) × (x ≡ triple_of base (an_object l))
    as_object p o h =
        let s = object_said base laws h.0 (type_of base laws h.0 (predicate_of h.0 (word_iri RdfType) h.1 p)) (object_of h.0 (word_term OwlObjectProperty) h.1 o) in
        (s.0, h.1 ∙ ap (triple_of base) s.1)

    pub as_node : x.predicate ≡ word_iri RdfType → ((w : Word) → x.object ≢ word_term w) → Explained base G x → (n : Node) × (t : Name) × (x ≡ triple_of base (a_node n t))
    as_node p apart h =
        let s = node_said base laws h.0 (type_of base laws h.0 (predicate_of h.0 (word_iri RdfType) h.1 p)) x.object (object_of h.0 x.object h.1 refl) apart in
        (s.0, s.1, h.1 ∙ ap (triple_of base) s.2)

    -- rdfs:domain and rdfs:range
    pub as_domain : x.predicate ≡ word_iri RdfsDomain → Explained base G x → (i : List ℕ) × (t : Name) × (x ≡ triple_of base (a_domain i t))
    as_domain p h =
        let s = domain_of base laws h.0 (predicate_of h.0 (word_iri RdfsDomain) h.1 p) in
        (s.0, s.1, h.1 ∙ ap (triple_of base) s.2)

    pub as_range : x.predicate ≡ word_iri RdfsRange → Explained base G x
        → ((c : ColumnName) × (k : Kind) × (x ≡ triple_of base (a_range c k))) ⊎ ((l : Link) × (u : Name) × (x ≡ triple_of base (a_link_range l u)))
    as_range p h = elim (range_of base laws h.0 (predicate_of h.0 (word_iri RdfsRange) h.1 p)) [
      | inl s ↦ inl (column_named s.0 s.1, s.2, h.1 ∙ ap (triple_of base) s.3)
      | inr s ↦ inr (s.0, s.1, h.1 ∙ ap (triple_of base) s.2)
    ]

    -- owl:differentFrom
    pub as_mark : x.predicate ≡ word_iri OwlDifferentFrom → Explained base G x → (n : Node) × (x ≡ triple_of base (a_mark n))
    as_mark p h =
        let s = mark_of base laws h.0 (predicate_of h.0 (word_iri OwlDifferentFrom) h.1 p) in
        (s.0, h.1 ∙ ap (triple_of base) s.1)

    -- any other predicate
    pub as_pair : x.predicate ≢ word_iri RdfType → x.predicate ≢ word_iri RdfsDomain → x.predicate ≢ word_iri RdfsRange → x.predicate ≢ word_iri OwlDifferentFrom → Explained base G x
        → ((n : Node) × (c : ColumnName) × (v : KindText) × (x ≡ triple_of base (a_cell n c v))) ⊎ ((n : Node) × (l : Link) × (m : Node) × (x ≡ triple_of base (a_link n l m)))
    as_pair p q r s h =
        let same : x.predicate ≡ (triple_of base h.0).predicate = ap (λ (y : Statement). y.predicate) h.1 in
        elim (property_of base laws h.0 (λ e. p (same ∙ e)) (λ e. q (same ∙ e)) (λ e. r (same ∙ e)) (λ e. s (same ∙ e))) [
          | inl k ↦ inl (k.0, k.1, k.2, h.1 ∙ ap (triple_of base) k.3)
          | inr k ↦ inr (k.0, k.1, k.2, h.1 ∙ ap (triple_of base) k.3)
        ]
