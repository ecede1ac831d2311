-- What the laws of names give of facts.
use Rattle.std.specs.Prelude.{codes, ◌++◌, ◌≢◌}
use Rattle.names_dm.specs.IriSafe.{stays}
use Rattle.std.proofs.Common.{◌≡◌, ℕ, List, [], ◌∷◌, refl, sym, ap, ◌∙◌, inl, inr, ◌⊎◌, Some}
use Rattle.value_dm.specs.declared.kind.Kind.{Kind}
use Rattle.schema_dm.specs.Naming.{Name}
use Rattle.names_dm.specs.declared.names.ColumnName.{ColumnName}
use Rattle.facts_dm.specs.Facts.{Fact, KindText, Link, Node, a_cell, a_class, a_domain, a_link, a_link_range, a_mark, a_node, a_property, a_range, an_object, link_iri, ref_link, ref_link_iri, table_term, triple_of, word_term}
use Rattle.facts_dm.specs.Vocabulary.{word_iri}
use Rattle.facts_dm.specs.declared.word.Word.{Word}
use Rattle.facts_dm.specs.declared.word.Word.TheVariants.{Datatype, OwlClass, OwlDatatypeProperty, OwlDifferentFrom, OwlObjectProperty, RdfsDomain, RdfsRange, RdfType}
use Rattle.names_dm.specs.Names.{ref_iri, table_iri}
use Rattle.names_dm.specs.declared.term.Term.{Term}
use Rattle.names_dm.specs.declared.term.Term.TheVariants as term
use Rattle.names_dm.specs.declared.names.RefName.{RefName}
use Rattle.facts_dm.specs.Meanings.{NamingLaws, meaning, of_property, of_table, of_word, told_link}
use Rattle.names_dm.specs.Reading.{told_column}
use Rattle.layouts_dm.specs.Layouts.{column_named, property_iri, range_fact, reference_link}

-- a column `ref-x` and a reference on x alone share an IRI
pub alone_iri : (base : List ℕ) (t x : Name) → property_iri base t (codes "ref-" ++ x) ≡ link_iri base (reference_link t (x ∷ []))
unfolding stays
alone_iri base t x = refl

-- a reference on some column has the IRI that references have
reference_iri_of : (base : List ℕ) (t : Name) (columns : List Name) → columns ≢ [] → ref_link_iri base t columns ≡ ref_iri base (record { table = t; columns = columns })
reference_iri_of base t [] n = absurd (n refl)
reference_iri_of base t (x ∷ xs) n = refl

pub reference_iri : (base : List ℕ) (r : RefName) → r.columns ≢ [] → link_iri base (ref_link r) ≡ ref_iri base r
reference_iri base r n = reference_iri_of base r.table r.columns n

module _ (base : List ℕ) (laws : NamingLaws base) where
  pub column-injective : (t x u y : Name) → property_iri base t x ≡ property_iri base u y → (t ≡ u) × (x ≡ y)
  column-injective t x u y e =
      let s : Some (column_named t x) ≡ Some (column_named u y) = sym (laws.column_told (column_named t x)) ∙ ap (told_column base) e ∙ laws.column_told (column_named u y) in
      let r : column_named t x ≡ column_named u y = cc in
      (ap (λ (c : ColumnName). c.table) r, ap (λ (c : ColumnName). c.column) r)

  pub link-injective : (l m : Link) → link_iri base l ≡ link_iri base m → l ≡ m
  link-injective l m e =
      let s : Some l ≡ Some m = sym (laws.link_told l) ∙ ap (told_link base) e ∙ laws.link_told m in cc

  pub table-injective : (t u : Name) → table_iri base t ≡ table_iri base u → t ≡ u
  table-injective t u e = let s : of_table t ≡ of_table u = sym (laws.table_meaning t) ∙ ap (meaning base) e ∙ laws.table_meaning u in cc

  -- two words that one IRI is, are one
  pub word-injective : (v w : Word) → word_iri v ≡ word_iri w → v ≡ w
  word-injective v w e = let s : of_word v ≡ of_word w = sym (laws.word_meaning v) ∙ ap (meaning base) e ∙ laws.word_meaning w in cc

  pub datatype-injective : (k l : Kind) → word_iri (Datatype k) ≡ word_iri (Datatype l) → k ≡ l
  datatype-injective k l e = let s : Datatype k ≡ Datatype l = word-injective (Datatype k) (Datatype l) e in cc

  pub datatype≢table : (k : Kind) (t : Name) → word_iri (Datatype k) ≡ table_iri base t → ⊥
  datatype≢table k t e = let s : of_word (Datatype k) ≡ of_table t = sym (laws.word_meaning (Datatype k)) ∙ ap (meaning base) e ∙ laws.table_meaning t in cc

  pub word≢column : (w : Word) (c : ColumnName) → property_iri base c.table c.column ≡ word_iri w → ⊥
  word≢column w c e = let s : of_property ≡ of_word w = sym (laws.column_meaning c) ∙ ap (meaning base) e ∙ laws.word_meaning w in cc

  pub word≢link : (w : Word) (l : Link) → link_iri base l ≡ word_iri w → ⊥
  word≢link w l e = let s : of_property ≡ of_word w = sym (laws.link_meaning l) ∙ ap (meaning base) e ∙ laws.word_meaning w in cc

  abbrev pub StatesRange : Fact → Type 0
  StatesRange f = ((t : Name) × (c : Name) × (k : Kind) × (f ≡ range_fact t c k)) ⊎ ((l : Link) × (u : Name) × (f ≡ a_link_range l u))

  other_word : (v w : Word) (A : Type 0) → (v ≡ w → ⊥) → word_iri v ≡ word_iri w → A
  other_word v w A h e = absurd (h (word-injective v w e))

  -- a fact whose triple has this predicate states a range, or a domain
  pub range_of : (f : Fact) → (triple_of base f).predicate ≡ word_iri RdfsRange → StatesRange f
  range_of (a_range name k) e = inl (name.table, name.column, k, refl)
  range_of (a_link_range l u) e = inr (l, u, refl)
  range_of (a_class t) e = other_word RdfType RdfsRange _ (λ h. cc) e
  range_of (a_property name) e = other_word RdfType RdfsRange _ (λ h. cc) e
  range_of (an_object l) e = other_word RdfType RdfsRange _ (λ h. cc) e
  range_of (a_domain i t) e = other_word RdfsDomain RdfsRange _ (λ h. cc) e
  range_of (a_node n t) e = other_word RdfType RdfsRange _ (λ h. cc) e
  range_of (a_mark n) e = other_word OwlDifferentFrom RdfsRange _ (λ h. cc) e
  range_of (a_cell n name v) e = absurd (word≢column RdfsRange name e)
  range_of (a_link n l m) e = absurd (word≢link RdfsRange l e)

  pub domain_of : (f : Fact) → (triple_of base f).predicate ≡ word_iri RdfsDomain → (i : List ℕ) × (t : Name) × (f ≡ a_domain i t)
  domain_of (a_domain i t) e = (i, t, refl)
  domain_of (a_range name k) e = other_word RdfsRange RdfsDomain _ (λ h. cc) e
  domain_of (a_link_range l u) e = other_word RdfsRange RdfsDomain _ (λ h. cc) e
  domain_of (a_class t) e = other_word RdfType RdfsDomain _ (λ h. cc) e
  domain_of (a_property name) e = other_word RdfType RdfsDomain _ (λ h. cc) e
  domain_of (an_object l) e = other_word RdfType RdfsDomain _ (λ h. cc) e
  domain_of (a_node n t) e = other_word RdfType RdfsDomain _ (λ h. cc) e
  domain_of (a_mark n) e = other_word OwlDifferentFrom RdfsDomain _ (λ h. cc) e
  domain_of (a_cell n name v) e = absurd (word≢column RdfsDomain name e)
  domain_of (a_link n l m) e = absurd (word≢link RdfsDomain l e)

  -- ---- which facts have a predicate

  abbrev pub StatesType : Fact → Type 0
  StatesType f = ((t : Name) × (f ≡ a_class t)) ⊎ (((c : ColumnName) × (f ≡ a_property c)) ⊎ (((l : Link) × (f ≡ an_object l)) ⊎ ((n : Node) × (t : Name) × (f ≡ a_node n t))))

  -- a fact whose triple has the predicate rdf:type
  pub type_of : (f : Fact) → (triple_of base f).predicate ≡ word_iri RdfType → StatesType f
  type_of (a_class t) e = inl (t, refl)
  type_of (a_property c) e = inr (inl (c, refl))
  type_of (an_object l) e = inr (inr (inl (l, refl)))
  type_of (a_node n t) e = inr (inr (inr (n, t, refl)))
  type_of (a_domain i t) e = other_word RdfsDomain RdfType _ (λ h. cc) e
  type_of (a_range c k) e = other_word RdfsRange RdfType _ (λ h. cc) e
  type_of (a_link_range l u) e = other_word RdfsRange RdfType _ (λ h. cc) e
  type_of (a_mark n) e = other_word OwlDifferentFrom RdfType _ (λ h. cc) e
  type_of (a_cell n c v) e = absurd (word≢column RdfType c e)
  type_of (a_link n l m) e = absurd (word≢link RdfType l e)

  -- a fact whose triple has the predicate owl:differentFrom
  pub mark_of : (f : Fact) → (triple_of base f).predicate ≡ word_iri OwlDifferentFrom → (n : Node) × (f ≡ a_mark n)
  mark_of (a_mark n) e = (n, refl)
  mark_of (a_class t) e = other_word RdfType OwlDifferentFrom _ (λ h. cc) e
  mark_of (a_property c) e = other_word RdfType OwlDifferentFrom _ (λ h. cc) e
  mark_of (an_object l) e = other_word RdfType OwlDifferentFrom _ (λ h. cc) e
  mark_of (a_node n t) e = other_word RdfType OwlDifferentFrom _ (λ h. cc) e
  mark_of (a_domain i t) e = other_word RdfsDomain OwlDifferentFrom _ (λ h. cc) e
  mark_of (a_range c k) e = other_word RdfsRange OwlDifferentFrom _ (λ h. cc) e
  mark_of (a_link_range l u) e = other_word RdfsRange OwlDifferentFrom _ (λ h. cc) e
  mark_of (a_cell n c v) e = absurd (word≢column OwlDifferentFrom c e)
  mark_of (a_link n l m) e = absurd (word≢link OwlDifferentFrom l e)

  -- a fact whose triple has another predicate than these words: a value of a node, or a pair
  pub property_of : (f : Fact) → (triple_of base f).predicate ≢ word_iri RdfType → (triple_of base f).predicate ≢ word_iri RdfsDomain → (triple_of base f).predicate ≢ word_iri RdfsRange
      → (triple_of base f).predicate ≢ word_iri OwlDifferentFrom → ((n : Node) × (c : ColumnName) × (v : KindText) × (f ≡ a_cell n c v)) ⊎ ((n : Node) × (l : Link) × (m : Node) × (f ≡ a_link n l m))
  property_of (a_cell n c v) p q r s = inl (n, c, v, refl)
  property_of (a_link n l m) p q r s = inr (n, l, m, refl)
  property_of (a_class t) p q r s = absurd (p refl)
  property_of (a_property c) p q r s = absurd (p refl)
  property_of (an_object l) p q r s = absurd (p refl)
  property_of (a_node n t) p q r s = absurd (p refl)
  property_of (a_domain i t) p q r s = absurd (q refl)
  property_of (a_range c k) p q r s = absurd (r refl)
  property_of (a_link_range l u) p q r s = absurd (r refl)
  property_of (a_mark n) p q r s = absurd (s refl)

  -- ---- which of them have an object

  pub word≢table : (w : Word) (t : Name) → word_iri w ≡ table_iri base t → ⊥
  word≢table w t e = let s : of_word w ≡ of_table t = sym (laws.word_meaning w) ∙ ap (meaning base) e ∙ laws.table_meaning t in cc

  iri_of : (x y : List ℕ) → term.Iri x ≡ term.Iri y → x ≡ y
  iri_of x y e = cc

  other_object : (v w : Word) (A : Type 0) → (v ≡ w → ⊥) → word_term v ≡ word_term w → A
  other_object v w A h e = absurd (h (word-injective v w (iri_of _ _ e)))

  -- what is of type owl:Class, owl:DatatypeProperty or owl:ObjectProperty, or of a table
  pub class_said : (f : Fact) → StatesType f → (triple_of base f).object ≡ word_term OwlClass → (t : Name) × (f ≡ a_class t)
  class_said f (inl h) e = h
  class_said f (inr (inl h)) e = other_object OwlDatatypeProperty OwlClass _ (λ q. cc) (sym (ap (λ g. (triple_of base g).object) h.1) ∙ e)
  class_said f (inr (inr (inl h))) e = other_object OwlObjectProperty OwlClass _ (λ q. cc) (sym (ap (λ g. (triple_of base g).object) h.1) ∙ e)
  class_said f (inr (inr (inr h))) e = absurd (word≢table OwlClass h.1 (iri_of _ _ (sym e ∙ ap (λ g. (triple_of base g).object) h.2)))

  pub property_said : (f : Fact) → StatesType f → (triple_of base f).object ≡ word_term OwlDatatypeProperty → (c : ColumnName) × (f ≡ a_property c)
  property_said f (inr (inl h)) e = h
  property_said f (inl h) e = other_object OwlClass OwlDatatypeProperty _ (λ q. cc) (sym (ap (λ g. (triple_of base g).object) h.1) ∙ e)
  property_said f (inr (inr (inl h))) e = other_object OwlObjectProperty OwlDatatypeProperty _ (λ q. cc) (sym (ap (λ g. (triple_of base g).object) h.1) ∙ e)
  property_said f (inr (inr (inr h))) e = absurd (word≢table OwlDatatypeProperty h.1 (iri_of _ _ (sym e ∙ ap (λ g. (triple_of base g).object) h.2)))

  pub object_said : (f : Fact) → StatesType f → (triple_of base f).object ≡ word_term OwlObjectProperty → (l : Link) × (f ≡ an_object l)
  object_said f (inr (inr (inl h))) e = h
  object_said f (inl h) e = other_object OwlClass OwlObjectProperty _ (λ q. cc) (sym (ap (λ g. (triple_of base g).object) h.1) ∙ e)
  object_said f (inr (inl h)) e = other_object OwlDatatypeProperty OwlObjectProperty _ (λ q. cc) (sym (ap (λ g. (triple_of base g).object) h.1) ∙ e)
  object_said f (inr (inr (inr h))) e = absurd (word≢table OwlObjectProperty h.1 (iri_of _ _ (sym e ∙ ap (λ g. (triple_of base g).object) h.2)))

  pub node_said : (f : Fact) → StatesType f → (o : Term) → (triple_of base f).object ≡ o → ((w : Word) → o ≢ word_term w) → (n : Node) × (t : Name) × (f ≡ a_node n t)
  node_said f (inr (inr (inr h))) o e n = h
  node_said f (inl h) o e n = absurd (n OwlClass (sym e ∙ ap (λ g. (triple_of base g).object) h.1))
  node_said f (inr (inl h)) o e n = absurd (n OwlDatatypeProperty (sym e ∙ ap (λ g. (triple_of base g).object) h.1))
  node_said f (inr (inr (inl h))) o e n = absurd (n OwlObjectProperty (sym e ∙ ap (λ g. (triple_of base g).object) h.1))

  -- a range is of a column where it is a datatype, and of a link where it is a table
  pub column_range_said : (f : Fact) → StatesRange f → (k : Kind) → (triple_of base f).object ≡ word_term (Datatype k) → (c : ColumnName) × (f ≡ a_range c k)
  column_range_said f (inl h) k e =
      let o : word_term (Datatype h.2) ≡ word_term (Datatype k) = sym (ap (λ g. (triple_of base g).object) h.3) ∙ e in
      (column_named h.0 h.1, h.3 ∙ ap (a_range (column_named h.0 h.1)) (datatype-injective h.2 k (iri_of _ _ o)))
  column_range_said f (inr h) k e = absurd (datatype≢table k h.1 (iri_of _ _ (sym e ∙ ap (λ g. (triple_of base g).object) h.2)))

  pub link_range_said : (f : Fact) → StatesRange f → (u : Name) → (triple_of base f).object ≡ table_term base u → (l : Link) × (f ≡ a_link_range l u)
  link_range_said f (inl h) u e = absurd (datatype≢table h.2 u (iri_of _ _ (sym (ap (λ g. (triple_of base g).object) h.3) ∙ e)))
  link_range_said f (inr h) u e =
      let o : table_term base h.1 ≡ table_term base u = sym (ap (λ g. (triple_of base g).object) h.2) ∙ e in
      (h.0, h.2 ∙ ap (a_link_range h.0) (table-injective h.1 u (iri_of _ _ o)))
