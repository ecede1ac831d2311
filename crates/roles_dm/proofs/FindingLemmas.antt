-- What a triple says, by the roles of its terms.
use Rattle.std.proofs.Common.{◌≡◌, ◌≢◌, ◌<◌, ◌↔◌, ℕ, zero, suc, List, [], ◌∷◌, None, Some, true, false, refl, sym, ap, ◌∙◌, subst, inl, inr, arith, length, IsTrue}
use Rattle.std.specs.Prelude.{slice_get}
use Rattle.std.proofs.lemmas.Bool.Decides.{eqb_tells}
use Rattle.std.proofs.lemmas.Option.{slice_get_within}
use Rattle.value_dm.specs.declared.kind.Kind.{Kind}
use Rattle.schema_dm.specs.Naming.{Name}
use Rattle.names_dm.specs.declared.names.ColumnName.{ColumnName}
use Rattle.names_dm.specs.declared.names.RelName.{RelName}
use Rattle.names_dm.specs.declared.names.RefName.{RefName}
use Rattle.names_dm.specs.declared.term.Term.{Term}
use Rattle.names_dm.specs.declared.term.Term.TheVariants as term
use Rattle.names_dm.specs.Names.{column_iri}
use Rattle.names_dm.specs.Statements.{Statement, is_literal}
use Rattle.facts_dm.specs.Facts.{Fact, Link, Node, a_class, a_domain, a_link, a_link_range, a_node, a_property, a_range, an_object, blank, iri, link_iri, node_term, ref_link, table_term, triple_of, word_term}
use Rattle.facts_dm.specs.Vocabulary.{word_iri}
use Rattle.facts_dm.specs.declared.word.Word.TheVariants.{Datatype, OwlClass, OwlDatatypeProperty, OwlDifferentFrom, OwlObjectProperty, RdfsDomain, RdfsRange, RdfType}
use Rattle.store_dm.specs.Graphs.{GraphValue, HasTriple, HoldsTerm}
use Rattle.store_dm.specs.Terms.{term_at}
use Rattle.layouts_dm.specs.Layouts.{column_named}
use Rattle.layouts_dm.specs.Rules.{Explained, Explains, IsClass, IsColumn, IsLink, Says}
use Rattle.layouts_dm.proofs.Facts.{StatesType, column-injective, type_of}
use Rattle.roles_dm.specs.Canonical.{IsCanonicalOf}
use Rattle.roles_dm.specs.Columned.{AreColumned, HasColumned}
use Rattle.roles_dm.specs.Findings.{Finds, IsExplainedBy, IsPlainProperty, IsTripleOf}
use Rattle.roles_dm.specs.Naming.{column_term, link_term}
use Rattle.roles_dm.specs.Numbers.{HasNumbers, IsNumberOf}
use Rattle.roles_dm.specs.Roles.{AreEnds, IsColumnRole, IsLinkRole, IsRead, IsRole, link_named, role_at}
use Rattle.roles_dm.specs.declared.finding.Finding.{Finding}
use Rattle.roles_dm.specs.declared.finding.Finding.TheVariants as finding
use Rattle.roles_dm.specs.declared.columned.Columned.{Columned}
use Rattle.roles_dm.specs.declared.numbered.Numbered.{Numbered}
use Rattle.roles_dm.specs.declared.role.ColumnRole.{ColumnRole}
use Rattle.roles_dm.specs.declared.role.LinkName.{LinkName}
use Rattle.roles_dm.specs.declared.role.LinkName.TheVariants.{Reference, Relation}
use Rattle.roles_dm.specs.declared.role.LinkRole.{LinkRole}
use Rattle.roles_dm.specs.declared.role.Role.{Role}
use Rattle.roles_dm.specs.declared.role.Role.TheVariants as variant
use Rattle.roles_dm.specs.declared.words.Words.{Words}
use Rattle.roles_dm.proofs.Explaining.{as_class, as_mark, explained_by}
use Rattle.roles_dm.proofs.MeaningLemmas.{cell_told, class_pair_unexplained, column≢link, domain_of_class, domain_of_column, domain_of_link, domain_of_nothing, object_unexplained, PairTold, pair_told, pair_unexplained, property_unexplained, range_of_class, range_of_nothing, table≢column, table≢link}
use Rattle.roles_dm.proofs.NumberLemmas.{not_zero, number_held, says}

iri_of : (a b : List ℕ) → term.Iri a ≡ term.Iri b → a ≡ b
iri_of a b e = cc

-- ---- numbers and roles of terms

some_at : {X : Type 0} (xs : List X) (k : ℕ) → k < length xs → (x : X) × (slice_get xs k ≡ Some x)
some_at [] k l = absurd (omega (arith, l))
some_at (x ∷ xs) zero l = (x, refl)
some_at (x ∷ xs) (suc k) l = some_at xs k (omega (arith, l))

module _ (base : List ℕ) (g : GraphValue) (w : Words) (rs : List Role) (G : List Statement) (read : IsRead base g w rs G) where
  -- each term has a role
  pub role_there : (m : ℕ) (y : Term) → term_at g.terms m ≡ Some y → (role : Role) × (role_at rs m ≡ Some role) × IsRole base g G y role
  role_there zero y at = absurd (let e : None ≡ Some y = at in cc)
  role_there (suc k) y at =
      let below : k < length rs = subst (λ c. k < c) (sym read.roles.count) (slice_get_within g.terms k y at) in
      let found = some_at rs k below in
      (found.0, found.1, read.roles.each (suc k) y found.0 at found.1)

  pub no_role : (m : ℕ) (y : Term) → term_at g.terms m ≡ Some y → role_at rs m ≢ None
  no_role m y at e = let found = role_there m y at in let f : Some found.0 ≡ None = sym found.1 ∙ e in cc

  pub role_is : (m : ℕ) (y : Term) (role : Role) → term_at g.terms m ≡ Some y → role_at rs m ≡ Some role → IsRole base g G y role
  role_is m y role at e = read.roles.each m y role at e

  -- each role is that of a term
  pub term_there : (k : ℕ) (role : Role) → slice_get rs k ≡ Some role → (y : Term) × (term_at g.terms (suc k) ≡ Some y)
  term_there k role e = some_at g.terms k (subst (λ c. k < c) read.roles.count (slice_get_within rs k role e))

  pub number_there : (y : Term) (m : ℕ) → IsNumberOf g y m → HoldsTerm g y → term_at g.terms m ≡ Some y
  number_there y m (inl h) holds = absurd (h.1 holds)
  number_there y m (inr h) holds = h.1

  pub same_term : (y z : Term) (m k : ℕ) → term_at g.terms m ≡ Some y → IsNumberOf g z k → m ≡ k → y ≡ z
  same_term y z m k at (inl h) e = absurd (not_zero g.terms y m at (e ∙ h.0))
  same_term y z m k at (inr h) e = let f : Some y ≡ Some z = sym at ∙ ap (term_at g.terms) e ∙ h.1 in cc

  pub same_number : (y z : Term) (m k : ℕ) → term_at g.terms m ≡ Some y → HoldsTerm g y → IsNumberOf g z k → y ≡ z → m ≡ k
  same_number y z m k at holds number e = number_held g G read.graph z k m number (subst (HoldsTerm g) e holds) (at ∙ ap Some e)

module _ (base : List ℕ) (g : GraphValue) (w : Words) (rs : List Role) (G : List Statement) (x : Statement) (n : Numbered) (t : IsTripleOf base g w rs G x n) where
  held : HasTriple g x
  held = (t.read.graph.same x).1 t.there

  holds_subject : HoldsTerm g x.subject
  holds_subject = (held.0, held.1, inl held.2.0)

  holds_predicate : HoldsTerm g (term.Iri x.predicate)
  holds_predicate = (held.0, held.1, inr (inl held.2.1))

  holds_object : HoldsTerm g x.object
  holds_object = (held.0, held.1, inr (inr held.2.2))

  pub subject_at : term_at g.terms n.subject ≡ Some x.subject
  subject_at = number_there base g w rs G t.read x.subject n.subject t.numbers.subject holds_subject

  pub predicate_at : term_at g.terms n.predicate ≡ Some (term.Iri x.predicate)
  predicate_at = number_there base g w rs G t.read (term.Iri x.predicate) n.predicate t.numbers.predicate holds_predicate

  pub object_at : term_at g.terms n.object ≡ Some x.object
  object_at = number_there base g w rs G t.read x.object n.object t.numbers.object holds_object

  -- ---- terms and numbers are the same together

  pub object_is : (z : Term) (k : ℕ) → IsNumberOf g z k → n.object ≡ k → x.object ≡ z
  object_is z k number e = same_term base g w rs G t.read x.object z n.object k object_at number e

  pub object_number : (z : Term) (k : ℕ) → IsNumberOf g z k → x.object ≡ z → n.object ≡ k
  object_number z k number e = same_number base g w rs G t.read x.object z n.object k object_at holds_object number e

  pub subject_is : (z : Term) (k : ℕ) → IsNumberOf g z k → n.subject ≡ k → x.subject ≡ z
  subject_is z k number e = same_term base g w rs G t.read x.subject z n.subject k subject_at number e

  pub subject_number : (z : Term) (k : ℕ) → IsNumberOf g z k → x.subject ≡ z → n.subject ≡ k
  subject_number z k number e = same_number base g w rs G t.read x.subject z n.subject k subject_at holds_subject number e

  pub predicate_is : (i : List ℕ) (k : ℕ) → IsNumberOf g (term.Iri i) k → n.predicate ≡ k → x.predicate ≡ i
  predicate_is i k number e = iri_of _ _ (same_term base g w rs G t.read (term.Iri x.predicate) (term.Iri i) n.predicate k predicate_at number e)

  pub predicate_number : (i : List ℕ) (k : ℕ) → IsNumberOf g (term.Iri i) k → x.predicate ≡ i → n.predicate ≡ k
  predicate_number i k number e = same_number base g w rs G t.read (term.Iri x.predicate) (term.Iri i) n.predicate k predicate_at holds_predicate number (ap term.Iri e)

  -- ---- what no other role has

  -- the role of a column's IRI is that column
  pub column_role : (c : ColumnName) (k : Kind) (role : Role) → IsRole base g G (column_term base c) role → IsColumn base G c.table c.column k → (column : ColumnRole) × (role ≡ variant.Column column) × IsColumnRole base g G (column_term base c) column
  column_role c k (variant.Class name) h is = absurd (table≢column base t.laws name c (sym h.0))
  column_role c k (variant.Column column) h is = (column, refl, h)
  column_role c k (variant.Link link) h is = absurd (column≢link base t.laws G c k (link_named link.name) h.source h.target h.term is h.link)
  column_role c k variant.Nothing h is = absurd (h.1 c k refl is)

  -- the role of a class's IRI is that class
  pub class_role : (name : Name) (role : Role) → IsRole base g G (table_term base name) role → IsClass base G name → (other : Name) × (role ≡ variant.Class other)
  class_role name (variant.Class other) h is = (other, refl)
  class_role name (variant.Column column) h is = absurd (table≢column base t.laws name column.name h.term)
  class_role name (variant.Link link) h is = absurd (table≢link base t.laws name (link_named link.name) h.term)
  class_role name variant.Nothing h is = absurd (h.0 name refl is)

  abbrev IsNoColumn : Type 0
  IsNoColumn = (c : ColumnName) (k : Kind) → x.subject ≡ column_term base c → ¬ IsColumn base G c.table c.column k

  abbrev IsNoLink : Type 0
  IsNoLink = (l : Link) (from to : Name) → x.subject ≡ link_term base l → ¬ IsLink base G l from to

  class_no_column : (name : Name) → IsRole base g G x.subject (variant.Class name) → IsNoColumn
  class_no_column name h c k e is = table≢column base t.laws name c (sym h.0 ∙ e)

  link_no_column : (link : LinkRole) → IsRole base g G x.subject (variant.Link link) → IsNoColumn
  link_no_column link h c k e is = column≢link base t.laws G c k (link_named link.name) h.source h.target (sym e ∙ h.term) is h.link

  class_no_link : (name : Name) → IsRole base g G x.subject (variant.Class name) → IsNoLink
  class_no_link name h l from to e is = table≢link base t.laws name l (sym h.0 ∙ e)

  column_no_link : (column : ColumnRole) → IsRole base g G x.subject (variant.Column column) → IsNoLink
  column_no_link column h l from to e is = column≢link base t.laws G column.name column.kind l from to (sym h.term ∙ e) h.column is

  -- ---- rdf:type

  module _ (p : x.predicate ≡ word_iri RdfType) where
    module _ (o : x.object ≡ word_term OwlClass) where
      pub class_free : (columned : Columned) (name : Name) → AreColumned rs columned → IsRole base g G x.subject (variant.Class name) → HasColumned columned n.subject → Finds base g G x finding.Free
      class_free columned name are h has =
          let k = (are n.subject).0 has in
          let column : ColumnRole = k.3.0 in
          let y = term_there base g w rs G t.read k.0 k.1 k.2 in
          let r : IsColumnRole base g G y.0 column = role_is base g w rs G t.read (suc k.0) y.0 (variant.Column column) y.1 (k.2 ∙ ap Some k.3.1) in
          let subject : x.subject ≡ table_term base column.name.table = subject_is (table_term base column.name.table) column.class r.class (sym k.3.2) in
          (a_class column.name.table, tt, ((λ j. record { subject = subject j; predicate = p j; object = o j }), (column.name.column, column.kind, r.column)))

      pub class_bare : (columned : Columned) → AreColumned rs columned → ¬ HasColumned columned n.subject → Finds base g G x finding.Unexplained
      class_bare columned are none e =
          let s = as_class base t.laws G x p o e in
          let ex : Explains base G (a_class s.0) = (explained_by base t.laws G x (a_class s.0) s.1).0 e in
          let c : ColumnName = column_named s.0 ex.0 in
          let column : IsColumn base G c.table c.column ex.1 = ex.2 in
          let k = (t.read.graph.same (triple_of base (a_property c))).1 column.property in
          go c ex.1 column (ap (λ (y : Statement). y.subject) s.1) k.0.first k.2.0
        where
          go : (c : ColumnName) (k : Kind) → IsColumn base G c.table c.column k → x.subject ≡ table_term base c.table → (m : ℕ) → term_at g.terms m ≡ Some (column_term base c) → ⊥
          go c k column subject zero at = let f : None ≡ Some (column_term base c) = at in cc
          go c k column subject (suc m) at =
              let found = role_there base g w rs G t.read (suc m) (column_term base c) at in
              let r = column_role c k found.0 found.2 column in
              let name = column-injective base t.laws c.table c.column r.0.name.table r.0.name.column (iri_of _ _ r.2.term) in
              let number : n.subject ≡ r.0.class = subject_number (table_term base r.0.name.table) r.0.class r.2.class (subject ∙ ap (table_term base) name.0) in
              none ((are n.subject).1 (m, found.0, found.1, (r.0, r.1, sym number)))

      pub class_none : IsRole base g G x.subject variant.Nothing → Finds base g G x finding.Unexplained
      class_none h e =
          let s = as_class base t.laws G x p o e in
          let ex : Explains base G (a_class s.0) = (explained_by base t.laws G x (a_class s.0) s.1).0 e in
          h.0 s.0 (ap (λ (y : Statement). y.subject) s.1) ex.2.class

      pub class_column : (column : ColumnRole) → IsRole base g G x.subject (variant.Column column) → Finds base g G x finding.Unexplained
      class_column column h e =
          let s = as_class base t.laws G x p o e in
          table≢column base t.laws s.0 column.name (sym (ap (λ (y : Statement). y.subject) s.1) ∙ h.term)

      pub class_link : (link : LinkRole) → IsRole base g G x.subject (variant.Link link) → Finds base g G x finding.Unexplained
      class_link link h e =
          let s = as_class base t.laws G x p o e in
          table≢link base t.laws s.0 (link_named link.name) (sym (ap (λ (y : Statement). y.subject) s.1) ∙ h.term)

    module _ (o : x.object ≡ word_term OwlDatatypeProperty) where
      pub literals_column : (column : ColumnRole) → IsRole base g G x.subject (variant.Column column) → Finds base g G x finding.Free
      literals_column column h = (a_property column.name, tt, ((λ j. record { subject = h.term j; predicate = p j; object = o j }), (column.kind, h.column)))

      pub literals_class : (name : Name) → IsRole base g G x.subject (variant.Class name) → Finds base g G x finding.Unexplained
      literals_class name h = property_unexplained base t.laws G x p o (class_no_column name h)

      pub literals_link : (link : LinkRole) → IsRole base g G x.subject (variant.Link link) → Finds base g G x finding.Unexplained
      literals_link link h = property_unexplained base t.laws G x p o (link_no_column link h)

      pub literals_none : IsRole base g G x.subject variant.Nothing → Finds base g G x finding.Unexplained
      literals_none h = property_unexplained base t.laws G x p o h.1

    module _ (o : x.object ≡ word_term OwlObjectProperty) where
      pub nodes_link : (link : LinkRole) → IsRole base g G x.subject (variant.Link link) → Finds base g G x finding.Free
      nodes_link link h = (an_object (link_named link.name), tt, ((λ j. record { subject = h.term j; predicate = p j; object = o j }), (h.source, h.target, h.link)))

      pub nodes_class : (name : Name) → IsRole base g G x.subject (variant.Class name) → Finds base g G x finding.Unexplained
      nodes_class name h = object_unexplained base t.laws G x p o (class_no_link name h)

      pub nodes_column : (column : ColumnRole) → IsRole base g G x.subject (variant.Column column) → Finds base g G x finding.Unexplained
      nodes_column column h = object_unexplained base t.laws G x p o (column_no_link column h)

      pub nodes_none : IsRole base g G x.subject variant.Nothing → Finds base g G x finding.Unexplained
      nodes_none h = object_unexplained base t.laws G x p o h.2

    module _ (no_class : x.object ≢ word_term OwlClass) (no_literals : x.object ≢ word_term OwlDatatypeProperty) (no_nodes : x.object ≢ word_term OwlObjectProperty) where
      -- it is explained as a node of a class alone
      node_told : Explained base G x → (name : Name) × (x.object ≡ table_term base name) × IsClass base G name
      node_told e = go (type_of base t.laws e.0 (sym (ap (λ (y : Statement). y.predicate) e.1) ∙ p))
        where
          object : (f : Fact) → e.0 ≡ f → x.object ≡ (triple_of base f).object
          object f q = ap (λ (y : Statement). y.object) e.1 ∙ ap (λ h. (triple_of base h).object) q

          go : StatesType base t.laws e.0 → (name : Name) × (x.object ≡ table_term base name) × IsClass base G name
          go (inl h) = absurd (no_class (object (a_class h.0) h.1))
          go (inr (inl h)) = absurd (no_literals (object (a_property h.0) h.1))
          go (inr (inr (inl h))) = absurd (no_nodes (object (an_object h.0) h.1))
          go (inr (inr (inr h))) = (h.1, object (a_node h.0 h.1) h.2, subst (Explains base G) h.2 e.2)

      pub node_class : (name : Name) → IsRole base g G x.object (variant.Class name) → Finds base g G x finding.Class
      node_class name h = (t.node.0, name, ((λ j. record { subject = t.node.1 j; predicate = p j; object = h.0 j }), h.1))

      pub node_column : (column : ColumnRole) → IsRole base g G x.object (variant.Column column) → Finds base g G x finding.Unexplained
      node_column column h e = let k = node_told e in table≢column base t.laws k.0 column.name (sym k.1 ∙ h.term)

      pub node_link : (link : LinkRole) → IsRole base g G x.object (variant.Link link) → Finds base g G x finding.Unexplained
      node_link link h e = let k = node_told e in table≢link base t.laws k.0 (link_named link.name) (sym k.1 ∙ h.term)

      pub node_none : IsRole base g G x.object variant.Nothing → Finds base g G x finding.Unexplained
      node_none h e = let k = node_told e in h.0 k.0 k.1 k.2

  -- ---- rdfs:domain

  module _ (p : x.predicate ≡ word_iri RdfsDomain) where
    pub domain_column : (column : ColumnRole) → IsRole base g G x.subject (variant.Column column) → n.object ≡ column.class → Finds base g G x finding.Free
    domain_column column h e =
        let object : x.object ≡ table_term base column.name.table = object_is (table_term base column.name.table) column.class h.class e in
        (a_domain (column_iri base column.name) column.name.table, tt, ((λ j. record { subject = h.term j; predicate = p j; object = object j }), inl (column.name.column, column.kind, refl, h.column)))

    pub other_domain_column : (column : ColumnRole) → IsRole base g G x.subject (variant.Column column) → n.object ≢ column.class → Finds base g G x finding.Unexplained
    other_domain_column column h apart e = apart (object_number (table_term base column.name.table) column.class h.class ((domain_of_column base t.laws G x p column.name column.kind (h.term, h.column)).0 e))

    pub domain_link : (link : LinkRole) → IsRole base g G x.subject (variant.Link link) → n.object ≡ link.from → Finds base g G x finding.Free
    domain_link link h e =
        let object : x.object ≡ table_term base h.source = object_is (table_term base h.source) link.from h.from e in
        (a_domain (link_iri base (link_named link.name)) h.source, tt, ((λ j. record { subject = h.term j; predicate = p j; object = object j }), inr (link_named link.name, h.target, refl, h.link)))

    pub other_domain_link : (link : LinkRole) → IsRole base g G x.subject (variant.Link link) → n.object ≢ link.from → Finds base g G x finding.Unexplained
    other_domain_link link h apart e = apart (object_number (table_term base h.source) link.from h.from ((domain_of_link base t.laws G x p (link_named link.name) h.source h.target (h.term, h.link)).0 e))

    module _ (f : Finding) where
      pub column_domain : (column : ColumnRole) → IsRole base g G x.subject (variant.Column column) → (n.object ≡ column.class → f ≡ finding.Free) → (n.object ≢ column.class → f ≡ finding.Unexplained) → Finds base g G x f
      column_domain column h same apart = elim (eqb_tells n.object column.class) [
        | inl e ↦ subst (Finds base g G x) (sym (same e.1)) (domain_column column h e.1)
        | inr e ↦ subst (Finds base g G x) (sym (apart e.1)) (other_domain_column column h e.1)
      ]

      pub link_domain : (link : LinkRole) → IsRole base g G x.subject (variant.Link link) → (n.object ≡ link.from → f ≡ finding.Free) → (n.object ≢ link.from → f ≡ finding.Unexplained) → Finds base g G x f
      link_domain link h same apart = elim (eqb_tells n.object link.from) [
        | inl e ↦ subst (Finds base g G x) (sym (same e.1)) (domain_link link h e.1)
        | inr e ↦ subst (Finds base g G x) (sym (apart e.1)) (other_domain_link link h e.1)
      ]

    pub domain_class : (name : Name) → IsRole base g G x.subject (variant.Class name) → Finds base g G x finding.Unexplained
    domain_class name h = domain_of_class base t.laws G x p name h

    pub domain_none : IsRole base g G x.subject variant.Nothing → Finds base g G x finding.Unexplained
    domain_none h = domain_of_nothing base t.laws G x p h

  -- ---- rdfs:range

  module _ (p : x.predicate ≡ word_iri RdfsRange) where
    pub range_column : (column : ColumnRole) → IsRole base g G x.subject (variant.Column column) → Finds base g G x finding.Free
    range_column column h =
        let object : x.object ≡ word_term (Datatype column.kind) = h.column.one_range x t.there h.term p in
        (a_range column.name column.kind, tt, ((λ j. record { subject = h.term j; predicate = p j; object = object j }), h.column))

    pub range_link : (link : LinkRole) → IsRole base g G x.subject (variant.Link link) → Finds base g G x finding.Free
    range_link link h =
        let object : x.object ≡ table_term base h.target = h.link.linked.one_range x t.there h.term p in
        (a_link_range (link_named link.name) h.target, tt, ((λ j. record { subject = h.term j; predicate = p j; object = object j }), (h.source, h.link)))

    pub range_class : (name : Name) → IsRole base g G x.subject (variant.Class name) → Finds base g G x finding.Unexplained
    range_class name h = range_of_class base t.laws G x t.there p name h

    pub range_none : IsRole base g G x.subject variant.Nothing → Finds base g G x finding.Unexplained
    range_none h = range_of_nothing base t.laws G x t.there p h

  -- ---- owl:differentFrom

  module _ (p : x.predicate ≡ word_iri OwlDifferentFrom) where
    pub mark : n.subject ≡ n.object → Finds base g G x finding.Mark
    mark e =
        let same : x.subject ≡ x.object = subject_is x.object n.object t.numbers.object e in
        (t.node.0, (λ j. record { subject = t.node.1 j; predicate = p j; object = (sym same ∙ t.node.1) j }))

    pub no_mark : n.subject ≢ n.object → Finds base g G x finding.Unexplained
    no_mark apart e =
        let s = as_mark base t.laws G x p e in
        apart (subject_number x.object n.object t.numbers.object (ap (λ (y : Statement). y.subject) s.1 ∙ sym (ap (λ (y : Statement). y.object) s.1)))

  -- ---- columns, references and relations

  -- a term is a node of a class where its numbers say so
  pub node_says : (y : Term) (m : ℕ) (node : Node) (name : Name) (class : ℕ) → IsNumberOf g y m → y ≡ node_term node → IsNumberOf g (table_term base name) class → HasNumbers g m w.rdf_type class ↔ Says base G (a_node node name)
  node_says y m node name class number e is = says g G t.read.graph (triple_of base (a_node node name)) m w.rdf_type class (subst (λ z. IsNumberOf g z m) e number) t.read.words.rdf_type is

  module _ (column : ColumnRole) (h : IsColumnRole base g G (term.Iri x.predicate) column) where
    pub no_value_node : ¬ HasNumbers g n.subject w.rdf_type column.class → Finds base g G x finding.Unexplained
    no_value_node none e =
        let k = cell_told base t.laws G x column.name column.kind (h.term, h.column) e in
        none ((node_says x.subject n.subject k.node column.name.table column.class t.numbers.subject k.subject h.class).1 k.is_node.1)

    pub value : HasNumbers g n.subject w.rdf_type column.class → IsCanonicalOf column.kind x.object → Finds base g G x finding.Value
    value has canonical = (
      t.node.0,
      column.name,
      canonical.0,
      (
        (λ j. record { subject = t.node.1 j; predicate = iri_of _ _ h.term j; object = canonical.1 j }),
        ((h.column.class, (node_says x.subject n.subject t.node.0 column.name.table column.class t.numbers.subject t.node.1 h.class).0 has), subst (IsColumn base G column.name.table column.name.column) (sym canonical.2) h.column, canonical.3),
      ),
    )

    pub no_value : ¬ IsCanonicalOf column.kind x.object → Finds base g G x finding.Unexplained
    no_value none e =
        let k = cell_told base t.laws G x column.name column.kind (h.term, h.column) e in
        none (k.value, k.object, k.kind, k.canonical)

  literal_no_node : (y : Term) (m : Node) → y ≡ node_term m → IsTrue (is_literal y) → ⊥
  literal_no_node y (iri i) e l = let f : IsTrue (is_literal (term.Iri i)) = subst (λ z. IsTrue (is_literal z)) e l in let q : false ≡ true = f in cc
  literal_no_node y (blank b) e l = let f : IsTrue (is_literal (term.Blank b)) = subst (λ z. IsTrue (is_literal z)) e l in let q : false ≡ true = f in cc

  node_of : (y : Term) → is_literal y ≡ false → (m : Node) × (y ≡ node_term m)
  node_of (term.Iri i) e = (iri i, refl)
  node_of (term.Blank b) e = (blank b, refl)
  node_of (term.Literal l) e = absurd (let q : true ≡ false = e in cc)

  module _ (link : LinkRole) (h : IsLinkRole base g G (term.Iri x.predicate) link) where
    told : Explained base G x → PairTold base t.laws G x h.source h.target
    told e = pair_told base t.laws G x (link_named link.name) h.source h.target (h.term, h.link) e

    pub no_pair_literal : is_literal x.object ≡ true → Finds base g G x finding.Unexplained
    no_pair_literal l e = literal_no_node x.object (told e).other (told e).object l

    pub no_pair_from : ¬ HasNumbers g n.subject w.rdf_type link.from → Finds base g G x finding.Unexplained
    no_pair_from none e = none ((node_says x.subject n.subject (told e).node h.source link.from t.numbers.subject (told e).subject h.from).1 (told e).from.1)

    pub no_pair_to : ¬ HasNumbers g n.object w.rdf_type link.to → Finds base g G x finding.Unexplained
    no_pair_to none e = none ((node_says x.object n.object (told e).other h.target link.to t.numbers.object (told e).object h.to).1 (told e).to.1)

    module _ (from : HasNumbers g n.subject w.rdf_type link.from) (to : HasNumbers g n.object w.rdf_type link.to) (no_literal : is_literal x.object ≡ false) where
      other : (m : Node) × (x.object ≡ node_term m)
      other = node_of x.object no_literal

      pair_explained : IsExplainedBy base G x (a_link t.node.0 (link_named link.name) other.0)
      pair_explained = (
        (λ j. record { subject = t.node.1 j; predicate = iri_of _ _ h.term j; object = other.1 j }),
        (h.source, h.target, h.link, (h.link.linked.from, (node_says x.subject n.subject t.node.0 h.source link.from t.numbers.subject t.node.1 h.from).0 from), (h.link.linked.to, (node_says x.object n.object other.0 h.target link.to t.numbers.object other.1 h.to).0 to)),
      )

      pub reference_pair : (r : RefName) → link.name ≡ Reference r → Finds base g G x finding.Free
      reference_pair r e = (a_link t.node.0 (ref_link r) other.0, tt, subst (λ l. IsExplainedBy base G x (a_link t.node.0 (link_named l) other.0)) e pair_explained)

      pub relation_pair : (q : RelName) → link.name ≡ Relation q → Finds base g G x (finding.Pair link.left link.right)
      relation_pair q e =
          let ends : AreEnds base g h.source h.target (Relation q) link.left link.right = subst (λ l. AreEnds base g h.source h.target l link.left link.right) e h.ends in
          record {
            relation = q;
            from = h.source;
            to = h.target;
            node = t.node.0;
            other = other.0;
            link = subst (λ l. IsLink base G (link_named l) h.source h.target) e h.link;
            explained = subst (λ l. IsExplainedBy base G x (a_link t.node.0 (link_named l) other.0)) e pair_explained;
            left = ends.0;
            right = ends.1;
          }

      pub pair_found : (f : Finding) → ((r : RefName) → link.name ≡ Reference r → f ≡ finding.Free) → ((q : RelName) → link.name ≡ Relation q → f ≡ finding.Pair link.left link.right) → Finds base g G x f
      pair_found f reference relation = go link.name refl
        where
          go : (name : LinkName) → link.name ≡ name → Finds base g G x f
          go (Reference r) e = subst (Finds base g G x) (sym (reference r e)) (reference_pair r e)
          go (Relation q) e = subst (Finds base g G x) (sym (relation q e)) (relation_pair q e)

  module _ (plain : IsPlainProperty x) where
    pub property_class : (name : Name) → IsRole base g G (term.Iri x.predicate) (variant.Class name) → Finds base g G x finding.Unexplained
    property_class name h = class_pair_unexplained base t.laws G x plain.type plain.domain plain.range plain.different name h

    pub property_none : IsRole base g G (term.Iri x.predicate) variant.Nothing → Finds base g G x finding.Unexplained
    property_none h = pair_unexplained base t.laws G x plain.type plain.domain plain.range plain.different h

  -- the predicate is none of the words where its number is none of theirs
  pub plain_property : n.predicate ≢ w.rdf_type → n.predicate ≢ w.domain → n.predicate ≢ w.range → n.predicate ≢ w.different_from → IsPlainProperty x
  plain_property a b c d = record {
    type = λ e. a (predicate_number (word_iri RdfType) w.rdf_type t.read.words.rdf_type e);
    domain = λ e. b (predicate_number (word_iri RdfsDomain) w.domain t.read.words.domain e);
    range = λ e. c (predicate_number (word_iri RdfsRange) w.range t.read.words.range e);
    different = λ e. d (predicate_number (word_iri OwlDifferentFrom) w.different_from t.read.words.different_from e);
  }
