-- What look-ups tell of classes and columns.
use Rattle.std.proofs.Common.{◌≡◌, ◌↔◌, ℕ, List, Option, None, Some, Bool, true, false, sym, ap, ◌∙◌, subst, IsTrue}
use Rattle.value_dm.specs.declared.kind.Kind.{Kind}
use Rattle.schema_dm.specs.Naming.{Name}
use Rattle.names_dm.specs.declared.names.ColumnName.{ColumnName}
use Rattle.names_dm.specs.declared.term.Term.{Term}
use Rattle.names_dm.specs.declared.term.Term.TheVariants as term
use Rattle.names_dm.specs.Names.{column_iri}
use Rattle.names_dm.specs.Statements.{Statement}
use Rattle.facts_dm.specs.Facts.{a_class, a_domain, a_property, table_term, triple_of, word_term}
use Rattle.facts_dm.specs.Vocabulary.{word_iri}
use Rattle.facts_dm.specs.declared.word.Word.TheVariants.{Datatype, RdfsRange}
use Rattle.facts_dm.specs.Meanings.{NamingLaws}
use Rattle.store_dm.specs.Graphs.{GraphValue}
use Rattle.store_dm.specs.Terms.{term_at}
use Rattle.layouts_dm.specs.Rules.{IsClass, IsColumn, Says}
use Rattle.layouts_dm.proofs.Facts.{column-injective}
use Rattle.roles_dm.specs.Naming.{IsGoodColumn, NamesColumn, NamesTable, column_term}
use Rattle.roles_dm.specs.Numbers.{AreDatatypes, AreWords, HasNumbers, IsGraphOf, IsNumberOf, IsOnlyObject, TellsKind, datatype_number}
use Rattle.roles_dm.specs.Roles.{HasDomain, IsColumnRole, IsOneKind, TellsClass, TellsColumn, TellsDomain, TellsOneKind, TellsProperty}
use Rattle.roles_dm.specs.declared.role.ColumnRole.{ColumnRole}
use Rattle.roles_dm.specs.declared.words.Datatypes.{Datatypes}
use Rattle.roles_dm.specs.declared.words.Words.{Words}
use Rattle.roles_dm.proofs.NumberLemmas.{numbered, only_said, only_told, says}

-- a test that fails
pub fails : {P : Type 0} (r : Bool) → IsTrue r ↔ P → r ≡ false → ¬ P
fails r test e p = let f : true ≡ false = sym (test.1 p) ∙ e in cc

module _ (base : List ℕ) (g : GraphValue) (G : List Statement) (is : IsGraphOf g G) (w : Words) (words : AreWords g w) where
  -- ---- classes

  pub class_says : (t : Name) (n : ℕ) → IsNumberOf g (table_term base t) n → HasNumbers g n w.rdf_type w.class ↔ Says base G (a_class t)
  class_says t n a = says g G is (triple_of base (a_class t)) n w.rdf_type w.class a words.rdf_type words.class

  number_of_term : (n : ℕ) (x y : Term) → term_at g.terms n ≡ Some x → x ≡ y → IsNumberOf g y n
  number_of_term n x y at e = numbered g G is y n (at ∙ ap Some e)

  pub no_class : (n : ℕ) (x : Term) → term_at g.terms n ≡ Some x → ¬ HasNumbers g n w.rdf_type w.class → (t : Name) → x ≡ table_term base t → ¬ IsClass base G t
  no_class n x at none t e h = none ((class_says t n (number_of_term n x (table_term base t) at e)).1 h.0)

  pub class_told : (n : ℕ) (x : Term) (found : Option Name) → term_at g.terms n ≡ Some x → HasNumbers g n w.rdf_type w.class → NamesTable base x found → TellsClass base G x found
  class_told n x None at has none = λ t e h. none t h.1 e
  class_told n x (Some t) at has told = (told.1, ((class_says t n (number_of_term n x (table_term base t) at told.1)).0 has, told.0))

  -- ---- the kind of a column

  abbrev kind_statement : List ℕ → Kind → Statement
  kind_statement i k = record { subject = term.Iri i; predicate = word_iri RdfsRange; object = word_term (Datatype k) }

  module _ (d : Datatypes) (datatypes : AreDatatypes g d) (n : ℕ) (i : List ℕ) (at : term_at g.terms n ≡ Some (term.Iri i)) where
    range_only : (k : Kind) → IsOneKind base G i k → IsOnlyObject g n w.range (datatype_number d k)
    range_only k h = only_told g G is (kind_statement i k) n w.range (datatype_number d k) (numbered g G is (term.Iri i) n at) words.range (datatypes k) h

    range_told : (k : Kind) → IsOnlyObject g n w.range (datatype_number d k) → IsOneKind base G i k
    range_told k h = only_said g G is (kind_statement i k) n w.range (datatype_number d k) (numbered g G is (term.Iri i) n at) words.range (datatypes k) h

    pub no_range : ((o : ℕ) → ¬ IsOnlyObject g n w.range o) → (k : Kind) → ¬ IsOneKind base G i k
    no_range none k h = none (datatype_number d k) (range_only k h)

    pub kind_told : (o : ℕ) (found : Option Kind) → IsOnlyObject g n w.range o → TellsKind d o found → TellsOneKind base G i found
    kind_told o None only none = λ k h. none k (sym (only.1 (datatype_number d k) (range_only k h).0))
    kind_told o (Some k) only e = range_told k (subst (IsOnlyObject g n w.range) e only)

  -- ---- columns

  property_says : (c : ColumnName) (n : ℕ) → term_at g.terms n ≡ Some (column_term base c) → HasNumbers g n w.rdf_type w.datatype_property ↔ Says base G (a_property c)
  property_says c n at = says g G is (triple_of base (a_property c)) n w.rdf_type w.datatype_property (numbered g G is (column_term base c) n at) words.rdf_type words.datatype_property

  domain_says : (c : ColumnName) (n m : ℕ) → term_at g.terms n ≡ Some (column_term base c) → IsNumberOf g (table_term base c.table) m → HasNumbers g n w.domain m ↔ Says base G (a_domain (column_iri base c) c.table)
  domain_says c n m at a = says g G is (triple_of base (a_domain (column_iri base c) c.table)) n w.domain m (numbered g G is (column_term base c) n at) words.domain a

  -- the number of the class is tested as the domain
  pub no_domain : (c : ColumnName) (n m : ℕ) → term_at g.terms n ≡ Some (column_term base c) → IsNumberOf g (table_term base c.table) m → ¬ HasNumbers g n w.domain m → ¬ HasDomain base G c
  no_domain c n m at a none h = none ((domain_says c n m at a).1 h.1)

  pub domain_told : (c : ColumnName) (n m : ℕ) → term_at g.terms n ≡ Some (column_term base c) → IsNumberOf g (table_term base c.table) m → Says base G (a_class c.table) → HasNumbers g n w.domain m → IsNumberOf g (table_term base c.table) m × HasDomain base G c
  domain_told c n m at a class has = (a, (class, (domain_says c n m at a).0 has))

  pub no_property : (n : ℕ) (x : Term) → term_at g.terms n ≡ Some x → ¬ HasNumbers g n w.rdf_type w.datatype_property → (c : ColumnName) → IsGoodColumn c → x ≡ column_term base c → ¬ Says base G (a_property c)
  no_property n x at none c good e h = none ((property_says c n (at ∙ ap Some e)).1 h)

  pub property_told : (n : ℕ) (x : Term) (found : Option ColumnName) → term_at g.terms n ≡ Some x → HasNumbers g n w.rdf_type w.datatype_property → NamesColumn base x found → TellsProperty base G x found
  property_told n x None at has none = λ c good e h. none c good e
  property_told n x (Some c) at has told = (told.0, told.1, (property_says c n (at ∙ ap Some told.1)).0 has)

  module _ (laws : NamingLaws base) (x : Term) where
    one_column : (c d : ColumnName) → x ≡ column_term base c → x ≡ column_term base d → c ≡ d
    one_column c d a b =
        let e : term.Iri (column_iri base c) ≡ term.Iri (column_iri base d) = sym a ∙ b in
        let i : column_iri base c ≡ column_iri base d = cc in
        let r = column-injective base laws c.table c.column d.table d.column i in
        λ j. record { table = r.0 j; column = r.1 j }

    -- a term that isn't the IRI of a column with literals is none
    pub unnamed : TellsProperty base G x None → TellsColumn base g G x None
    unnamed none c k e h = none c (h.class.1, h.good) e h.property

    -- where the column whose IRI it is, is no column, no other is
    unless : (c : ColumnName) → x ≡ column_term base c → ((k : Kind) → ¬ IsColumn base G c.table c.column k) → TellsColumn base g G x None
    unless c a none d k b h = none k (subst (λ (y : ColumnName). IsColumn base G y.table y.column k) (sym (one_column c d a b)) h)

    pub without_domain : (c : ColumnName) → x ≡ column_term base c → ¬ HasDomain base G c → TellsColumn base g G x None
    without_domain c a none = unless c a (λ k h. none (h.class.0, h.domain))

    pub without_kind : (c : ColumnName) → x ≡ column_term base c → ((k : Kind) → ¬ IsOneKind base G (column_iri base c) k) → TellsColumn base g G x None
    without_kind c a none = unless c a (λ k h. none k (h.range, h.one_range))

    pub role_told : (role : ColumnRole) → TellsProperty base G x (Some role.name) → TellsDomain base g G role.name (Some role.class) → IsOneKind base G (column_iri base role.name) role.kind → IsColumnRole base g G x role
    role_told role named domain kind = record {
      term = named.1;
      column = record { class = (domain.1.0, named.0.0); good = named.0.1; property = named.2; domain = domain.1.1; range = kind.0; one_range = kind.1 };
      class = domain.0;
    }
