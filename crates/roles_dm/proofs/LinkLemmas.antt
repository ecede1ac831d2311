-- What look-ups tell of references and relations.
use Rattle.std.proofs.Common.{◌+◌, arith, get_or, length, take, ◌≤◌, ◌≡◌, ◌≢◌, ◌<◌, ◌↔◌, ℕ, List, [], ◌∷◌, Option, None, Some, refl, sym, ap, ◌∙◌, subst, inl, inr}
use Rattle.std.proofs.lemmas.List.{take_all}
use Rattle.std.proofs.lemmas.List.Elements.{All-more}
use Rattle.members_dm.proofs.AnyLemmas.{all_from_items, item_from_all}
use Rattle.members_dm.proofs.ElementsLemmas.{item_within}
use Rattle.members_dm.specs.Elements.{Repeats}
use Rattle.members_dm.specs.Membership.{IsIn, NoRepeats}
use Rattle.schema_dm.specs.Naming.{Name}
use Rattle.names_dm.specs.declared.names.RefName.{RefName}
use Rattle.names_dm.specs.declared.names.RelName.{RelName}
use Rattle.names_dm.specs.declared.term.Term.{Term}
use Rattle.names_dm.specs.declared.term.Term.TheVariants as term
use Rattle.names_dm.specs.Names.{column_iri}
use Rattle.names_dm.specs.Statements.{Statement}
use Rattle.facts_dm.specs.Facts.{Link, a_class, a_domain, a_property, an_object, link_iri, ref_link, rel_link, table_term, triple_of}
use Rattle.facts_dm.specs.Meanings.{NamingLaws}
use Rattle.facts_dm.specs.Vocabulary.{word_iri}
use Rattle.facts_dm.specs.declared.word.Word.TheVariants.{RdfsDomain, RdfsRange}
use Rattle.store_dm.specs.Graphs.{GraphValue, IsLawful}
use Rattle.store_dm.specs.Terms.{term_at}
use Rattle.layouts_dm.specs.Layouts.{column_named}
use Rattle.layouts_dm.specs.Rules.{IsColumn, IsLink, Says}
use Rattle.layouts_dm.proofs.Facts.{column-injective, link-injective, table-injective}
use Rattle.roles_dm.specs.Links.{AreColumns, HasKind, IsEnded, IsOnlyClass, IsSole, TellsColumnNumber, TellsEnds, TellsLink, TellsOnlyClass, TellsReference, TellsRelation}
use Rattle.roles_dm.specs.Naming.{IsGoodReference, NamesReference, NamesRelation, column_term, link_term}
use Rattle.roles_dm.specs.Numbers.{AreWords, HasNumbers, IsGraphOf, IsNumberOf, IsOnlyObject}
use Rattle.roles_dm.specs.Relations.{IsStated}
use Rattle.roles_dm.specs.Roles.{IsColumnRole, IsLinkRole, TellsClass, TellsClassNumber, TellsColumn}
use Rattle.roles_dm.specs.declared.role.ColumnRole.{ColumnRole}
use Rattle.roles_dm.specs.declared.role.LinkName.TheVariants.{Reference, Relation}
use Rattle.roles_dm.specs.declared.role.LinkRole.{LinkRole}
use Rattle.roles_dm.specs.declared.words.Words.{Words}
use Rattle.roles_dm.proofs.NumberLemmas.{numbered, one_number, only_said, only_told, says}
use Rattle.roles_dm.proofs.RelationLemmas.{name_at, relation_named_once, term_within}

module _ (base : List ℕ) (laws : NamingLaws base) (g : GraphValue) (G : List Statement) (is : IsGraphOf g G) where
  -- ---- the class that is the only object

  abbrev class_statement : List ℕ → List ℕ → Name → Statement
  class_statement i p t = record { subject = term.Iri i; predicate = p; object = table_term base t }

  object_number : (x : Statement) → IsIn x G → (m : ℕ) × (term_at g.terms m ≡ Some x.object)
  object_number x there = let k = (is.same x).1 there in (k.0.third, k.2.2)

  subject_number : (x : Statement) → IsIn x G → (m : ℕ) × (term_at g.terms m ≡ Some x.subject)
  subject_number x there = let k = (is.same x).1 there in (k.0.first, k.2.0)

  module _ (i p : List ℕ) (n property : ℕ) (at : term_at g.terms n ≡ Some (term.Iri i)) (b : IsNumberOf g (term.Iri p) property) where
    class_only : (t : Name) → IsOnlyClass base G i p t → (m : ℕ) → term_at g.terms m ≡ Some (table_term base t) → IsOnlyObject g n property m
    class_only t h m k = only_told g G is (class_statement i p t) n property m (numbered g G is (term.Iri i) n at) b (numbered g G is (table_term base t) m k) (h.says, h.one)

    pub no_only_class : ((o : ℕ) → ¬ IsOnlyObject g n property o) → TellsOnlyClass base g G i p None
    no_only_class none t h = let m = object_number (class_statement i p t) h.says in none m.0 (class_only t h m.0 m.1)

    pub no_class_there : (o : ℕ) (y : Term) → IsOnlyObject g n property o → term_at g.terms o ≡ Some y → TellsClass base G y None → TellsOnlyClass base g G i p None
    no_class_there o y only k none t h =
        let m = object_number (class_statement i p t) h.says in
        let same : m.0 ≡ o = only.1 m.0 (class_only t h m.0 m.1).0 in
        let e : Some y ≡ Some (table_term base t) = sym k ∙ subst (λ j. term_at g.terms j ≡ Some (table_term base t)) same m.1 in
        none t (cc e) h.class

    pub class_there : (o : ℕ) (y : Term) (t : Name) → IsOnlyObject g n property o → term_at g.terms o ≡ Some y → TellsClass base G y (Some t) → TellsOnlyClass base g G i p (Some (o, t))
    class_there o y t only k told =
        let number : IsNumberOf g (table_term base t) o = numbered g G is (table_term base t) o (k ∙ ap Some told.0) in
        let said = only_said g G is (class_statement i p t) n property o (numbered g G is (term.Iri i) n at) b number only in
        (number, record { class = told.1; says = said.0; one = said.1 })

  -- ---- columns

  pub absent_column : (t c : Name) → IsNumberOf g (column_term base (column_named t c)) 0 → ¬ HasKind base G t c
  absent_column t c (inr a) h = a.0 refl
  absent_column t c (inl a) h = let k = (is.same (triple_of base (a_property (column_named t c)))).1 h.1.property in a.1 (k.0, k.1, inl k.2.0)

  pub no_column_there : (t c : Name) → TellsColumn base g G (column_term base (column_named t c)) None → ¬ HasKind base G t c
  no_column_there t c none h = none (column_named t c) h.0 refl h.1

  pub column_there : (t c : Name) (n : ℕ) (role : ColumnRole) → IsNumberOf g (column_term base (column_named t c)) n → IsColumnRole base g G (column_term base (column_named t c)) role → TellsColumnNumber base g G t c (Some n)
  column_there t c n role number h =
      let i : column_iri base (column_named t c) ≡ column_iri base role.name = cc h.term in
      let r = column-injective base laws t c role.name.table role.name.column i in
      (number, (role.kind, subst {A = Name × Name} (λ z. IsColumn base G z.0 z.1 role.kind) (λ j. (sym r.0 j, sym r.1 j)) h.column))

  -- ---- properties with nodes

  module _ (w : Words) (words : AreWords g w) (x : Term) (n : ℕ) (at : term_at g.terms n ≡ Some x) where
    here : (l : Link) → x ≡ link_term base l → term_at g.terms n ≡ Some (link_term base l)
    here l e = at ∙ ap Some e

    object_says : (l : Link) → x ≡ link_term base l → HasNumbers g n w.rdf_type w.object_property ↔ Says base G (an_object l)
    object_says l e = says g G is (triple_of base (an_object l)) n w.rdf_type w.object_property (numbered g G is (link_term base l) n (here l e)) words.rdf_type words.object_property

    domain_says : (l : Link) (t : Name) (m : ℕ) → x ≡ link_term base l → IsNumberOf g (table_term base t) m → HasNumbers g n w.domain m ↔ Says base G (a_domain (link_iri base l) t)
    domain_says l t m e a = says g G is (triple_of base (a_domain (link_iri base l) t)) n w.domain m (numbered g G is (link_term base l) n (here l e)) words.domain a

    pub unstated : ¬ HasNumbers g n w.rdf_type w.object_property → TellsLink base g G x None
    unstated none l t u e h = none ((object_says l e).1 h.linked.object)

    pub neither : TellsReference base g G x None → TellsRelation base g G x None → TellsLink base g G x None
    neither a b (ref_link r) t u e h = a r t u e h
    neither a b (rel_link q) t u e h = b q t u e h

    same_link : (l m : Link) → x ≡ link_term base l → x ≡ link_term base m → l ≡ m
    same_link l m a b = link-injective base laws l m (cc (sym a ∙ b))

    range_class : (l : Link) (t u : Name) → IsLink base G l t u → IsOnlyClass base G (link_iri base l) (word_iri RdfsRange) u
    range_class l t u h = record { class = h.linked.to; says = h.linked.range; one = h.linked.one_range }

    pub merged : (found : Option LinkRole) → TellsReference base g G x None → TellsRelation base g G x found → TellsLink base g G x found
    merged None a b = neither a b
    merged (Some role) a b = b

    -- ---- references

    same_reference : (r s : RefName) → x ≡ link_term base (ref_link r) → x ≡ link_term base (ref_link s) → r ≡ s
    same_reference r s a b = let e : ref_link r ≡ ref_link s = same_link (ref_link r) (ref_link s) a b in cc

    pub no_reference : NamesReference base x None → TellsReference base g G x None
    no_reference none r t u e h = none r (h.linked.good, (λ f. let c = h.sort.some in subst (IsIn c.0) f c.1)) e

    module _ (r : RefName) (e : x ≡ link_term base (ref_link r)) where
      unless_reference : ((t u : Name) → ¬ IsLink base G (ref_link r) t u) → TellsReference base g G x None
      unless_reference none s t u f h = none t u (subst (λ z. IsLink base G (ref_link z) t u) (same_reference s r f e) h)

      pub reference_without_class : TellsClassNumber base g G r.table None → TellsReference base g G x None
      reference_without_class none = unless_reference (λ t u h. none (subst (λ z. Says base G (a_class z)) h.sort.of_table h.linked.from.0))

      pub reference_without_domain : (m : ℕ) → IsNumberOf g (table_term base r.table) m → ¬ HasNumbers g n w.domain m → TellsReference base g G x None
      reference_without_domain m a none =
          unless_reference (λ t u h. none ((domain_says (ref_link r) r.table m e a).1 (subst (λ z. Says base G (a_domain (link_iri base (ref_link r)) z)) h.sort.of_table h.linked.domain)))

      pub reference_without_range : TellsOnlyClass base g G (link_iri base (ref_link r)) (word_iri RdfsRange) None → TellsReference base g G x None
      reference_without_range none = unless_reference (λ t u h. none u (range_class (ref_link r) t u h))

      pub reference_without_columns : ¬ AreColumns base G r → TellsReference base g G x None
      reference_without_columns none = unless_reference (λ t u h. none (h.sort.distinct, h.sort.columns))

      some_column : (cs : List Name) → cs ≢ [] → (c : Name) × IsIn c cs
      some_column [] some = absurd (some refl)
      some_column (c ∷ cs) some = (c, inl refl)

      pub reference_told : (from to : ℕ) (u : Name) → IsGoodReference r → HasNumbers g n w.rdf_type w.object_property → TellsClassNumber base g G r.table (Some from) → HasNumbers g n w.domain from
          → TellsOnlyClass base g G (link_iri base (ref_link r)) (word_iri RdfsRange) (Some (to, u)) → AreColumns base G r
          → IsLinkRole base g G x (record { name = Reference r; from = from; to = to; left = 0; right = 0 })
      reference_told from to u good typed class domain range columns = record {
        source = r.table;
        target = u;
        term = e;
        link = record {
          linked = record {
            good = good.0;
            object = (object_says (ref_link r) e).0 typed;
            domain = (domain_says (ref_link r) r.table from e class.0).0 domain;
            range = range.1.says;
            from = (class.1, good.0.0);
            to = range.1.class;
            one_range = range.1.one;
          };
          sort = record { of_table = refl; some = some_column r.columns good.1; distinct = columns.0; columns = columns.1 };
        };
        from = class.0;
        to = range.0;
        ends = (refl, refl);
      }

    -- ---- relations

    same_relation : (q s : RelName) → x ≡ link_term base (rel_link q) → x ≡ link_term base (rel_link s) → q ≡ s
    same_relation q s a b = relation_named_once base laws g G q s (sym a ∙ b)

    pub no_relation : NamesRelation base x None → TellsRelation base g G x None
    no_relation none q t u e h = none q h.linked.good e

    module _ (q : RelName) (e : x ≡ link_term base (rel_link q)) where
      unless_relation : ((t u : Name) → ¬ IsLink base G (rel_link q) t u) → TellsRelation base g G x None
      unless_relation none s t u f h = none t u (subst (λ z. IsLink base G (rel_link z) t u) (same_relation s q f e) h)

      pub stated : HasNumbers g n w.rdf_type w.object_property → NamesRelation base x (Some q) → IsStated base g G q.table n
      stated typed told = record { name = q; good = told.0; of_table = refl; at = here (rel_link q) e; says = (object_says (rel_link q) e).0 typed }

      sole_of : (t u : Name) → IsLink base G (rel_link q) t u → IsSole base g G q n
      sole_of t u h = record {
        two = h.sort.two;
        alone = λ m s.
            let same : s.name ≡ q = h.sort.one s.name s.good s.of_table s.says in
            one_number g.terms x m n is.lawful.apart (s.at ∙ ap (λ z. Some (link_term base (rel_link z))) same ∙ ap Some (sym e)) at;
        no_class = h.sort.no_class;
      }

      pub relation_not_sole : ¬ IsSole base g G q n → TellsRelation base g G x None
      relation_not_sole none = unless_relation (λ t u h. none (sole_of t u h))

      domain_class : (t u : Name) → IsLink base G (rel_link q) t u → IsOnlyClass base G (link_iri base (rel_link q)) (word_iri RdfsDomain) t
      domain_class t u h = record { class = h.linked.from; says = h.linked.domain; one = h.sort.one_domain }

      pub relation_without_domain : TellsOnlyClass base g G (link_iri base (rel_link q)) (word_iri RdfsDomain) None → TellsRelation base g G x None
      relation_without_domain none = unless_relation (λ t u h. none t (domain_class t u h))

      pub relation_without_range : TellsOnlyClass base g G (link_iri base (rel_link q)) (word_iri RdfsRange) None → TellsRelation base g G x None
      relation_without_range none = unless_relation (λ t u h. none u (range_class (rel_link q) t u h))

      one_class : (p : List ℕ) (t u : Name) → IsOnlyClass base G (link_iri base (rel_link q)) p t → IsOnlyClass base G (link_iri base (rel_link q)) p u → t ≡ u
      one_class p t u a b = table-injective base laws t u (cc (b.one (class_statement (link_iri base (rel_link q)) p t) a.says refl refl))

      module _ (from to : ℕ × Name) (domain : TellsOnlyClass base g G (link_iri base (rel_link q)) (word_iri RdfsDomain) (Some from)) (range : TellsOnlyClass base g G (link_iri base (rel_link q)) (word_iri RdfsRange) (Some to)) where
        pub relation_without_ends : TellsEnds base g G q from to None → TellsRelation base g G x None
        relation_without_ends none = unless_relation (λ t u h.
            let a : t ≡ from.1 = one_class (word_iri RdfsDomain) t from.1 (domain_class t u h) domain.1 in
            let b : u ≡ to.1 = one_class (word_iri RdfsRange) u to.1 (range_class (rel_link q) t u h) range.1 in
            none (subst (λ z. HasKind base G z q.left_target) a h.sort.left, subst (λ z. HasKind base G z q.right_target) b h.sort.right))

        one_of : IsSole base g G q n → (s : RelName) (m : ℕ) → term_at g.terms m ≡ Some (link_term base (rel_link s)) → m ≡ n → s ≡ q
        one_of sole s m k same = name_at base laws g G s q m k (subst (λ j. term_at g.terms j ≡ Some (link_term base (rel_link q))) (sym same) (here (rel_link q) e))

        pub relation_told : (role : LinkRole) → NamesRelation base x (Some q) → HasNumbers g n w.rdf_type w.object_property → IsSole base g G q n → IsEnded base g G q from to role → IsLinkRole base g G x role
        relation_told role told typed sole ended = subst (IsLinkRole base g G x) (sym same) (record {
          source = from.1;
          target = to.1;
          term = e;
          link = record {
            linked = record {
              good = told.0;
              object = (object_says (rel_link q) e).0 typed;
              domain = domain.1.says;
              range = range.1.says;
              from = domain.1.class;
              to = range.1.class;
              one_range = range.1.one;
            };
            sort = record {
              two = sole.two;
              no_class = sole.no_class;
              left = ended.ends.0;
              right = ended.ends.1;
              one_domain = domain.1.one;
              one = λ s good table said.
                  let m = subject_number (triple_of base (an_object (rel_link s))) said in
                  one_of sole s m.0 m.1 (sole.alone m.0 (record { name = s; good = good; of_table = table; at = m.1; says = said }));
            };
          };
          from = domain.0;
          to = range.0;
          ends = (ended.left, ended.right);
        })
          where
            same : role ≡ record { name = Relation q; from = from.0; to = to.0; left = role.left; right = role.right }
            same = λ j. record { name = ended.name j; from = ended.from_is j; to = ended.to_is j; left = role.left; right = role.right }

        pub ended : (found : Option LinkRole) → NamesRelation base x (Some q) → HasNumbers g n w.rdf_type w.object_property → IsSole base g G q n → TellsEnds base g G q from to found → TellsRelation base g G x found
        ended None told typed sole none = relation_without_ends none
        ended (Some role) told typed sole ends = relation_told role told typed sole ends

  -- ---- relations' IRIs, by their numbers

  pub unstated_relation : (w : Words) (words : AreWords g w) (n : ℕ) → ¬ HasNumbers g n w.rdf_type w.object_property → (table : Name) → ¬ IsStated base g G table n
  unstated_relation w words n none table s = none ((object_says w words (link_term base (rel_link s.name)) n s.at (rel_link s.name) refl).1 s.says)

  unsome : (y z : Term) → Some y ≡ Some z → y ≡ z
  unsome y z e = cc

  pub unnamed_relation : (x : Term) (n : ℕ) → term_at g.terms n ≡ Some x → NamesRelation base x None → (table : Name) → ¬ IsStated base g G table n
  unnamed_relation x n at none table s = none s.name s.good (unsome _ _ (sym at ∙ s.at))

-- ---- numbers within bounds

pub number_within : (g : GraphValue) (x : Term) (n : ℕ) → IsNumberOf g x n → n ≤ length g.terms
number_within g x n (inl a) = let e = a.0 in omega (arith, e)
number_within g x n (inr a) = let l = term_within g n x a.1 in omega (arith, l)

pub object_there : (g : GraphValue) → IsLawful g → (s p o : ℕ) → IsOnlyObject g s p o → (y : Term) × (term_at g.terms o ≡ Some y)
object_there g lawful s p o only = let k = lawful.named (record { first = s; second = p; third = o }) only.0.3 in (k.0.object, k.1.2)

pub object_within : (g : GraphValue) → IsLawful g → (s p o : ℕ) → IsOnlyObject g s p o → o ≤ length g.terms
object_within g lawful s p o only = let y = object_there g lawful s p o only in let l = term_within g o y.0 y.1 in omega (arith, l)

pub repeats_not : {X : Type 0} (xs : List X) → NoRepeats xs → ¬ Repeats xs
repeats_not [] once h = absurd h
repeats_not (x ∷ xs) once (inl h) = once.0 h
repeats_not (x ∷ xs) once (inr h) = repeats_not xs once.1 h

-- ---- loops over names

pub item_there : {X : Type 0} (xs : List X) (i : ℕ) (x : X) → i < length xs → x ≡ get_or xs i x → IsIn x xs
item_there xs i x below is = subst (λ y. IsIn y xs) (sym is) (item_within xs i x below)

pub each_more : {X : Type 0} (P : X → Type 0) (xs : List X) (i : ℕ) (x : X) → i < length xs → x ≡ get_or xs i x → P x → ((y : X) → IsIn y (take i xs) → P y) → (y : X) → IsIn y (take (i + 1) xs) → P y
each_more P xs i x below is p before = item_from_all P (take (i + 1) xs) (All-more P xs i x below (all_from_items P (take i xs) before) (subst P is p))

pub each_taken : {X : Type 0} (P : X → Type 0) (xs : List X) (i : ℕ) → length xs ≤ i → ((y : X) → IsIn y (take i xs) → P y) → (y : X) → IsIn y xs → P y
each_taken P xs i past each y there = each y (subst (IsIn y) (sym (take_all i xs past)) there)
