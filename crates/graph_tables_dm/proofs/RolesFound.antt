-- Each class, column and link of a graph has its role, and a search among the roles tells of what there is one.
use Rattle.std.proofs.Common.{◌≡◌, ◌<◌, ℕ, zero, suc, List, [], ◌∷◌, length, Some, None, refl, sym, ap, ◌∙◌, subst, inl, inr, arith}
use Rattle.std.specs.Prelude.{slice_get}
use Rattle.std.proofs.lemmas.Option.{slice_get_within}
use Rattle.members_dm.specs.Membership.{IsIn}
use Rattle.members_dm.proofs.ElementsLemmas.{index_of_item, item_at_index}
use Rattle.value_dm.specs.declared.kind.Kind.{Kind}
use Rattle.schema_dm.specs.Naming.{Name}
use Rattle.names_dm.specs.declared.names.ColumnName.{ColumnName}
use Rattle.names_dm.specs.declared.term.Term.{Term}
use Rattle.names_dm.specs.declared.term.Term.TheVariants as term
use Rattle.names_dm.specs.Names.{column_iri}
use Rattle.names_dm.specs.Statements.{Statement}
use Rattle.facts_dm.specs.Facts.{Fact, Link, Node, a_class, a_domain, a_node, a_range, an_object, link_iri, table_term, triple_of}
use Rattle.facts_dm.specs.Meanings.{NamingLaws}
use Rattle.layouts_dm.specs.Layouts.{column_named, property_fact}
use Rattle.layouts_dm.specs.Rules.{Explains, IsClass, IsColumn, IsLink, IsNode, Says}
use Rattle.layouts_dm.proofs.Facts.{column-injective, datatype-injective, link-injective, table-injective}
use Rattle.layouts_dm.proofs.Sound.{link_from}
use Rattle.store_dm.specs.Graphs.{GraphValue, HoldsTerm}
use Rattle.store_dm.specs.Terms.{term_at}
use Rattle.roles_dm.specs.declared.role.ColumnRole.{ColumnRole}
use Rattle.roles_dm.specs.declared.role.LinkRole.{LinkRole}
use Rattle.roles_dm.specs.declared.role.Role.{Role}
use Rattle.roles_dm.specs.declared.role.Role.TheVariants as role
use Rattle.roles_dm.specs.declared.words.Words.{Words}
use Rattle.roles_dm.specs.Naming.{column_term, link_term}
use Rattle.roles_dm.specs.Numbers.{IsNumberOf}
use Rattle.roles_dm.specs.Roles.{IsRead, IsRole, link_named, role_at}
use Rattle.roles_dm.proofs.MeaningLemmas.{column≢link, table≢column, table≢link}
use Rattle.roles_dm.proofs.NumberLemmas.{contains_from_in, one_number}
use Rattle.graph_tables_dm.proofs.Decisions.{Told, sure, told_both, told_column, told_in, told_kind, told_link, told_some, told_statement, told_text}

slice_some : {X : Type 0} (xs : List X) (k : ℕ) → k < length xs → (x : X) × (slice_get xs k ≡ Some x)
slice_some [] k h = absurd (omega arith)
slice_some (x ∷ xs) zero h = (x, refl)
slice_some (x ∷ xs) (suc k) h = slice_some xs k (omega arith)

iri_of : (x y : List ℕ) → term.Iri x ≡ term.Iri y → x ≡ y
iri_of x y e = cc

module _ (base : List ℕ) (laws : NamingLaws base) (g : GraphValue) (w : Words) (rs : List Role) (G : List Statement) (read : IsRead base g w rs G) where
  -- ---- terms and their roles

  -- the term of the number has the role
  pub record HasRole (x : Term) (r : Role) : Type 0 where
    pub number : ℕ
    pub at : term_at g.terms number ≡ Some x
    pub here : role_at rs number ≡ Some r

  role_of_number : (n : ℕ) (x : Term) → term_at g.terms n ≡ Some x → (r : Role) × HasRole x r × IsRole base g G x r
  role_of_number zero x at = absurd (let e : None ≡ Some x = at in cc)
  role_of_number (suc k) x at =
      let r = slice_some rs k (subst (λ n. k < n) (sym read.roles.count) (slice_get_within g.terms k x at)) in
      (r.0, record { number = suc k; at = at; here = r.1 }, read.roles.each (suc k) x r.0 at r.1)

  role_of : (x : Term) → HoldsTerm g x → (r : Role) × HasRole x r × IsRole base g G x r
  role_of x h = elim h.2 [ inl e ↦ role_of_number h.0.first x e | inr k ↦ elim k [ inl e ↦ role_of_number h.0.second x e | inr e ↦ role_of_number h.0.third x e ] ]

  pub term_of_role : (n : ℕ) (r : Role) → role_at rs n ≡ Some r → (x : Term) × (term_at g.terms n ≡ Some x) × IsRole base g G x r
  term_of_role zero r e = absurd (let f : None ≡ Some r = e in cc)
  term_of_role (suc k) r e =
      let t = slice_some g.terms k (subst (λ n. k < n) read.roles.count (slice_get_within rs k r e)) in
      (t.0, t.1, read.roles.each (suc k) t.0 r t.1 e)

  holds_subject : (s : Statement) → IsIn s G → HoldsTerm g s.subject
  holds_subject s i = let h = (read.graph.same s).1 i in (h.0, h.1, inl h.2.0)

  in_terms : (n : ℕ) (x : Term) → term_at g.terms n ≡ Some x → IsIn x g.terms
  in_terms zero x at = absurd (let e : None ≡ Some x = at in cc)
  in_terms (suc k) x at = item_at_index x g.terms k at

  -- a number of a term is the number at which it stands
  pub number_is : (x : Term) (m n : ℕ) → IsNumberOf g x m → term_at g.terms n ≡ Some x → m ≡ n
  number_is x m n (inl h) at = absurd (h.1 (read.graph.lawful.used x (contains_from_in x g.terms (in_terms n x at))))
  number_is x m n (inr h) at = one_number g.terms x m n read.graph.lawful.apart h.1 at

  pub class_found : (t : Name) → IsClass base G t → HasRole (table_term base t) (role.Class t)
  class_found t h = let o = role_of (table_term base t) (holds_subject (triple_of base (a_class t)) h.0) in go o.0 o.1 o.2
    where
      go : (r : Role) → HasRole (table_term base t) r → IsRole base g G (table_term base t) r → HasRole (table_term base t) (role.Class t)
      go (role.Class u) has is = subst (λ v. HasRole (table_term base t) (role.Class v)) (sym (table-injective base laws t u (iri_of _ _ is.0))) has
      go (role.Column c) has is = absurd (table≢column base laws t c.name is.term)
      go (role.Link l) has is = absurd (table≢link base laws t (link_named l.name) is.term)
      go role.Nothing has is = absurd (is.0 t refl h)

  -- a column has one kind
  one_kind : (t c : Name) (k m : Kind) → IsColumn base G t c k → IsColumn base G t c m → k ≡ m
  one_kind t c k m a b = datatype-injective base laws k m (iri_of _ _ (b.one_range (triple_of base (a_range (column_named t c) k)) a.range refl refl))

  pub record ColumnFound (t c : Name) (k : Kind) : Type 0 where
    pub found : ColumnRole
    pub has : HasRole (column_term base (column_named t c)) (role.Column found)
    pub name : found.name ≡ column_named t c
    pub kind : found.kind ≡ k

  pub column_found : (t c : Name) (k : Kind) → IsColumn base G t c k → ColumnFound t c k
  column_found t c k h = let o = role_of (column_term base (column_named t c)) (holds_subject (triple_of base (property_fact t c)) h.property) in go o.0 o.1 o.2
    where
      go : (r : Role) → HasRole (column_term base (column_named t c)) r → IsRole base g G (column_term base (column_named t c)) r → ColumnFound t c k
      go (role.Class u) has is = absurd (table≢column base laws u (column_named t c) (sym is.0))
      go (role.Link l) has is = absurd (column≢link base laws G (column_named t c) k (link_named l.name) is.source is.target is.term h is.link)
      go role.Nothing has is = absurd (is.1 (column_named t c) k refl h)
      go (role.Column r) has is =
          let e = column-injective base laws t c r.name.table r.name.column (iri_of _ _ is.term) in
          let name : r.name ≡ column_named t c = λ i. record { table = sym e.0 i; column = sym e.1 i } in
          record { found = r; has = has; name = name; kind = one_kind t c r.kind k (subst (λ (n : ColumnName). IsColumn base G n.table n.column r.kind) name is.column) h }

  pub record LinkFound (l : Link) : Type 0 where
    pub found : LinkRole
    pub has : HasRole (link_term base l) (role.Link found)
    pub name : link_named found.name ≡ l

  pub link_found : (l : Link) (t u : Name) → IsLink base G l t u → LinkFound l
  link_found l t u h = let o = role_of (link_term base l) (holds_subject (triple_of base (an_object l)) h.linked.object) in go o.0 o.1 o.2
    where
      go : (r : Role) → HasRole (link_term base l) r → IsRole base g G (link_term base l) r → LinkFound l
      go (role.Class v) has is = absurd (table≢link base laws v l (sym is.0))
      go (role.Column r) has is = absurd (column≢link base laws G r.name r.kind l t u (sym is.term) is.column h)
      go (role.Link r) has is = record { found = r; has = has; name = link-injective base laws (link_named r.name) l (sym (iri_of _ _ is.term)) }
      go role.Nothing has is = absurd (is.2 l t u refl h)

  -- ---- searches among the roles

  number_in : (r : Role) → IsIn r rs → (n : ℕ) × (role_at rs n ≡ Some r)
  number_in r i = let k = index_of_item r rs i in (suc k.0, k.2)

  role_in : (n : ℕ) (r : Role) → role_at rs n ≡ Some r → IsIn r rs
  role_in zero r e = absurd (let f : None ≡ Some r = e in cc)
  role_in (suc k) r e = item_at_index r rs k e

  there : (x : Term) (r : Role) → HasRole x r → IsIn r rs
  there x r h = role_in h.number r h.here

  is_in : (r : Role) → IsIn r rs → (x : Term) × IsRole base g G x r
  is_in r i = let n = number_in r i in let x = term_of_role n.0 r n.1 in (x.0, x.2)

  pub told_said : (f : Fact) → Told (Says base G f)
  told_said f = told_in told_statement (triple_of base f) G

  -- ---- columns

  abbrev IsNamed : ColumnName → Role → Type 0
  IsNamed c (role.Column r) = r.name ≡ c
  IsNamed c (role.Class t) = ⊥
  IsNamed c (role.Link l) = ⊥
  IsNamed c role.Nothing = ⊥

  told_named : (c : ColumnName) (r : Role) → Told (IsNamed c r)
  told_named c (role.Column r) = told_column r.name c
  told_named c (role.Class t) = inr (λ h. h)
  told_named c (role.Link l) = inr (λ h. h)
  told_named c role.Nothing = inr (λ h. h)

  abbrev IsKinded : ColumnName → Type 0
  IsKinded c = (k : Kind) × IsColumn base G c.table c.column k

  column_of : (c : ColumnName) (r : Role) → IsIn r rs → IsNamed c r → IsKinded c
  column_of c (role.Column r) i e = let x = is_in (role.Column r) i in (r.kind, subst (λ (n : ColumnName). IsColumn base G n.table n.column r.kind) e x.1.column)
  column_of c (role.Class t) i e = absurd e
  column_of c (role.Link l) i e = absurd e
  column_of c role.Nothing i e = absurd e

  pub told_kinded : (c : ColumnName) → Told (IsKinded c)
  told_kinded c = go (told_some (IsNamed c) (told_named c) rs)
    where
      go : Told ((r : Role) × IsIn r rs × IsNamed c r) → Told (IsKinded c)
      go (inl h) = inl (column_of c h.0 h.1 h.2)
      go (inr none) = inr (λ k. let f = column_found c.table c.column k.0 k.1 in none (role.Column f.found, there _ _ f.has, f.name))

  pub column_sure : (c : ColumnName) (k : Kind) → ¬ (¬ IsColumn base G c.table c.column k) → IsColumn base G c.table c.column k
  column_sure c k h =
      let f : IsKinded c = sure (told_kinded c) (λ n. h (λ i. n (k, i))) in
      let same : f.0 ≡ k = sure (told_kind base laws f.0 k) (λ n. h (λ i. n (one_kind c.table c.column f.0 k f.1 i))) in
      subst (IsColumn base G c.table c.column) same f.1

  -- ---- a column of a class

  abbrev IsOfTable : Name → Role → Type 0
  IsOfTable t (role.Column r) = r.name.table ≡ t
  IsOfTable t (role.Class u) = ⊥
  IsOfTable t (role.Link l) = ⊥
  IsOfTable t role.Nothing = ⊥

  told_of_table : (t : Name) (r : Role) → Told (IsOfTable t r)
  told_of_table t (role.Column r) = told_text r.name.table t
  told_of_table t (role.Class u) = inr (λ h. h)
  told_of_table t (role.Link l) = inr (λ h. h)
  told_of_table t role.Nothing = inr (λ h. h)

  table_column : (t : Name) (r : Role) → IsIn r rs → IsOfTable t r → Explains base G (a_class t)
  table_column t (role.Column r) i e = let x = is_in (role.Column r) i in (r.name.column, r.kind, subst (λ u. IsColumn base G u r.name.column r.kind) e x.1.column)
  table_column t (role.Class u) i e = absurd e
  table_column t (role.Link l) i e = absurd e
  table_column t role.Nothing i e = absurd e

  pub class_sure : (t : Name) → ¬ (¬ Explains base G (a_class t)) → Explains base G (a_class t)
  class_sure t h = go (told_some (IsOfTable t) (told_of_table t) rs)
    where
      go : Told ((r : Role) × IsIn r rs × IsOfTable t r) → Explains base G (a_class t)
      go (inl k) = table_column t k.0 k.1 k.2
      go (inr none) = absurd (h (λ e. let f = column_found t e.0 e.1 e.2 in none (role.Column f.found, there _ _ f.has, ap (λ (n : ColumnName). n.table) f.name)))

  -- ---- references and relations

  abbrev pub IsLinkNamed : Link → Role → Type 0
  IsLinkNamed l (role.Link r) = link_named r.name ≡ l
  IsLinkNamed l (role.Class t) = ⊥
  IsLinkNamed l (role.Column c) = ⊥
  IsLinkNamed l role.Nothing = ⊥

  told_link_named : (l : Link) (r : Role) → Told (IsLinkNamed l r)
  told_link_named l (role.Link r) = told_link base laws (link_named r.name) l
  told_link_named l (role.Class t) = inr (λ h. h)
  told_link_named l (role.Column c) = inr (λ h. h)
  told_link_named l role.Nothing = inr (λ h. h)

  abbrev pub IsLinkOf : Link → Type 0
  IsLinkOf l = (t : Name) × (u : Name) × IsLink base G l t u

  link_of : (l : Link) (r : Role) → IsIn r rs → IsLinkNamed l r → IsLinkOf l
  link_of l (role.Link r) i e = let x = is_in (role.Link r) i in (x.1.source, x.1.target, subst (λ m. IsLink base G m x.1.source x.1.target) e x.1.link)
  link_of l (role.Class t) i e = absurd e
  link_of l (role.Column c) i e = absurd e
  link_of l role.Nothing i e = absurd e

  pub told_link_of : (l : Link) → Told (IsLinkOf l)
  told_link_of l = go (told_some (IsLinkNamed l) (told_link_named l) rs)
    where
      go : Told ((r : Role) × IsIn r rs × IsLinkNamed l r) → Told (IsLinkOf l)
      go (inl h) = inl (link_of l h.0 h.1 h.2)
      go (inr none) = inr (λ k. let f = link_found l k.0 k.1 k.2 in none (role.Link f.found, there _ _ f.has, f.name))

  -- ---- domains

  abbrev IsOfIri : List ℕ → Name → Role → Type 0
  IsOfIri i t (role.Column r) = (column_iri base r.name ≡ i) × (r.name.table ≡ t)
  IsOfIri i t (role.Class u) = ⊥
  IsOfIri i t (role.Link l) = link_iri base (link_named l.name) ≡ i
  IsOfIri i t role.Nothing = ⊥

  told_of_iri : (i : List ℕ) (t : Name) (r : Role) → Told (IsOfIri i t r)
  told_of_iri i t (role.Column r) = told_both (told_text (column_iri base r.name) i) (told_text r.name.table t)
  told_of_iri i t (role.Class u) = inr (λ h. h)
  told_of_iri i t (role.Link l) = told_text (link_iri base (link_named l.name)) i
  told_of_iri i t role.Nothing = inr (λ h. h)

  module _ (i : List ℕ) (t : Name) (h : ¬ (¬ Explains base G (a_domain i t))) where
    domain_of : (r : Role) → IsIn r rs → IsOfIri i t r → Explains base G (a_domain i t)
    domain_of (role.Class u) j e = absurd e
    domain_of role.Nothing j e = absurd e
    domain_of (role.Column r) j e =
        let x = is_in (role.Column r) j in
        inl (r.name.column, r.kind, subst (λ u. column_iri base (column_named u r.name.column) ≡ i) e.1 e.0, subst (λ u. IsColumn base G u r.name.column r.kind) e.1 x.1.column)
    domain_of (role.Link r) j e =
        let x = is_in (role.Link r) j in
        let l = link_named r.name in
        let same : x.1.source ≡ t = sure (told_text x.1.source t) (λ n. h (λ d. elim d [
          | inl c ↦ column≢link base laws G (column_named t c.0) c.1 l x.1.source x.1.target (ap term.Iri (c.2 ∙ sym e)) c.3 x.1.link
          | inr k ↦
              (let link : IsLink base G l t k.1 = subst (λ m. IsLink base G m t k.1) (link-injective base laws k.0 l (k.2 ∙ sym e)) k.3 in
              n (link_from base laws G l x.1.source x.1.target t k.1 x.1.link link))
        ])) in
        inr (l, x.1.target, e, subst (λ s. IsLink base G l s x.1.target) same x.1.link)

    pub domain_sure : Explains base G (a_domain i t)
    domain_sure = go (told_some (IsOfIri i t) (told_of_iri i t) rs)
      where
        go : Told ((r : Role) × IsIn r rs × IsOfIri i t r) → Explains base G (a_domain i t)
        go (inl k) = domain_of k.0 k.1 k.2
        go (inr none) = absurd (h (λ d. elim d [
          | inl c ↦
              (let f = column_found t c.0 c.1 c.3 in
              none (role.Column f.found, there _ _ f.has, (ap (column_iri base) f.name ∙ c.2, ap (λ (n : ColumnName). n.table) f.name)))
          | inr k ↦ (let f = link_found k.0 t k.1 k.3 in none (role.Link f.found, there _ _ f.has, ap (link_iri base) f.name ∙ k.2))
        ]))

  -- ---- nodes

  abbrev IsNodeOf : Node → Role → Type 0
  IsNodeOf n (role.Class t) = Says base G (a_node n t)
  IsNodeOf n (role.Column c) = ⊥
  IsNodeOf n (role.Link l) = ⊥
  IsNodeOf n role.Nothing = ⊥

  told_node_of : (n : Node) (r : Role) → Told (IsNodeOf n r)
  told_node_of n (role.Class t) = told_said (a_node n t)
  told_node_of n (role.Column c) = inr (λ h. h)
  told_node_of n (role.Link l) = inr (λ h. h)
  told_node_of n role.Nothing = inr (λ h. h)

  node_of : (n : Node) (r : Role) → IsIn r rs → IsNodeOf n r → (t : Name) × IsNode base G n t
  node_of n (role.Class t) i e = let x = is_in (role.Class t) i in (t, (x.1.1, e))
  node_of n (role.Column c) i e = absurd e
  node_of n (role.Link l) i e = absurd e
  node_of n role.Nothing i e = absurd e

  pub node_sure : (n : Node) → ¬ (¬ ((t : Name) × IsNode base G n t)) → (t : Name) × IsNode base G n t
  node_sure n h = go (told_some (IsNodeOf n) (told_node_of n) rs)
    where
      go : Told ((r : Role) × IsIn r rs × IsNodeOf n r) → (t : Name) × IsNode base G n t
      go (inl k) = node_of n k.0 k.1 k.2
      go (inr none) = absurd (h (λ k. none (role.Class k.0, there _ _ (class_found k.0 k.1.0), k.1.1)))
