-- The graph of a layout is accepted.
use Rattle.std.specs.Prelude.{ℕ, ◌≢◌, codes, ◌++◌}
use Rattle.std.proofs.Common.{◌≡◌, refl, sym, ap, ◌∙◌, subst, inl, inr, ◌⊎◌, List, [], Some}
use Rattle.layouts_dm.specs.Rules.{Accepted, Explains, HasValues, IsClass, IsColumn, IsLink, IsLinked, IsNode, IsOfSort, iri_term}
use Rattle.layouts_dm.specs.Layouts.{Class, ClassColumn, Describes, GoodLink, GoodRelation, HasClass, HasColumn, HasNode, Holds, IsGoodName, Layout, Part, WellFormed, cell_fact, column_named, property_fact, property_iri, range_fact}
use Rattle.facts_dm.specs.Facts.{Fact, KindText, Link, Node, a_cell, a_class, a_domain, a_link, a_link_range, a_mark, a_node, a_property, a_range, an_object, link_iri, ref_link, rel_link, triple_of}
use Rattle.facts_dm.specs.Vocabulary.{word_iri}
use Rattle.facts_dm.specs.declared.word.Word.TheVariants.{Datatype, RdfsRange}
use Rattle.members_dm.specs.Membership.{IsIn}
use Rattle.value_dm.specs.declared.kind.Kind.{Kind}
use Rattle.schema_dm.specs.Naming.{Name}
use Rattle.facts_dm.specs.Meanings.{NamingLaws}
use Rattle.names_dm.specs.declared.names.ColumnName.{ColumnName}
use Rattle.names_dm.specs.declared.names.RelName.{RelName}
use Rattle.names_dm.proofs.NamesApart.{names_apart}
use Rattle.names_dm.specs.Statements.{Statement}
use Rattle.members_dm.proofs.ElementsLemmas.{one_by_key}
use Rattle.names_dm.specs.Names.{table_iri}
use Rattle.layouts_dm.proofs.Facts.{column-injective, link-injective, reference_iri, range_of, domain_of}

iri-injective : (a b : Name) → (iri_term a) ≡ (iri_term b) → a ≡ b
iri-injective a b e = cc

module _ (base : List ℕ) (laws : NamingLaws base) (L : Layout) (G : List Statement) (w : WellFormed L) (d : Describes base L G) where
  -- what a triple of the graph says holds of the layout
  pub back : (f : Fact) → IsIn (triple_of base f) G → Holds base L f
  back f h = let r = d.only (triple_of base f) h in subst (Holds base L) (sym (laws.one_fact f r.0 r.2)) r.1

  pub same_class : (c e : Class) → IsIn c L.classes → IsIn e L.classes → c.name ≡ e.name → c ≡ e
  same_class c e h k q = one_by_key (λ (x : Class). x.name) L.classes w.classes c e h k q

  pub same_part : (p r : Part) → IsIn p L.parts → IsIn r L.parts → p.link ≡ r.link → p ≡ r
  same_part p r h k q = one_by_key (λ (x : Part). x.link) L.parts w.links p r h k q

  pub one_kind : (t x : Name) (k l : Kind) → Holds base L (range_fact t x k) → Holds base L (range_fact t x l) → k ≡ l
  one_kind t x k l h g =
      let q : g.0 ≡ h.0 = same_class g.0 h.0 g.1 h.1 (g.2 ∙ sym h.2) in
      let i : IsIn g.3 h.0.columns = subst (λ (c : Class). IsIn g.3 c.columns) q g.4 in
      let p : h.3 ≡ g.3 = one_by_key (λ (y : ClassColumn). y.name) h.0.columns (w.columns h.0 h.1) h.3 g.3 h.4 i (h.5 ∙ sym g.5) in
      sym h.6 ∙ ap (λ (y : ClassColumn). y.kind) p ∙ g.6

  -- no column and no reference or relation share an IRI
  link_apart : (t x : Name) (p : Part) (l : Link) → IsIn p L.parts → p.link ≡ l → GoodLink L p l → HasColumn L t x → property_iri base t x ≢ link_iri base l
  link_apart t x p (ref_link r) i s g h e =
      let some : r.columns ≢ [] = λ n. subst (λ l. IsIn g.some.0 l) n g.some.1 in
      let c = (names_apart base).column_ref (column_named t x) r some (e ∙ reference_iri base r some) in
      let named : column_named t x ≡ column_named r.table (codes "ref-" ++ c.0) = c.2 in
      let table : t ≡ r.table = ap (λ (n : ColumnName). n.table) named in
      let column : x ≡ codes "ref-" ++ c.0 = ap (λ (n : ColumnName). n.column) named in
      g.no_clash c.0 c.1 (subst (λ z. HasColumn L z (codes "ref-" ++ c.0)) table (subst (HasColumn L t) column h))
  link_apart t x p (rel_link q) i s g h e = (names_apart base).column_rel (column_named t x) q e

  pub apart : (t x : Name) (p : Part) → HasColumn L t x → IsIn p L.parts → property_iri base t x ≢ link_iri base p.link
  apart t x p h i = link_apart t x p p.link i refl (w.good p i) h

  -- a range of the graph, with what states it
  pub range_states : (i : Name) (y : Statement) → IsIn y G → y.subject ≡ (iri_term i) → y.predicate ≡ word_iri RdfsRange →
      ((t : Name) × (x : Name) × (k : Kind) × (property_iri base t x ≡ i) × Holds base L (range_fact t x k) × (y.object ≡ (iri_term (word_iri (Datatype k)))))
      ⊎ ((p : Part) × (IsIn p L.parts) × (link_iri base p.link ≡ i) × (y.object ≡ (iri_term (table_iri base p.to))))
  range_states i y h s q =
      let r = d.only y h in
      elim (range_of base laws r.0 (sym (ap (λ (z : Statement). z.predicate) r.2) ∙ q)) [
        | inl a ↦
            (let e : y ≡ triple_of base (range_fact a.0 a.1 a.2) = r.2 ∙ ap (triple_of base) a.3 in
            inl (a.0, a.1, a.2, iri-injective _ _ (sym (ap (λ (z : Statement). z.subject) e) ∙ s), subst (Holds base L) a.3 r.1, ap (λ (z : Statement). z.object) e))
        | inr a ↦
            (let e : y ≡ triple_of base (a_link_range a.0 a.1) = r.2 ∙ ap (triple_of base) a.2 in
            let g : Holds base L (a_link_range a.0 a.1) = subst (Holds base L) a.2 r.1 in
            inr (g.0, g.1, ap (link_iri base) g.2 ∙ iri-injective _ _ (sym (ap (λ (z : Statement). z.subject) e) ∙ s), ap (λ (z : Statement). z.object) e ∙ ap (λ t. (iri_term (table_iri base t))) (sym g.3)))
      ]

  class_of : (t : Name) → HasClass L t → IsClass base G t
  class_of t h = (d.all (a_class t) h, subst IsGoodName h.2 (w.class_names h.0 h.1))

  pub column_of : (t x : Name) (k : Kind) → Holds base L (range_fact t x k) → IsColumn base G t x k
  column_of t x k h = record {
    class = class_of t (h.0, h.1, h.2);
    good = subst IsGoodName h.5 (w.column_names h.0 h.3 h.1 h.4);
    property = d.all (property_fact t x) (h.0, h.1, h.2, h.3, h.4, h.5);
    domain = d.all (a_domain (property_iri base t x) t) (inl (x, refl, (h.0, h.1, h.2, h.3, h.4, h.5)));
    range = d.all (range_fact t x k) h;
    one_range = λ y i s p. elim (range_states (property_iri base t x) y i s p) [
      | inl a ↦
          (let n = column-injective base laws a.0 a.1 t x a.3 in
          let g = a.4 in
          let g' : Holds base L (range_fact t x a.2) = (g.0, g.1, g.2 ∙ n.0, g.3, g.4, g.5 ∙ n.1, g.6) in
          a.5 ∙ ap (λ (l : Kind). (iri_term (word_iri (Datatype l)))) (one_kind t x a.2 k g' h))
      | inr a ↦ absurd (apart t x a.0 (h.0, h.1, h.2, h.3, h.4, h.5) a.1 (sym a.2))
    ];
  }

  pub column_in : (t x : Name) → HasColumn L t x → (k : Kind) × IsColumn base G t x k
  column_in t x h = (h.3.kind, column_of t x h.3.kind (h.0, h.1, h.2, h.3, h.4, h.5, refl))

  class_of_column : (t x : Name) → HasColumn L t x → HasClass L t
  class_of_column t x h = (h.0, h.1, h.2)

  ends : (p : Part) (l : Link) → GoodLink L p l → HasClass L p.from × HasClass L p.to
  ends p (ref_link name) g = (g.from, g.to)
  ends p (rel_link q) g = (class_of_column p.from q.left_target g.left, class_of_column p.to q.right_target g.right)

  linked : (p : Part) → IsIn p L.parts → IsLinked base G p.link p.from p.to
  linked p i =
      let e = ends p p.link (w.good p i) in
      record {
        object = d.all (an_object p.link) (p, i, refl);
        domain = d.all (a_domain (link_iri base p.link) p.from) (inr (p, i, refl, refl));
        range = d.all (a_link_range p.link p.to) (p, i, refl, refl);
        from = class_of p.from e.0;
        to = class_of p.to e.1;
        good = w.link_names p i;
        one_range = λ y j s q. elim (range_states (link_iri base p.link) y j s q) [
          | inl a ↦ (let g = a.4 in absurd (apart a.0 a.1 p (g.0, g.1, g.2, g.3, g.4, g.5) i a.3))
          | inr a ↦ a.3 ∙ ap (λ (r : Part). (iri_term (table_iri base r.to))) (same_part a.0 p a.1 i (link-injective base laws a.0.link p.link a.2))
        ];
      }

  -- the domain that the graph states of a part's IRI is the part's
  pub part_domain : (p : Part) (t : Name) → IsIn p L.parts → Holds base L (a_domain (link_iri base p.link) t) → t ≡ p.from
  part_domain p t i (inl a) = absurd (apart t a.0 p a.2 i a.1)
  part_domain p t i (inr a) = sym a.3 ∙ ap (λ (r : Part). r.from) (same_part a.0 p a.1 i (link-injective base laws a.0.link p.link a.2))

  sort : (p : Part) (l : Link) → IsIn p L.parts → p.link ≡ l → GoodLink L p l → IsOfSort base G l p.from p.to
  sort p (ref_link name) i e g = record {
    of_table = g.of_table;
    some = g.some;
    distinct = g.distinct;
    columns = λ c j. column_in name.table c (g.columns c j);
  }
  sort p (rel_link q) i e g = record {
    two = g.two;
    no_class = λ h. g.no_class (back (a_class q.table) h.0);
    left = column_in p.from q.left_target g.left;
    right = column_in p.to q.right_target g.right;
    one_domain = λ y j s o.
        let r = d.only y j in
        let a = domain_of base laws r.0 (sym (ap (λ (z : Statement). z.predicate) r.2) ∙ o) in
        let y' : y ≡ triple_of base (a_domain a.0 a.1) = r.2 ∙ ap (triple_of base) a.2 in
        let same : a.0 ≡ link_iri base p.link = iri-injective _ _ (sym (ap (λ (z : Statement). z.subject) y') ∙ s) ∙ ap (link_iri base) (sym e) in
        let h : Holds base L (a_domain (link_iri base p.link) a.1) = subst (λ x. Holds base L (a_domain x a.1)) same (subst (Holds base L) a.2 r.1) in
        ap (λ (z : Statement). z.object) y' ∙ ap (λ x. (iri_term (table_iri base x))) (part_domain p a.1 i h);
    one = λ s f m h. let b = back (an_object (rel_link s)) h in g.one b.0 s b.1 b.2 m;
  }

  pub link_of : (p : Part) → IsIn p L.parts → IsLink base G p.link p.from p.to
  link_of p i = record { linked = linked p i; sort = sort p p.link i refl (w.good p i) }

  link_at : (p : Part) (l : Link) → IsIn p L.parts → p.link ≡ l → IsLink base G l p.from p.to
  link_at p l i e = subst (λ m. IsLink base G m p.from p.to) e (link_of p i)

  node_of : (t : Name) (n : Node) → HasNode L t n → IsNode base G n t
  node_of t n h = (class_of t (h.0, h.1, h.2), d.all (a_node n t) h)

  explains : (f : Fact) → Holds base L f → Explains base G f
  explains (a_class t) h =
      let s = w.some_column h.0 h.1 in
      let k = column_in t s.0.name (h.0, h.1, h.2, s.0, s.1, refl) in
      (s.0.name, k.0, k.1)
  explains (a_property name) h = column_in name.table name.column h
  explains (an_object l) h = (h.0.from, h.0.to, link_at h.0 l h.1 h.2)
  explains (a_domain i t) (inl h) = let k = column_in t h.0 h.2 in inl (h.0, k.0, h.1, k.1)
  explains (a_domain i t) (inr h) = inr (h.0.link, h.0.to, h.2, subst (λ u. IsLink base G h.0.link u h.0.to) h.3 (link_of h.0 h.1))
  explains (a_range name k) h = column_of name.table name.column k h
  explains (a_link_range l u) h = (h.0.from, subst (λ v. IsLink base G l h.0.from v) h.3 (link_at h.0 l h.1 h.2))
  explains (a_node n t) h = class_of t (h.0, h.1, h.2)
  explains (a_cell n name v) h =
      let k = w.cells h.0 n h.4 v h.1 h.3 h.5 (ap (L.cell n) h.6 ∙ h.7) in
      (node_of name.table n (h.0, h.1, h.2, h.3), column_of name.table name.column v.kind (h.0, h.1, h.2, h.4, h.5, h.6, sym k.0), k.1)
  explains (a_link n l m) h =
      let b = w.pair_nodes h.0 n m h.1 h.3 in
      (h.0.from, h.0.to, link_at h.0 l h.1 h.2, node_of h.0.from n b.0, node_of h.0.to m b.1)
  explains (a_mark n) h = let t = w.marks n h in (t.0, node_of t.0 n t.1)

  one_value : (n : Node) (t x : Name) (v u : KindText) → Holds base L (cell_fact n t x v) → Holds base L (cell_fact n t x u) → v ≡ u
  one_value n t x v u h g = let s : Some v ≡ Some u = sym h.7 ∙ g.7 in cc

  -- a value of a node in a column of its class
  cell_in : (t x : Name) (n : Node) (v : KindText) → HasNode L t n → HasColumn L t x → L.cell n x ≡ Some v → IsIn (triple_of base (cell_fact n t x v)) G
  cell_in t x n v h g e =
      let q : h.0 ≡ g.0 = same_class h.0 g.0 h.1 g.1 (h.2 ∙ sym g.2) in
      d.all (cell_fact n t x v) (g.0, g.1, g.2, subst (λ (c : Class). IsIn n c.nodes) q h.3, g.3, g.4, g.5, e)

  values : (q : RelName) (t u : Name) (n m : Node) → IsLink base G (rel_link q) t u → IsIn (triple_of base (a_link n (rel_link q) m)) G → HasValues base G q t u n m
  values q t u n m k h =
      let b = back (a_link n (rel_link q) m) h in
      let g : GoodRelation L b.0 q = subst (GoodLink L b.0) b.2 (w.good b.0 b.1) in
      let x = w.pair_nodes b.0 n m b.1 b.3 in
      let y = g.values n m b.3 in
      let from : t ≡ b.0.from = part_domain b.0 t b.1 (subst (λ i. Holds base L (a_domain i t)) (ap (link_iri base) (sym b.2)) (back (a_domain (link_iri base (rel_link q)) t) k.linked.domain)) in
      let r = back (a_link_range (rel_link q) u) k.linked.range in
      let to : u ≡ b.0.to = sym r.3 ∙ ap (λ (z : Part). z.to) (same_part r.0 b.0 r.1 b.1 (r.2 ∙ sym b.2)) in (
        (y.0.0, subst (λ z. IsIn (triple_of base (cell_fact n z q.left_target y.0.0)) G) (sym from) (cell_in b.0.from q.left_target n y.0.0 x.0 g.left y.0.1)),
        (y.1.0, subst (λ z. IsIn (triple_of base (cell_fact m z q.right_target y.1.0)) G) (sym to) (cell_in b.0.to q.right_target m y.1.0 x.1 g.right y.1.1)),
      )

  pub accepted : Accepted base G
  accepted = record {
    explained = λ x i. let r = d.only x i in (r.0, r.2, explains r.0 r.1);
    one_value = λ n t x v u h g. one_value n t x v u (back (cell_fact n t x v) h) (back (cell_fact n t x u) g);
    one_table = λ n t u h g.
        let a = back (a_node n t) h in
        let b = back (a_node n u) g in
        sym a.2 ∙ w.one_class a.0 b.0 n a.1 b.1 a.3 b.3 ∙ b.2;
    values = values;
  }
