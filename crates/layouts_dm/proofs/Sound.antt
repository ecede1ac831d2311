-- What is read off an accepted graph is a layout of it.
use Rattle.std.specs.Prelude.{ℕ}
use Rattle.std.proofs.Common.{◌≡◌, refl, sym, ap, ◌∙◌, subst, inl, inr, List, Some}
use Rattle.std.specs.Prelude.{◌≢◌, ◌++◌, [], ◌∷◌, codes}
use Rattle.layouts_dm.specs.Rules.{Accepted, Explains, IsClass, IsColumn, IsLink, IsLinked, IsNode, ReadOff, iri_term}
use Rattle.layouts_dm.specs.Layouts.{Class, ClassColumn, Describes, GoodLink, HasClass, HasColumn, HasNode, Holds, IsCanonical, IsGoodLink, Layout, Part, WellFormed, cell_fact, property_iri, range_fact}
use Rattle.facts_dm.specs.Facts.{Fact, KindText, Link, Node, a_cell, a_class, a_domain, a_link, a_link_range, a_mark, a_node, a_property, a_range, an_object, link_iri, ref_link, rel_link, triple_of}
use Rattle.members_dm.specs.Membership.{IsIn}
use Rattle.value_dm.specs.declared.kind.Kind.{Kind}
use Rattle.schema_dm.specs.Naming.{Name}
use Rattle.facts_dm.specs.Meanings.{NamingLaws}
use Rattle.names_dm.specs.Statements.{Statement}
use Rattle.layouts_dm.proofs.Facts.{alone_iri, table-injective, datatype-injective, datatype≢table}

pub iri-injective : (a b : Name) → (iri_term a) ≡ (iri_term b) → a ≡ b
iri-injective a b e = cc

module _ (base : List ℕ) (laws : NamingLaws base) (G : List Statement) where
  -- a link has one class at each end
  pub link_to : (l : Link) (t u t' u' : Name) → IsLink base G l t u → IsLink base G l t' u' → u ≡ u'
  link_to l t u t' u' h g = table-injective base laws u u' (iri-injective _ _ (g.linked.one_range (triple_of base (a_link_range l u)) h.linked.range refl refl))

  pub link_from : (l : Link) (t u t' u' : Name) → IsLink base G l t u → IsLink base G l t' u' → t ≡ t'
  link_from (ref_link name) t u t' u' h g = h.sort.of_table ∙ sym g.sort.of_table
  link_from (rel_link q) t u t' u' h g = table-injective base laws t t' (iri-injective _ _ (g.sort.one_domain (triple_of base (a_domain (link_iri base (rel_link q)) t)) h.linked.domain refl refl))

module _ (base : List ℕ) (laws : NamingLaws base) (L : Layout) (G : List Statement) (a : Accepted base G) (r : ReadOff base G L) where
  explains_of : (f : Fact) → IsIn (triple_of base f) G → Explains base G f
  explains_of f h = let s = a.explained (triple_of base f) h in subst (Explains base G) (sym (laws.one_fact f s.0 s.1)) s.2

  some_column : (c : Class) → IsIn c L.classes → (d : ClassColumn) × IsIn d c.columns
  some_column c i =
      let e = explains_of (a_class c.name) (r.classes_back c i).0 in
      let h = r.columns c e.0 e.1 i e.2.range in
      (h.0, h.1)

  cells : (c : Class) (n : Node) (d : ClassColumn) (v : KindText) → IsIn c L.classes → IsIn n c.nodes → IsIn d c.columns → L.cell n d.name ≡ Some v → (v.kind ≡ d.kind) × IsCanonical v
  cells c n d v i j k p =
      let x = explains_of (cell_fact n c.name d.name v) ((r.cells c n d v i j k).1 p) in
      (sym (datatype-injective base laws d.kind v.kind (iri-injective _ _ (x.1.one_range (triple_of base (range_fact c.name d.name d.kind)) (r.columns_back c d i k) refl refl))), x.2)

  one_class : (c d : Class) (n : Node) → IsIn c L.classes → IsIn d L.classes → IsIn n c.nodes → IsIn n d.nodes → c.name ≡ d.name
  one_class c d n i j k l = a.one_table n c.name d.name ((r.nodes c n i).1 k) ((r.nodes d n j).1 l)

  -- from the rules to the layout
  column_in : (t x : Name) (k : Kind) → IsColumn base G t x k → Holds base L (range_fact t x k)
  column_in t x k h =
      let c = r.classes t h.class in
      let d = r.columns c.0 x k c.1 (subst (λ u. IsIn (triple_of base (range_fact u x k)) G) (sym c.2) h.range) in
      (c.0, c.1, c.2, d.0, d.1, d.2, d.3)

  has_column : (t x : Name) (k : Kind) → IsColumn base G t x k → HasColumn L t x
  has_column t x k h = let g = column_in t x k h in (g.0, g.1, g.2, g.3, g.4, g.5)

  has_node : (t : Name) (n : Node) → IsNode base G n t → HasNode L t n
  has_node t n h =
      let c = r.classes t h.0 in
      (c.0, c.1, c.2, (r.nodes c.0 n c.1).0 (subst (λ u. IsIn (triple_of base (a_node n u)) G) (sym c.2) h.1))

  cell_at : (n : Node) (t x : Name) (v : KindText) → IsIn (triple_of base (cell_fact n t x v)) G → IsNode base G n t × IsColumn base G t x v.kind × (IsCanonical v) → Holds base L (cell_fact n t x v)
  cell_at n t x v i e =
      let h = column_in t x v.kind e.1 in
      let m : IsIn n h.0.nodes = (r.nodes h.0 n h.1).0 (subst (λ u. IsIn (triple_of base (a_node n u)) G) (sym h.2) e.0.1) in
      let i' : IsIn (triple_of base (cell_fact n h.0.name h.3.name v)) G =
      subst (λ y. IsIn (triple_of base (cell_fact n h.0.name y v)) G) (sym h.5) (subst (λ u. IsIn (triple_of base (cell_fact n u x v)) G) (sym h.2) i) in
      (h.0, h.1, h.2, m, h.3, h.4, h.5, ap (L.cell n) (sym h.5) ∙ (r.cells h.0 n h.3 v h.1 m h.4).0 i')

  value_at : (n : Node) (t x : Name) (v : KindText) → IsIn (triple_of base (cell_fact n t x v)) G → L.cell n x ≡ Some v
  value_at n t x v i = (cell_at n t x v i (explains_of (cell_fact n t x v) i)).7

  -- from the layout to the rules
  is_class : (t : Name) → HasClass L t → IsClass base G t
  is_class t h = subst (IsClass base G) h.2 (r.classes_back h.0 h.1)

  is_column : (t x : Name) (k : Kind) → Holds base L (range_fact t x k) → IsColumn base G t x k
  is_column t x k h =
      let i = r.columns_back h.0 h.3 h.1 h.4 in
      subst (λ u. IsColumn base G u x k) h.2 (subst (λ y. IsColumn base G h.0.name y k) h.5 (subst (λ l. IsColumn base G h.0.name h.3.name l) h.6 (explains_of (range_fact h.0.name h.3.name h.3.kind) i)))

  pair_nodes : (p : Part) (n m : Node) → IsIn p L.parts → IsIn {X = Node × Node} (n, m) p.pairs → HasNode L p.from n × HasNode L p.to m
  pair_nodes p n m i j =
      let e = explains_of (a_link n p.link m) ((r.pairs p n m i).1 j) in
      let k = r.parts_back p i in (
        has_node p.from n (subst (λ t. IsNode base G n t) (link_from base laws G p.link e.0 e.1 p.from p.to e.2 k) e.3),
        has_node p.to m (subst (λ t. IsNode base G m t) (link_to base laws G p.link e.0 e.1 p.from p.to e.2 k) e.4),
      )

  apart : (t x : Name) (p : Part) → HasColumn L t x → IsIn p L.parts → property_iri base t x ≢ link_iri base p.link
  apart t x p h i e =
      let c = is_column t x h.3.kind (h.0, h.1, h.2, h.3, h.4, h.5, refl) in
      let o = c.one_range (triple_of base (a_link_range p.link p.to)) (r.parts_back p i).linked.range (ap (λ z. (iri_term z)) (sym e)) refl in
      datatype≢table base laws h.3.kind p.to (sym (iri-injective _ _ o))

  good : (p : Part) (l : Link) → IsIn p L.parts → p.link ≡ l → IsLink base G l p.from p.to → GoodLink L p l
  good p (ref_link name) i e k = record {
    of_table = k.sort.of_table;
    from = r.classes p.from k.linked.from;
    to = r.classes p.to k.linked.to;
    some = k.sort.some;
    distinct = k.sort.distinct;
    columns = λ c j. let x = k.sort.columns c j in has_column name.table c x.0 x.1;
    no_clash = λ x s h.
        let named : name ≡ record { table = name.table; columns = x ∷ [] } = λ t. record { table = name.table; columns = s t } in
        apart name.table (codes "ref-" ++ x) p h i (alone_iri base name.table x ∙ ap (λ r. link_iri base (ref_link r)) (sym named) ∙ ap (link_iri base) (sym e));
  }
  good p (rel_link q) i e k = record {
    two = k.sort.two;
    no_class = λ h. k.sort.no_class (is_class q.table h);
    left = has_column p.from q.left_target k.sort.left.0 k.sort.left.1;
    right = has_column p.to q.right_target k.sort.right.0 k.sort.right.1;
    one = λ s q' j f m. k.sort.one q' (subst IsGoodLink f (r.parts_back s j).linked.good) m (subst (λ l. IsIn (triple_of base (an_object l)) G) f (r.parts_back s j).linked.object);
    values = λ n m j.
        let h : IsIn (triple_of base (a_link n (rel_link q) m)) G = subst (λ l. IsIn (triple_of base (a_link n l m)) G) e ((r.pairs p n m i).1 j) in
        let v = a.values q p.from p.to n m k h in
        ((v.0.0, value_at n p.from q.left_target v.0.0 v.0.1), (v.1.0, value_at m p.to q.right_target v.1.0 v.1.1));
  }

  part_at : (l : Link) (t u : Name) → IsLink base G l t u → (p : Part) × (IsIn p L.parts) × (p.link ≡ l) × (p.from ≡ t) × (p.to ≡ u)
  part_at l t u k =
      let p = r.parts l k.linked.object in
      let k' : IsLink base G l p.0.from p.0.to = subst (λ m. IsLink base G m p.0.from p.0.to) p.2 (r.parts_back p.0 p.1) in
      (p.0, p.1, p.2, link_from base laws G l p.0.from p.0.to t u k' k, link_to base laws G l p.0.from p.0.to t u k' k)

  holds : (f : Fact) → IsIn (triple_of base f) G → Explains base G f → Holds base L f
  holds (a_class t) i e = r.classes t e.2.class
  holds (a_property name) i e = has_column name.table name.column e.0 e.1
  holds (an_object l) i e = r.parts l i
  holds (a_domain j t) i (inl e) = inl (e.0, e.2, has_column t e.0 e.1 e.3)
  holds (a_domain j t) i (inr e) = let p = part_at e.0 t e.1 e.3 in inr (p.0, p.1, ap (link_iri base) p.2 ∙ e.2, p.3)
  holds (a_range name k) i e = column_in name.table name.column k e
  holds (a_link_range l u) i e = let p = part_at l e.0 u e.1 in (p.0, p.1, p.2, p.4)
  holds (a_node n t) i e = has_node t n (e, i)
  holds (a_cell n name v) i e = cell_at n name.table name.column v i e
  holds (a_link n l m) i e =
      let p = part_at l e.0 e.1 e.2 in
      (p.0, p.1, p.2, (r.pairs p.0 n m p.1).0 (subst (λ z. IsIn (triple_of base (a_link n z m)) G) (sym p.2) i))
  holds (a_mark n) i e = (r.marks n).0 i

  linked_at : (p : Part) (l : Link) → IsIn p L.parts → p.link ≡ l → IsLinked base G l p.from p.to
  linked_at p l i e = subst (λ m. IsLinked base G m p.from p.to) e (r.parts_back p i).linked

  stands : (f : Fact) → Holds base L f → IsIn (triple_of base f) G
  stands (a_class t) h = (is_class t h).0
  stands (a_property name) h = (is_column name.table name.column h.3.kind (h.0, h.1, h.2, h.3, h.4, h.5, refl)).property
  stands (an_object l) h = (linked_at h.0 l h.1 h.2).object
  stands (a_domain j t) (inl h) = let g = h.2 in subst (λ z. IsIn (triple_of base (a_domain z t)) G) h.1 (is_column t h.0 g.3.kind (g.0, g.1, g.2, g.3, g.4, g.5, refl)).domain
  stands (a_domain j t) (inr h) = subst (λ z. IsIn (triple_of base (a_domain z t)) G) h.2 (subst (λ z. IsIn (triple_of base (a_domain (link_iri base h.0.link) z)) G) h.3 (linked_at h.0 h.0.link h.1 refl).domain)
  stands (a_range name k) h = (is_column name.table name.column k h).range
  stands (a_link_range l u) h = subst (λ z. IsIn (triple_of base (a_link_range l z)) G) h.3 (linked_at h.0 l h.1 h.2).range
  stands (a_node n t) h = subst (λ u. IsIn (triple_of base (a_node n u)) G) h.2 ((r.nodes h.0 n h.1).1 h.3)
  stands (a_cell n name v) h =
      let i = (r.cells h.0 n h.4 v h.1 h.3 h.5).1 (ap (L.cell n) h.6 ∙ h.7) in
      subst (λ u. IsIn (triple_of base (cell_fact n u name.column v)) G) h.2 (subst (λ y. IsIn (triple_of base (cell_fact n h.0.name y v)) G) h.6 i)
  stands (a_link n l m) h = subst (λ z. IsIn (triple_of base (a_link n z m)) G) h.2 ((r.pairs h.0 n m h.1).1 h.3)
  stands (a_mark n) h = (r.marks n).1 h

  pub well_formed : WellFormed L
  well_formed = record {
    class_names = λ c i. (r.classes_back c i).1;
    classes = r.names;
    column_names = λ c d i j. (explains_of (range_fact c.name d.name d.kind) (r.columns_back c d i j)).good;
    link_names = λ p i. (r.parts_back p i).linked.good;
    columns = r.columns_distinct;
    some_column = some_column;
    cells = cells;
    nodes = r.nodes_distinct;
    one_class = one_class;
    links = r.links;
    pairs = r.pairs_distinct;
    pair_nodes = pair_nodes;
    good = λ p i. good p p.link i refl (r.parts_back p i);
    marks = λ n h. let e = explains_of (a_mark n) ((r.marks n).1 h) in (e.0, has_node e.0 n e.1);
  }

  pub describes : Describes base L G
  describes = record {
    only = λ x i. let s = a.explained x i in (s.0, holds s.0 (subst (λ y. IsIn y G) s.1 i) s.2, s.1);
    all = stands;
  }
