-- The three outcomes of the inverse exclude one another, and what passes stands for tables.
use Rattle.std.proofs.Common.{◌≡◌, ℕ, ◌<◌, refl, sym, ap, ◌∙◌, subst, inl, inr, List, [], Some, length, map, arith}
use Rattle.std.specs.Prelude.{◌≢◌, slice_get}
use Rattle.std.specs.List.{AllZip}
use Rattle.std.proofs.lemmas.Bool.{cases_lt}
use Rattle.std.proofs.lemmas.Bool.Decides.{eqb_tells}
use Rattle.layouts_dm.specs.Rules.{Accepted, Explained, Explains, IsClass, ReadOff}
use Rattle.layouts_dm.specs.Outcomes.{Applies, Cause, FirstBad, NoKeyValue, Passes, SaysAt, TwoTables, TwoValues, Unexplained}
use Rattle.facts_dm.specs.Facts.{Fact, KindText, Link, Node, a_cell, a_class, a_domain, a_link, a_link_range, a_mark, a_node, a_property, a_range, an_object, rel_link, triple_of}
use Rattle.members_dm.specs.Membership.{IsIn}
use Rattle.layouts_dm.specs.Layouts.{Layout, cell_fact}
use Rattle.layouts_dm.specs.LayoutTables.{AreOfShape, AreTablesOf, SameTable, StandsFor, literal_table}
use Rattle.table_csv.specs.Plain.{PlainTable}
use Rattle.schema_dm.specs.Naming.{Name}
use Rattle.facts_dm.specs.Meanings.{NamingLaws}
use Rattle.names_dm.specs.declared.names.ColumnName.{ColumnName}
use Rattle.names_dm.specs.Statements.{Statement}
use Rattle.members_dm.proofs.ElementsLemmas.{index_of_item, item_at_index}
use Rattle.layouts_dm.proofs.Complete as complete
use Rattle.layouts_dm.proofs.Sound as sound
use Rattle.layouts_dm.proofs.Unique.{tables_unique}

-- for two places, a fact that goes by the later one
pub by_later : (P : Type 0) (i j : ℕ) → (i < j → P) → (j < i → P) → (i ≡ j → P) → P
by_later P i j f g h = elim (eqb_tells i j) [ inl e ↦ h e.1 | inr e ↦ elim (cases_lt i j) [ inl l ↦ f l | inr l ↦ g (let d : i ≢ j = e.1 in omega arith) ] ]

module _ (base : List ℕ) (laws : NamingLaws base) (G : List Statement) where
  -- every triple passes
  pub passes_accepted : ((i : ℕ) → i < length G → Passes base G i) → Accepted base G
  passes_accepted p = record {
    explained = λ x h. let i = index_of_item x G h in (p i.0 i.1).explained x i.2;
    one_value = λ n t c v w h g.
        let i = index_of_item (triple_of base (cell_fact n t c v)) G h in
        let j = index_of_item (triple_of base (cell_fact n t c w)) G g in
        by_later (v ≡ w) i.0 j.0
        (λ l. (p j.0 j.1).one_value i.0 n t c v w l i.2 j.2)
        (λ l. sym ((p i.0 i.1).one_value j.0 n t c w v l j.2 i.2))
        (λ e. let s : Some (triple_of base (cell_fact n t c v)) ≡ Some (triple_of base (cell_fact n t c w)) = sym i.2 ∙ ap (slice_get G) e ∙ j.2 in
        let r : cell_fact n t c v ≡ cell_fact n t c w = laws.one_fact _ _ (unsome s) in cc);
    one_table = λ n t u h g.
        let i = index_of_item (triple_of base (a_node n t)) G h in
        let j = index_of_item (triple_of base (a_node n u)) G g in
        by_later (t ≡ u) i.0 j.0
        (λ l. (p j.0 j.1).one_table i.0 n t u l i.2 j.2)
        (λ l. sym ((p i.0 i.1).one_table j.0 n u t l j.2 i.2))
        (λ e. let s : Some (triple_of base (a_node n t)) ≡ Some (triple_of base (a_node n u)) = sym i.2 ∙ ap (slice_get G) e ∙ j.2 in
        let r : a_node n t ≡ a_node n u = laws.one_fact _ _ (unsome s) in cc);
    values = λ q t u n m k h.
        let i = index_of_item (triple_of base (a_link n (rel_link q) m)) G h in
        let v = (p i.0 i.1).values q t u n m k i.2 in
        ((v.0.0, v.0.1), (v.1.0, v.1.1));
  }
    where
      unsome : {x y : Statement} → Some x ≡ Some y → x ≡ y
      unsome e = cc

  pub explains_of : Accepted base G → (f : Fact) → IsIn (triple_of base f) G → Explains base G f
  explains_of a f h = let s = a.explained (triple_of base f) h in subst (Explains base G) (sym (laws.one_fact f s.0 s.1)) s.2

  -- an accepted graph has no bad triple
  pub none_applies : Accepted base G → (i : ℕ) (c : Cause) → ¬ Applies base G i c
  none_applies a i Unexplained h = h.2 (a.explained h.0 (item_at_index h.0 G i h.1))
  none_applies a i TwoValues h = h.7 (a.one_value h.1 h.2 h.3 h.4 h.5 (item_at_index _ G h.0 h.8) (item_at_index _ G i h.9))
  none_applies a i TwoTables h = h.5 (a.one_table h.1 h.2 h.3 (item_at_index _ G h.0 h.6) (item_at_index _ G i h.7))
  none_applies a i NoKeyValue h =
      let v = a.values h.0 h.1 h.2 h.3 h.4 h.5 (item_at_index _ G i h.6) in
      h.8 ((v.0.0, v.0.1, explains_of a (cell_fact h.3 h.1 h.0.left_target v.0.0) v.0.1), (v.1.0, v.1.1, explains_of a (cell_fact h.4 h.2 h.0.right_target v.1.0) v.1.1))

  -- where a triple is accepted there is a class
  class_of_fact : (f : Fact) → Explains base G f → (t : Name) × IsClass base G t
  class_of_fact (a_class t) e = (t, e.2.class)
  class_of_fact (a_property name) e = (name.table, e.1.class)
  class_of_fact (an_object l) e = (e.0, e.2.linked.from)
  class_of_fact (a_domain i t) (inl e) = (t, e.3.class)
  class_of_fact (a_domain i t) (inr e) = (t, e.3.linked.from)
  class_of_fact (a_range name k) e = (name.table, e.class)
  class_of_fact (a_link_range l u) e = (e.0, e.1.linked.from)
  class_of_fact (a_node n t) e = (t, e)
  class_of_fact (a_cell n name v) e = (name.table, e.0.0)
  class_of_fact (a_link n l m) e = (e.0, e.2.linked.from)
  class_of_fact (a_mark n) e = (e.0, e.1.0)

  pub some_class : Accepted base G → (x : Statement) → IsIn x G → (t : Name) × IsClass base G t
  some_class a x h = let s = a.explained x h in class_of_fact s.0 s.2

module _ (base : List ℕ) (laws : NamingLaws base) (G : List Statement) where
  -- where every triple passes, no cause applies to any
  pub passes_not : (i : ℕ) → Passes base G i → (c : Cause) → ¬ Applies base G i c
  passes_not i p Unexplained h = h.2 (p.explained h.0 h.1)
  passes_not i p TwoValues h = h.7 (p.one_value h.0 h.1 h.2 h.3 h.4 h.5 h.6 h.8 h.9)
  passes_not i p TwoTables h = h.5 (p.one_table h.0 h.1 h.2 h.3 h.4 h.6 h.7)
  passes_not i p NoKeyValue h = h.8 (p.values h.0 h.1 h.2 h.3 h.4 h.5 h.6)

  -- values, nodes and links are different facts
  value_node : (n m : Node) (c : ColumnName) (v : KindText) (t : Name) → a_cell n c v ≡ a_node m t → ⊥
  value_node n m c v t e = cc

  value_link : (n m o : Node) (c : ColumnName) (v : KindText) (l : Link) → a_cell n c v ≡ a_link m l o → ⊥
  value_link n m o c v l e = cc

  node_link : (n m o : Node) (t : Name) (l : Link) → a_node n t ≡ a_link m l o → ⊥
  node_link n m o t l e = cc

  -- the fact that one place says
  one_said : (i : ℕ) (f g : Fact) → SaysAt base G i f → SaysAt base G i g → f ≡ g
  one_said i f g a b = let s : Some (triple_of base f) ≡ Some (triple_of base g) = sym a ∙ b in laws.one_fact f g (unsome s)
    where
      unsome : {x y : Statement} → Some x ≡ Some y → x ≡ y
      unsome e = cc

  explained_not : (i : ℕ) (f : Fact) → SaysAt base G i f → Explains base G f → ¬ Applies base G i Unexplained
  explained_not i f a e h = h.2 (let s : Some (triple_of base f) ≡ Some h.0 = sym a ∙ h.1 in (f, unsome s, e))
    where
      unsome : {x y : Statement} → Some x ≡ Some y → y ≡ x
      unsome e = cc

  -- one cause alone applies to a triple
  pub one_cause : (i : ℕ) (c d : Cause) → Applies base G i c → Applies base G i d → c ≡ d
  one_cause i Unexplained Unexplained h g = refl
  one_cause i TwoValues TwoValues h g = refl
  one_cause i TwoTables TwoTables h g = refl
  one_cause i NoKeyValue NoKeyValue h g = refl
  one_cause i Unexplained TwoValues h g = absurd (explained_not i (cell_fact g.1 g.2 g.3 g.5) g.9 g.11 h)
  one_cause i Unexplained TwoTables h g = absurd (explained_not i (a_node g.1 g.3) g.7 g.9 h)
  one_cause i Unexplained NoKeyValue h g = absurd (explained_not i (a_link g.3 (rel_link g.0) g.4) g.6 g.7 h)
  one_cause i TwoValues Unexplained h g = absurd (explained_not i (cell_fact h.1 h.2 h.3 h.5) h.9 h.11 g)
  one_cause i TwoTables Unexplained h g = absurd (explained_not i (a_node h.1 h.3) h.7 h.9 g)
  one_cause i NoKeyValue Unexplained h g = absurd (explained_not i (a_link h.3 (rel_link h.0) h.4) h.6 h.7 g)
  one_cause i TwoValues TwoTables h g = absurd (value_node _ _ _ _ _ (one_said i (cell_fact h.1 h.2 h.3 h.5) (a_node g.1 g.3) h.9 g.7))
  one_cause i TwoValues NoKeyValue h g = absurd (value_link _ _ _ _ _ _ (one_said i (cell_fact h.1 h.2 h.3 h.5) (a_link g.3 (rel_link g.0) g.4) h.9 g.6))
  one_cause i TwoTables TwoValues h g = absurd (value_node _ _ _ _ _ (one_said i (cell_fact g.1 g.2 g.3 g.5) (a_node h.1 h.3) g.9 h.7))
  one_cause i TwoTables NoKeyValue h g = absurd (node_link _ _ _ _ _ (one_said i (a_node h.1 h.3) (a_link g.3 (rel_link g.0) g.4) h.7 g.6))
  one_cause i NoKeyValue TwoValues h g = absurd (value_link _ _ _ _ _ _ (one_said i (cell_fact g.1 g.2 g.3 g.5) (a_link h.3 (rel_link h.0) h.4) g.9 h.6))
  one_cause i NoKeyValue TwoTables h g = absurd (node_link _ _ _ _ _ (one_said i (a_node g.1 g.3) (a_link h.3 (rel_link h.0) h.4) g.7 h.6))

  -- the first bad triple, where those before it pass
  pub first_bad : (i : ℕ) (c : Cause) → ((j : ℕ) → j < i → Passes base G j) → Applies base G i c → FirstBad base G i c
  first_bad i c before h = record { before = λ j d l. passes_not j (before j l) d; applies = h }

  -- a triple says one fact alone, so it is unexplained where that is
  pub unexplained : (f : Fact) → ¬ Explains base G f → ¬ Explained base G (triple_of base f)
  unexplained f n h = n (subst (Explains base G) (sym (laws.one_fact f h.0 h.1)) h.2)

  -- what is read off, where every triple passes, is what the graph stands for
  pub stands : (x : Statement) → IsIn x G → ((i : ℕ) → i < length G → Passes base G i) → (L : Layout) → ReadOff base G L → (tables : List PlainTable) → AreOfShape tables
      → AreTablesOf L (map literal_table tables) → StandsFor base G tables
  stands x h p L r tables s t =
      let a = passes_accepted base laws G p in
      let k = some_class base laws G a x h in
      let c = r.classes k.0 k.1 in
      record { layout = L; well_formed = sound.well_formed base laws L G a r; some_class = (c.0, c.1); describes = sound.describes base laws L G a r; of_shape = s; are = t }

  pub stands_accepted : (tables : List PlainTable) → StandsFor base G tables → Accepted base G
  stands_accepted tables s = complete.accepted base laws s.layout G s.well_formed s.describes

  -- no cause applies to a triple of a graph that stands for tables
  pub stands_without_cause : (tables : List PlainTable) → StandsFor base G tables → (i : ℕ) (c : Cause) → ¬ Applies base G i c
  stands_without_cause tables s = none_applies base laws G (stands_accepted tables s)

  pub empty_stands_for_nothing : (tables : List PlainTable) → G ≡ [] → ¬ StandsFor base G tables
  empty_stands_for_nothing tables e s =
      let c = s.some_class in
      subst (λ H. IsIn (triple_of base (a_class c.0.name)) H) e (s.describes.all (a_class c.0.name) (c.0, c.1, refl))

  -- the tables of literals are determined up to the order of rows
  pub literals_once : (xs ys : List PlainTable) → StandsFor base G xs → StandsFor base G ys → AllZip SameTable (map literal_table xs) (map literal_table ys)
  literals_once xs ys s r =
      tables_unique base laws G s.layout s.well_formed s.describes (map literal_table xs) s.are r.layout r.well_formed r.describes (map literal_table ys) r.are
