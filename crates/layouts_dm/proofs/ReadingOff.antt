-- A layout can't fail to be read off an accepted graph.
use Rattle.std.proofs.Common.{◌≡◌, ℕ, List, [], ◌∷◌, Option, Some, None, Bool, true, false, cond, ◌&&◌, map, refl, sym, ap, ◌∙◌, subst, inl, inr}
use Rattle.std.specs.Prelude.{◌↔◌}
use Rattle.std.specs.Bool.{Decides}
use Rattle.std.specs.List.{AllZip}
use Rattle.std.proofs.lemmas.Bool.Decides.{Decides-like}
use Rattle.value_dm.specs.Equality.{numbers_decide}
use Rattle.value_dm.specs.declared.kind.Kind.{Kind}
use Rattle.members_dm.specs.Membership.{IsIn, IsRising, NoRepeats}
use Rattle.members_dm.proofs.MembershipLemmas.{rising-NoRepeats}
use Rattle.schema_dm.specs.Naming.{Name, same_name}
use Rattle.schema_dm.specs.Shapes.{IsBefore}
use Rattle.schema_dm.proofs.RisingNames.{before_chain}
use Rattle.names_dm.specs.Statements.{Statement}
use Rattle.names_dm.specs.declared.names.ColumnName.{ColumnName}
use Rattle.facts_dm.specs.Facts.{Fact, KindText, Link, Node, a_cell, a_class, a_link, a_mark, a_node, a_range, an_object, blank, iri, triple_of}
use Rattle.facts_dm.specs.Meanings.{NamingLaws}
use Rattle.layouts_dm.specs.Layouts.{Class, ClassColumn, Layout, Part, cell_fact, column_named, range_fact}
use Rattle.layouts_dm.specs.Rules.{Accepted, Explains, IsClass, IsColumn, IsLink, IsNode, ReadOff, Says}
use Rattle.layouts_dm.proofs.Choosing.{Found, Surely, found, keys_of, next, surely, zip_surely, zipped, zipped_back}
use Rattle.layouts_dm.proofs.Facts.{datatype-injective}
use Rattle.layouts_dm.proofs.Outcomes.{explains_of}
use Rattle.layouts_dm.proofs.Sorting.{InOrder, in_order_of, name_order, rising_map}
use Rattle.layouts_dm.proofs.Sound.{iri-injective}
use Rattle.layouts_dm.proofs.Unique.{before_one_way, column_same}

-- ---- nodes

pub node_eq : Node → Node → Bool
node_eq (iri x) (iri y) = same_name x y
node_eq (blank x) (blank y) = same_name x y
node_eq (iri x) (blank y) = false
node_eq (blank x) (iri y) = false

pub node_eq-decides : (x y : Node) → Decides (node_eq x y) (x ≡ y)
unfolding node_eq
node_eq-decides (iri x) (iri y) = Decides-like _ (λ e. ap iri e) (λ e. cc) (numbers_decide x y)
node_eq-decides (blank x) (blank y) = Decides-like _ (λ e. ap blank e) (λ e. cc) (numbers_decide x y)
node_eq-decides (iri x) (blank y) = ((λ h. cc), (λ h. cc))
node_eq-decides (blank x) (iri y) = ((λ h. cc), (λ h. cc))

-- ---- cells, looked up in a list

record Said : Type 0 where
  node : Node
  table : Name
  column : Name
  value : KindText

looked_up : Node → Name → List Said → Option KindText
looked_up n x [] = None
looked_up n x (c ∷ cs) = cond (node_eq c.node n && same_name c.column x) (Some c.value) (looked_up n x cs)

both_true : (a b : Bool) → (a && b) ≡ true → (a ≡ true) × (b ≡ true)
both_true true b e = (refl, e)
both_true false b e = absurd (let f : false ≡ true = e in cc)

unsome : {X : Type 0} (x y : X) → Some x ≡ Some y → x ≡ y
unsome x y e = cc

looked_back : (n : Node) (x : Name) (v : KindText) (cs : List Said) → looked_up n x cs ≡ Some v → (c : Said) × IsIn c cs × (c.node ≡ n) × (c.column ≡ x) × (c.value ≡ v)
unfolding looked_up
looked_back n x v [] e = absurd (let f : None ≡ Some v = e in cc)
looked_back n x v (c ∷ cs) e = go (λ f. looked_back n x v cs f) (node_eq c.node n && same_name c.column x) refl e
  where
    go : (looked_up n x cs ≡ Some v → (d : Said) × IsIn d cs × (d.node ≡ n) × (d.column ≡ x) × (d.value ≡ v)) → (b : Bool) → (node_eq c.node n && same_name c.column x) ≡ b → cond b (Some c.value) (looked_up n x cs) ≡ Some v → (d : Said) × IsIn d (c ∷ cs) × (d.node ≡ n) × (d.column ≡ x) × (d.value ≡ v)
    go rest true t f = let s = both_true (node_eq c.node n) (same_name c.column x) t in (c, inl refl, (node_eq-decides c.node n).0 s.0, (numbers_decide c.column x).0 s.1, unsome c.value v f)
    go rest false t f = let r = rest f in (r.0, inr r.1, r.2, r.3, r.4)

looked_some : (n : Node) (x : Name) (c : Said) (cs : List Said) → IsIn c cs → c.node ≡ n → c.column ≡ x → (v : KindText) × (looked_up n x cs ≡ Some v)
unfolding looked_up
looked_some n x c [] i p q = absurd i
looked_some n x c (d ∷ cs) i p q = go (λ j. looked_some n x c cs j p q) (node_eq d.node n && same_name d.column x) refl i
  where
    go : (IsIn c cs → (v : KindText) × (looked_up n x cs ≡ Some v)) → (b : Bool) → (node_eq d.node n && same_name d.column x) ≡ b → IsIn c (d ∷ cs) → (v : KindText) × (cond b (Some d.value) (looked_up n x cs) ≡ Some v)
    go rest true t j = (d.value, refl)
    go rest false t (inr j) = rest j
    go rest false t (inl e) =
        let a : node_eq d.node n ≡ true = (node_eq-decides d.node n).1 (ap (λ (z : Said). z.node) e ∙ p) in
        let b : same_name d.column x ≡ true = (numbers_decide d.column x).1 (ap (λ (z : Said). z.column) e ∙ q) in
        absurd (let f : true ≡ false = sym (λ j. a j && b j) ∙ t in cc)

-- ---- what facts tell

class_name : (t u : Name) → a_class t ≡ a_class u → t ≡ u
class_name t u e = cc

node_name : (n m : Node) (t : Name) → a_node n t ≡ a_node m t → n ≡ m
node_name n m t e = cc

marked_name : (n m : Node) → a_mark n ≡ a_mark m → n ≡ m
marked_name n m e = cc

link_name : (l m : Link) → an_object l ≡ an_object m → l ≡ m
link_name l m e = cc

range_of_one : (c d : ColumnName) (k l : Kind) → a_range c k ≡ a_range d l → c ≡ d
range_of_one c d k l e = cc

cell_of_one : (n m : Node) (c d : ColumnName) (v w : KindText) → a_cell n c v ≡ a_cell m d w → c ≡ d
cell_of_one n m c d v w e = cc

range_name : (t : Name) (c d : ClassColumn) → range_fact t c.name c.kind ≡ range_fact t d.name d.kind → c.name ≡ d.name
range_name t c d e = ap (λ (x : ColumnName). x.column) (range_of_one (column_named t c.name) (column_named t d.name) c.kind d.kind e)

range_kind : (t : Name) (c d : ClassColumn) → range_fact t c.name c.kind ≡ range_fact t d.name d.kind → c.kind ≡ d.kind
range_kind t c d e = cc

pair_from : (n n' m m' : Node) (l : Link) → a_link n l m ≡ a_link n' l m' → n ≡ n'
pair_from n n' m m' l e = cc

pair_to : (n n' m m' : Node) (l : Link) → a_link n l m ≡ a_link n' l m' → m ≡ m'
pair_to n n' m m' l e = cc

said_node : (a b : Said) → cell_fact a.node a.table a.column a.value ≡ cell_fact b.node b.table b.column b.value → a.node ≡ b.node
said_node a b e = cc

said_table : (a b : Said) → cell_fact a.node a.table a.column a.value ≡ cell_fact b.node b.table b.column b.value → a.table ≡ b.table
said_table a b e = ap (λ (x : ColumnName). x.table) (cell_of_one a.node b.node (column_named a.table a.column) (column_named b.table b.column) a.value b.value e)

said_column : (a b : Said) → cell_fact a.node a.table a.column a.value ≡ cell_fact b.node b.table b.column b.value → a.column ≡ b.column
said_column a b e = ap (λ (x : ColumnName). x.column) (cell_of_one a.node b.node (column_named a.table a.column) (column_named b.table b.column) a.value b.value e)

said_value : (a b : Said) → cell_fact a.node a.table a.column a.value ≡ cell_fact b.node b.table b.column b.value → a.value ≡ b.value
said_value a b e = cc

module _ (base : List ℕ) (laws : NamingLaws base) (G : List Statement) (a : Accepted base G) where
  explains : (f : Fact) → Says base G f → Explains base G f
  explains f h = explains_of base laws G a f h

  class_said : (t : Name) → Says base G (a_class t) → IsClass base G t
  class_said t h = (explains (a_class t) h).2.class

  -- a column has one kind
  one_kind : (t : Name) (c d : ClassColumn) → Says base G (range_fact t c.name c.kind) → Says base G (range_fact t d.name d.kind) → c.name ≡ d.name → c ≡ d
  one_kind t c d h g e =
      let column : IsColumn base G t c.name c.kind = explains (range_fact t c.name c.kind) h in
      let other : Says base G (range_fact t c.name d.kind) = subst (λ n. Says base G (range_fact t n d.kind)) (sym e) g in
      let kind : d.kind ≡ c.kind = datatype-injective base laws d.kind c.kind (iri-injective _ _ (column.one_range (triple_of base (range_fact t c.name d.kind)) other refl refl)) in
      column_same c d e (sym kind)

  -- ---- classes

  record ClassOf (t : Name) (c : Class) : Type 0 where
    name : t ≡ c.name
    columns : (d : ClassColumn) → IsIn d c.columns ↔ Says base G (range_fact t d.name d.kind)
    rising : IsRising (λ (x y : ClassColumn). IsBefore x.name y.name) c.columns
    nodes : (n : Node) → IsIn n c.nodes ↔ Says base G (a_node n t)
    once : NoRepeats c.nodes

  columns_found : (t : Name) → Surely (Found (λ (d : ClassColumn). triple_of base (range_fact t d.name d.kind)) G)
  columns_found t =
      found (λ (d : ClassColumn). triple_of base (range_fact t d.name d.kind))
      (λ c d e. let f = laws.one_fact (range_fact t c.name c.kind) (range_fact t d.name d.kind) e in column_same c d (range_name t c d f) (range_kind t c d f)) G

  nodes_found : (t : Name) → Surely (Found (λ n. triple_of base (a_node n t)) G)
  nodes_found t = found (λ n. triple_of base (a_node n t)) (λ n m e. node_name n m t (laws.one_fact (a_node n t) (a_node m t) e)) G

  class_of : (t : Name) → Surely ((c : Class) × ClassOf t c)
  class_of t = next (columns_found t) (λ columns. next (nodes_found t) (λ nodes. surely (make columns nodes)))
    where
      make : Found (λ (d : ClassColumn). triple_of base (range_fact t d.name d.kind)) G → Found (λ n. triple_of base (a_node n t)) G → (c : Class) × ClassOf t c
      make columns nodes =
          let sorted : InOrder (λ (x y : ClassColumn). IsBefore x.name y.name) columns.items =
          in_order_of (λ (x y : ClassColumn). IsBefore x.name y.name) (λ x y z. before_chain x.name y.name z.name) columns.items columns.once
          (λ x y i j. elim (name_order x.name y.name) [ inl e ↦ inl (one_kind t x y ((columns.same x).0 i) ((columns.same y).0 j) e) | inr b ↦ inr b ]) in (
            record { name = t; columns = sorted.sorted; nodes = nodes.items },
            record {
              name = refl;
              columns = λ d. ((λ i. (columns.same d).0 ((sorted.same d).1 i)), (λ h. (sorted.same d).0 ((columns.same d).1 h)));
              rising = sorted.rising;
              nodes = nodes.same;
              once = nodes.once;
            },
          )

  -- ---- references and relations

  record PartOf (l : Link) (p : Part) : Type 0 where
    link : l ≡ p.link
    is : IsLink base G p.link p.from p.to
    once : NoRepeats p.pairs
    pairs : (n m : Node) → IsIn {X = Node × Node} (n, m) p.pairs ↔ Says base G (a_link n l m)

  pairs_found : (l : Link) → Surely (Found {X = Node × Node} (λ (p : Node × Node). triple_of base (a_link p.0 l p.1)) G)
  pairs_found l =
      found {X = Node × Node} (λ (p : Node × Node). triple_of base (a_link p.0 l p.1))
      (λ p q e. let f = laws.one_fact (a_link p.0 l p.1) (a_link q.0 l q.1) e in λ j. (pair_from p.0 q.0 p.1 q.1 l f j, pair_to p.0 q.0 p.1 q.1 l f j)) G

  part_of : (l : Link) → Says base G (an_object l) → Surely ((p : Part) × PartOf l p)
  part_of l h =
      let e = explains (an_object l) h in
      next (pairs_found l)
      (λ pairs. surely (record { link = l; from = e.0; to = e.1; pairs = pairs.items }, record { link = refl; is = e.2; once = pairs.once; pairs = λ n m. pairs.same (n, m) }))

  -- ---- the layout

  cells_found : Surely (Found (λ (c : Said). triple_of base (cell_fact c.node c.table c.column c.value)) G)
  cells_found =
      found (λ (c : Said). triple_of base (cell_fact c.node c.table c.column c.value))
      (λ c d e.
      let f = laws.one_fact (cell_fact c.node c.table c.column c.value) (cell_fact d.node d.table d.column d.value) e in
      λ j. record { node = said_node c d f j; table = said_table c d f j; column = said_column c d f j; value = said_value c d f j }) G

  pub record Parts : Type 0 where
    classes : Found (λ t. triple_of base (a_class t)) G
    made : (cs : List Class) × AllZip ClassOf classes.items cs
    links : Found (λ l. triple_of base (an_object l)) G
    parts : (ps : List Part) × AllZip PartOf links.items ps
    cells : Found (λ (c : Said). triple_of base (cell_fact c.node c.table c.column c.value)) G
    marks : Found (λ n. triple_of base (a_mark n)) G

  parts_surely : Surely Parts
  parts_surely =
      next (found (λ t. triple_of base (a_class t)) (λ t u e. class_name t u (laws.one_fact (a_class t) (a_class u) e)) G) (λ classes.
      next (zip_surely ClassOf classes.items (λ t i. class_of t)) (λ made.
      next (found (λ l. triple_of base (an_object l)) (λ l m e. link_name l m (laws.one_fact (an_object l) (an_object m) e)) G) (λ links.
      next (zip_surely PartOf links.items (λ l i. part_of l ((links.same l).0 i))) (λ parts.
      next cells_found (λ cells.
      next (found (λ n. triple_of base (a_mark n)) (λ n m e. marked_name n m (laws.one_fact (a_mark n) (a_mark m) e)) G) (λ marks.
      surely (record { classes = classes; made = made; links = links; parts = parts; cells = cells; marks = marks })))))))

  module _ (s : Parts) where
    pub layout : Layout
    layout = record { classes = s.made.0; cell = λ n x. looked_up n x s.cells.items; parts = s.parts.0; marked = s.marks.items }

    class_from : (c : Class) → IsIn c s.made.0 → (t : Name) × IsIn t s.classes.items × ClassOf t c
    class_from c i = zipped_back ClassOf s.classes.items s.made.0 s.made.1 c i

    class_is : (c : Class) → IsIn c s.made.0 → ClassOf c.name c
    class_is c i = let k = class_from c i in subst (λ t. ClassOf t c) k.2.name k.2

    part_is : (p : Part) → IsIn p s.parts.0 → PartOf p.link p
    part_is p i = let k = zipped_back PartOf s.links.items s.parts.0 s.parts.1 p i in subst (λ l. PartOf l p) k.2.link k.2

    -- a cell that is looked up is said of the node's own class
    cell_said : (t x : Name) (n : Node) (v : KindText) → Says base G (a_node n t) → looked_up n x s.cells.items ≡ Some v → Says base G (cell_fact n t x v)
    cell_said t x n v h e =
        let c = looked_back n x v s.cells.items e in
        let said : Says base G (cell_fact c.0.node c.0.table c.0.column c.0.value) = (s.cells.same c.0).0 c.1 in
        let here : Says base G (cell_fact n c.0.table x v) = subst {A = Node × Name × KindText} (λ z. Says base G (cell_fact z.0 c.0.table z.1 z.2)) (λ j. (c.2 j, c.3 j, c.4 j)) said in
        let node : IsNode base G n c.0.table = (explains (cell_fact n c.0.table x v) here).0 in
        subst (λ u. Says base G (cell_fact n u x v)) (a.one_table n c.0.table t node.1 h) here

    cell_there : (t x : Name) (n : Node) (v : KindText) → Says base G (a_node n t) → Says base G (cell_fact n t x v) → looked_up n x s.cells.items ≡ Some v
    cell_there t x n v h g =
        let c : Said = record { node = n; table = t; column = x; value = v } in
        let r = looked_some n x c s.cells.items ((s.cells.same c).1 g) refl refl in
        r.1 ∙ ap Some (a.one_value n t x r.0 v (cell_said t x n r.0 h r.1) g)

    columns_distinct : (c : Class) → IsIn c s.made.0 → NoRepeats (map (λ (d : ClassColumn). d.name) c.columns)
    columns_distinct c i = rising-NoRepeats IsBefore before_one_way (map (λ (d : ClassColumn). d.name) c.columns) (rising_map (λ (d : ClassColumn). d.name) c.columns (class_is c i).rising)

    pub read_off : ReadOff base G layout
    unfolding layout
    read_off = record {
      names = subst NoRepeats (ids s.classes.items ∙ keys_of ClassOf (λ t. t) (λ (c : Class). c.name) (λ t c k. k.name) s.classes.items s.made.0 s.made.1) s.classes.once;
      classes = λ t h. let c = zipped ClassOf s.classes.items s.made.0 s.made.1 t ((s.classes.same t).1 h.0) in (c.0, c.1, sym c.2.name);
      classes_back = λ c i. let k = class_from c i in subst (IsClass base G) k.2.name (class_said k.0 ((s.classes.same k.0).0 k.1));
      columns_distinct = columns_distinct;
      columns = λ c x k i h. (record { name = x; kind = k }, ((class_is c i).columns (record { name = x; kind = k })).1 h, refl, refl);
      columns_back = λ c d i j. ((class_is c i).columns d).0 j;
      nodes_distinct = λ c i. (class_is c i).once;
      nodes = λ c n i. (((class_is c i).nodes n).1, ((class_is c i).nodes n).0);
      cells = λ c n d v i j k. let h = ((class_is c i).nodes n).0 j in ((λ g. cell_there c.name d.name n v h g), (λ e. cell_said c.name d.name n v h e));
      links = subst NoRepeats (ids s.links.items ∙ keys_of PartOf (λ l. l) (λ (p : Part). p.link) (λ l p k. k.link) s.links.items s.parts.0 s.parts.1) s.links.once;
      parts = λ l h. let p = zipped PartOf s.links.items s.parts.0 s.parts.1 l ((s.links.same l).1 h) in (p.0, p.1, sym p.2.link);
      parts_back = λ p i. (part_is p i).is;
      pairs_distinct = λ p i. (part_is p i).once;
      pairs = λ p n m i. (((part_is p i).pairs n m).1, ((part_is p i).pairs n m).0);
      marks = λ n. ((s.marks.same n).1, (s.marks.same n).0);
    }
      where
        ids : {X : Type 0} (xs : List X) → xs ≡ map (λ x. x) xs
        ids [] = refl
        ids (x ∷ xs) = ap (λ ys. x ∷ ys) (ids xs)

    pub rising : (c : Class) → IsIn c layout.classes → IsRising (λ (x y : ClassColumn). IsBefore x.name y.name) c.columns
    unfolding layout
    rising c i = (class_is c i).rising

  -- a layout that is read off, with its columns in order
  pub some_layout : Surely ((L : Layout) × ReadOff base G L × ((c : Class) → IsIn c L.classes → IsRising (λ (x y : ClassColumn). IsBefore x.name y.name) c.columns))
  some_layout = next parts_surely (λ s. surely (layout s, read_off s, rising s))
