-- The graph of a database stands for its plain tables.
use Rattle.std.proofs.Common.{◌≡◌, ℕ, zero, suc, ◌<◌, refl, sym, ap, ◌∙◌, subst, inl, inr, ◌⊎◌, List, [], ◌∷◌, ◌++◌, Some, map, Bool, true, false, cond, arith}
use Rattle.std.specs.Prelude.{◌↔◌}
use Rattle.std.specs.List.Sorted.{IsPermutation}
use Rattle.layouts_dm.specs.Layouts.{Class, ClassColumn, GoodLink, GoodReference, GoodRelation, HasNode, IsCanonical, IsGoodLink, IsGoodName, Part, WellFormed}
use Rattle.facts_dm.specs.Facts.{Link, ref_link, Fact, KindText, Node, a_mark, rel_link, triple_of}
use Rattle.graph_layouts_dm.proofs.Views.{IsClassAt, Views, each_class, if_class, GoodData, GoodRels, IsPlainClass, IsPlainRel, KeyView, MapFact, Plain, RelationView, class_at, key_link, key_part, layout_of, numbered, pairs_of, rel_part_of, rows_in, upto, view_at}
use Rattle.members_dm.specs.Membership.{IsIn, IsRising, NoRepeats}
use Rattle.members_dm.proofs.MembershipLemmas.{IsIn-append, IsIn-map, map-IsIn}
use Rattle.layouts_dm.specs.LayoutTables.{AreOfShape, AreTablesOf, IsTableOf, LiteralTable, StandsFor, class_table, in_order, is_before, literal_table, relation_table}
use Rattle.schema_dm.specs.Shapes.{IsBefore}
use Rattle.table_csv.specs.Plain.{PlainTable}
use Rattle.schema_dm.specs.Naming.{Name}
use Rattle.names_dm.specs.declared.names.RelName.{RelName}
use Rattle.names_dm.specs.Statements.{Statement}
use Rattle.members_dm.proofs.ElementsLemmas.{one_by_key}
use Rattle.graph_layouts_dm.proofs.Stands.{IsIn-class, chosen_list, IsIn-upto, numbered-IsIn, IsIn-numbered, IsIn-chosen, cell_is, class_in, class_from, part_from, pair_from, rel_pair_from, rel_part_in, holds, held}

distinct_append : {X : Type 0} (xs ys : List X) → NoRepeats xs → NoRepeats ys → ((x : X) → IsIn x xs → IsIn x ys → ⊥) → NoRepeats (xs ++ ys)
distinct_append [] ys d e h = e
distinct_append (x ∷ xs) ys d e h = (
  (λ i. elim (IsIn-append x xs ys i) [ inl a ↦ d.0 a | inr b ↦ h x (inl refl) b ]),
  distinct_append xs ys d.1 e (λ y a b. h y (inr a) b),
)

-- lists one after another have no repeats where none has, and they have nothing in common
pub distinct_upto : {X : Type 0} (n : ℕ) (f : ℕ → List X) → ((k : ℕ) → k < n → NoRepeats (f k)) → ((k l : ℕ) (x : X) → k < n → l < n → IsIn x (f k) → IsIn x (f l) → k ≡ l) → NoRepeats (upto n f)
distinct_upto zero f d h = tt
distinct_upto {X} (suc n) f d h =
    distinct_append (upto n f) (f n) (distinct_upto n f (λ k l. d k (omega arith)) (λ k l x a b. h k l x (omega arith) (omega arith))) (d n (omega arith))
    (λ x i j. let r = IsIn-upto x n f i in let e : r.0 ≡ n = h r.0 n x (later r.0 n r.1) (omega arith) r.2 j in clash r.0 n r.1 e)
  where
    later : (k n : ℕ) → k < n → k < suc n
    later k n l = omega arith

    clash : (k n : ℕ) → k < n → k ≡ n → ⊥
    clash k n l e = omega arith

map_append : {X Y : Type 0} (f : X → Y) (xs ys : List X) → map f (xs ++ ys) ≡ map f xs ++ map f ys
map_append f [] ys = refl
map_append f (x ∷ xs) ys = ap (λ zs. f x ∷ zs) (map_append f xs ys)

pub map_upto : {X Y : Type 0} (f : X → Y) (n : ℕ) (g : ℕ → List X) → map f (upto n g) ≡ upto n (λ k. map f (g k))
map_upto f zero g = refl
map_upto f (suc n) g = map_append f (upto n g) (g n) ∙ ap (λ zs. zs ++ map f (g n)) (map_upto f n g)

pub upto_agree : {X : Type 0} (n : ℕ) (f g : ℕ → List X) → ((k : ℕ) → k < n → f k ≡ g k) → upto n f ≡ upto n g
upto_agree zero f g h = refl
upto_agree (suc n) f g h = ap (λ zs. zs ++ f n) (upto_agree n f g (λ k l. h k (omega arith))) ∙ ap (λ zs. upto n g ++ zs) (h n (omega arith))

distinct_map_from : {X Y Z : Type 0} (f : X → Y) (g : X → Z) → ((x y : X) → g x ≡ g y → f x ≡ f y) → (xs : List X) → NoRepeats (map f xs) → NoRepeats (map g xs)
distinct_map_from f g h [] d = tt
distinct_map_from f g h (x ∷ xs) d = (
  (λ i. let r = IsIn-map g (g x) xs i in d.0 (subst (λ y. IsIn y (map f xs)) (h r.0 x r.2) (map-IsIn f r.0 xs r.1))),
  distinct_map_from f g h xs d.1,
)

pub map_map : {X Y Z : Type 0} (f : X → Y) (g : Y → Z) (xs : List X) → map g (map f xs) ≡ map (λ x. g (f x)) xs
map_map f g [] = refl
map_map f g (x ∷ xs) = ap (λ ys. g (f x) ∷ ys) (map_map f g xs)

pub distinct_one : {X : Type 0} (x : X) → NoRepeats (x ∷ [])
distinct_one x = ((λ h. h), tt)

distinct_chosen : {X : Type 0} (b : Bool) (x : X) → NoRepeats (cond b (x ∷ []) [])
distinct_chosen true x = distinct_one x
distinct_chosen false x = tt

In_one : {X : Type 0} (x y : X) → IsIn y (x ∷ []) → x ≡ y
In_one x y (inl e) = e
In_one x y (inr h) = absurd h

map_chosen : {X Y : Type 0} (f : X → Y) (b : Bool) (xs : List X) → map f (cond b xs []) ≡ cond b (map f xs) []
map_chosen f true xs = refl
map_chosen f false xs = refl

map_classes : {X Y : Type 0} (f : X → Y) (D : Views) (g : ℕ → List X) → map f (each_class D g) ≡ each_class D (λ k. map f (g k))
map_classes f D g =
    map_upto f D.count (λ k. if_class D k (g k))
    ∙ upto_agree D.count (λ k. map f (if_class D k (g k))) (λ k. if_class D k (map f (g k))) (λ k l. map_chosen f (view_at D k).is_class (g k))

distinct_chosen_list : {X : Type 0} (b : Bool) (xs : List X) → (b ≡ true → NoRepeats xs) → NoRepeats (cond b xs [])
distinct_chosen_list true xs d = d refl
distinct_chosen_list false xs d = tt

distinct_classes : {X : Type 0} (D : Views) (f : ℕ → List X) → ((k : ℕ) → IsClassAt D k → NoRepeats (f k))
    → ((k l : ℕ) (x : X) → IsClassAt D k → IsClassAt D l → IsIn x (f k) → IsIn x (f l) → k ≡ l) → NoRepeats (each_class D f)
distinct_classes D f d h =
    distinct_upto D.count (λ k. if_class D k (f k)) (λ k l. distinct_chosen_list (view_at D k).is_class (f k) (λ c. d k (l, c)))
    (λ k l x a b i j.
    let p = chosen_list x (view_at D k).is_class (f k) i in
    let q = chosen_list x (view_at D l).is_class (f l) j in
    h k l x (a, p.0) (b, q.0) p.1 q.1)

abbrev columns_of_link : Link → List Name
columns_of_link (ref_link name) = name.columns
columns_of_link (rel_link name) = []

abbrev table_of_link : Link → Name
table_of_link (ref_link name) = name.table
table_of_link (rel_link name) = name.table

same_columns : (l m : Link) → l ≡ m → columns_of_link l ≡ columns_of_link m
same_columns l m e = ap columns_of_link e

same_tables_of : (l m : Link) → l ≡ m → table_of_link l ≡ table_of_link m
same_tables_of l m e = ap table_of_link e

module _ (base : List ℕ) (node : ℕ → ℕ → Node) (D : Views) (R : List RelationView) (g : GoodData node D) (rels : GoodRels D R) where
  names : NoRepeats (map (λ (c : Class). c.name) (layout_of node D R).classes)
  names =
      subst NoRepeats (sym (map_classes (λ (c : Class). c.name) D (λ k. class_at node D k ∷ [])))
      (distinct_classes D (λ k. (view_at D k).name ∷ []) (λ k l. distinct_one (view_at D k).name)
      (λ k l x a b i j. g.names k l a b (In_one (view_at D k).name x i ∙ sym (In_one (view_at D l).name x j))))

  key_links : NoRepeats (map (λ (p : Part). p.link) (each_class D (λ k. map (key_part node D k) (view_at D k).keys)))
  key_links =
      subst NoRepeats (sym (map_classes (λ (p : Part). p.link) D (λ k. map (key_part node D k) (view_at D k).keys)))
      (distinct_classes D (λ k. map (λ (p : Part). p.link) (map (key_part node D k) (view_at D k).keys))
      (λ k l. subst NoRepeats (sym (map_map (key_part node D k) (λ (p : Part). p.link) (view_at D k).keys))
      (distinct_map_from (λ (y : KeyView). y.columns) (key_link D k) (λ x y e. same_columns (key_link D k x) (key_link D k y) e) (view_at D k).keys (g.keys k l)))
      (λ k l x a b i j.
      let u = IsIn-map (key_link D k) x (view_at D k).keys (subst (λ xs. IsIn x xs) (map_map (key_part node D k) (λ (p : Part). p.link) (view_at D k).keys) i) in
      let v = IsIn-map (key_link D l) x (view_at D l).keys (subst (λ xs. IsIn x xs) (map_map (key_part node D l) (λ (p : Part). p.link) (view_at D l).keys) j) in
      let e : key_link D k u.0 ≡ key_link D l v.0 = u.2 ∙ sym v.2 in
      g.names k l a b (same_tables_of (key_link D k u.0) (key_link D l v.0) e)))

  rel_links : NoRepeats (map (λ (p : Part). p.link) (map (rel_part_of node D) R))
  rel_links =
      subst NoRepeats (sym (map_map (rel_part_of node D) (λ (p : Part). p.link) R))
      (distinct_map_from (λ (r : RelationView). r.name.table) (λ (r : RelationView). rel_link r.name) (λ x y e. let f : x.name ≡ y.name = cc in ap (λ (z : RelName). z.table) f) R rels.names)

  links : NoRepeats (map (λ (p : Part). p.link) (layout_of node D R).parts)
  links =
      subst NoRepeats (sym (map_append (λ (p : Part). p.link) (each_class D (λ k. map (key_part node D k) (view_at D k).keys)) (map (rel_part_of node D) R)))
      (distinct_append (map (λ (p : Part). p.link) (each_class D (λ k. map (key_part node D k) (view_at D k).keys))) (map (λ (p : Part). p.link) (map (rel_part_of node D) R)) key_links rel_links
      (λ x i j.
      let a = IsIn-map (λ (p : Part). p.link) x (each_class D (λ k. map (key_part node D k) (view_at D k).keys)) i in
      let b = IsIn-class a.0 D (λ k. map (key_part node D k) (view_at D k).keys) a.1 in
      let c = IsIn-map (key_part node D b.0) a.0 (view_at D b.0).keys b.2 in
      let h = IsIn-map (λ (p : Part). p.link) x (map (rel_part_of node D) R) j in
      let k = IsIn-map (rel_part_of node D) h.0 R h.1 in
      let e : key_link D b.0 c.0 ≡ rel_link k.0.name = ap (λ (p : Part). p.link) c.2 ∙ a.2 ∙ sym (ap (λ (p : Part). p.link) k.2 ∙ h.2) in
      absurd (cc)))

  class_nodes : (k : ℕ) → IsClassAt D k → NoRepeats (class_at node D k).nodes
  class_nodes k h =
      distinct_upto (rows_in D k) (λ i. node k i ∷ []) (λ i l. distinct_one (node k i))
      (λ i j x a b p q. (g.nodes k i k j h a h b (In_one (node k i) x p ∙ sym (In_one (node k j) x q))).1)

  pairs : (k : ℕ) (y : KeyView) → IsClassAt D k → IsIn y (view_at D k).keys → NoRepeats (pairs_of node D k y)
  pairs k y h i =
      let t = g.targets k y h i in
      distinct_upto (rows_in D k) (λ a. upto (rows_in D y.target) (λ b. cond (y.matches a b) ((node k a, node y.target b) ∷ []) []))
      (λ a la. distinct_upto (rows_in D y.target) (λ b. cond (y.matches a b) ((node k a, node y.target b) ∷ []) []) (λ b lb. distinct_chosen {X = Node × Node} (y.matches a b) (node k a, node y.target b))
      (λ b c x lb lc p q.
      let u = IsIn-chosen {X = Node × Node} (y.matches a b) (node k a, node y.target b) x p in
      let v = IsIn-chosen {X = Node × Node} (y.matches a c) (node k a, node y.target c) x q in
      (g.nodes y.target b y.target c t lb t lc (ap (λ (z : Node × Node). z.1) (u.1 ∙ sym v.1))).1))
      (λ a c x la lc p q.
      let u = IsIn-upto {X = Node × Node} x (rows_in D y.target) (λ b. cond (y.matches a b) ((node k a, node y.target b) ∷ []) []) p in
      let v = IsIn-upto {X = Node × Node} x (rows_in D y.target) (λ b. cond (y.matches c b) ((node k c, node y.target b) ∷ []) []) q in
      let u' = IsIn-chosen {X = Node × Node} (y.matches a u.0) (node k a, node y.target u.0) x u.2 in
      let v' = IsIn-chosen {X = Node × Node} (y.matches c v.0) (node k c, node y.target v.0) x v.2 in
      (g.nodes k a k c h la h lc (ap (λ (z : Node × Node). z.0) (u'.1 ∙ sym v'.1))).1)

  node_in : (k i : ℕ) → IsClassAt D k → i < rows_in D k → HasNode (layout_of node D R) (view_at D k).name (node k i)
  node_in k i h l = (class_at node D k, class_in base node D R g.nodes k h, refl, numbered-IsIn (rows_in D k) (λ j. node k j) i l)

  key_good : (k : ℕ) (y : KeyView) → IsClassAt D k → IsIn y (view_at D k).keys → GoodReference (layout_of node D R) (key_part node D k y) (record { table = (view_at D k).name; columns = y.columns })
  key_good k y h i = record {
    of_table = refl;
    from = (class_at node D k, class_in base node D R g.nodes k h, refl);
    to = (class_at node D y.target, class_in base node D R g.nodes y.target (g.targets k y h i), refl);
    some = g.some_key_column k y h i;
    distinct = g.key_columns_distinct k y h i;
    columns = λ c j. let d = g.key_columns k y c h i j in (class_at node D k, class_in base node D R g.nodes k h, refl, d.0, d.1, d.2);
    no_clash = λ x s c.
        let l = class_from base node D R g.nodes c.0 c.1 in
        let same : l.0 ≡ k = g.names l.0 k l.1 h (ap (λ (z : Class). z.name) l.2 ∙ c.2) in
        let d : IsIn c.3 (view_at D k).columns = subst (λ (j : ℕ). IsIn c.3 (view_at D j).columns) same (subst (λ (z : Class). IsIn c.3 z.columns) (sym l.2) c.4) in
        g.no_clash k y x c.3 h i s d c.5;
  }

  rel_pairs : (r : RelationView) → IsIn r R → NoRepeats (rel_part_of node D r).pairs
  rel_pairs r i =
      let q = rels.each r i in
      distinct_upto r.count (λ a. (node r.left (r.left_row a), node r.right (r.right_row a)) ∷ []) (λ a l. distinct_one {X = Node × Node} (node r.left (r.left_row a), node r.right (r.right_row a)))
      (λ a b x la lb h k.
      let e : ◌≡◌ {A = Node × Node} (node r.left (r.left_row a), node r.right (r.right_row a)) (node r.left (r.left_row b), node r.right (r.right_row b)) =
      In_one {X = Node × Node} (node r.left (r.left_row a), node r.right (r.right_row a)) x h ∙ sym (In_one {X = Node × Node} (node r.left (r.left_row b), node r.right (r.right_row b)) x k) in
      q.one_row a b la lb
      (g.nodes r.left (r.left_row a) r.left (r.left_row b) q.left (q.left_row a la) q.left (q.left_row b lb) (ap (λ (z : Node × Node). z.0) e)).1
      (g.nodes r.right (r.right_row a) r.right (r.right_row b) q.right (q.right_row a la) q.right (q.right_row b lb) (ap (λ (z : Node × Node). z.1) e)).1)

  rel_good : (r : RelationView) → IsIn r R → GoodRelation (layout_of node D R) (rel_part_of node D r) r.name
  rel_good r i =
      let q = rels.each r i in
      record {
        two = q.two;
        no_class = λ h. let k = class_from base node D R g.nodes h.0 h.1 in q.no_class k.0 k.1 (ap (λ (c : Class). c.name) k.2 ∙ h.2);
        left = (class_at node D r.left, class_in base node D R g.nodes r.left q.left, refl, q.left_column.0, q.left_column.1, q.left_column.2);
        right = (class_at node D r.right, class_in base node D R g.nodes r.right q.right, refl, q.right_column.0, q.right_column.1, q.right_column.2);
        one = λ p s j e m. elim (part_from base node D R g.nodes p j) [
          | inl f ↦ (let e' : key_link D f.0 f.2 ≡ rel_link s = ap (λ (z : Part). z.link) f.4 ∙ e in absurd (cc))
          | inr f ↦
              (let e' : rel_link f.0.name ≡ rel_link s = ap (λ (z : Part). z.link) f.2 ∙ e in
              let n : f.0.name ≡ s = cc in
              let same : f.0 ≡ r = one_by_key (λ (z : RelationView). z.name.table) R rels.names f.0 r f.1 i (ap (λ (z : RelName). z.table) n ∙ m) in
              sym n ∙ ap (λ (z : RelationView). z.name) same)
        ];
        values = λ n m h.
            let a = rel_pair_from base node D R g.nodes r n m h in
            let v = q.left_value a.0 a.1 in
            let w = q.right_value a.0 a.1 in (
              (v.0, ap (λ z. (layout_of node D R).cell z r.name.left_target) (sym a.2) ∙ cell_is base node D R g.nodes r.left (r.left_row a.0) r.name.left_target q.left (q.left_row a.0 a.1) ∙ v.1),
              (w.0, ap (λ z. (layout_of node D R).cell z r.name.right_target) (sym a.3) ∙ cell_is base node D R g.nodes r.right (r.right_row a.0) r.name.right_target q.right (q.right_row a.0 a.1) ∙ w.1),
            );
      }

  good : (p : Part) → IsIn p (layout_of node D R).parts → GoodLink (layout_of node D R) p p.link
  good p i = elim (part_from base node D R g.nodes p i) [
    | inl f ↦ subst (λ (q : Part). GoodLink (layout_of node D R) q q.link) f.4 (key_good f.0 f.2 f.1 f.3)
    | inr f ↦ subst (λ (q : Part). GoodLink (layout_of node D R) q q.link) f.2 (rel_good f.0 f.1)
  ]

  pairs_distinct : (p : Part) → IsIn p (layout_of node D R).parts → NoRepeats p.pairs
  pairs_distinct p i = elim (part_from base node D R g.nodes p i) [
    | inl f ↦ subst (λ (q : Part). NoRepeats q.pairs) f.4 (pairs f.0 f.2 f.1 f.3)
    | inr f ↦ subst (λ (q : Part). NoRepeats q.pairs) f.2 (rel_pairs f.0 f.1)
  ]

  pair_nodes : (p : Part) (n m : Node) → IsIn p (layout_of node D R).parts → IsIn {X = Node × Node} (n, m) p.pairs → HasNode (layout_of node D R) p.from n × HasNode (layout_of node D R) p.to m
  pair_nodes p n m i h = elim (part_from base node D R g.nodes p i) [
    | inl f ↦
        (let q = pair_from base node D R g.nodes f.0 f.2 n m (subst (λ (r : Part). IsIn {X = Node × Node} (n, m) r.pairs) (sym f.4) h) in (
          subst (λ (r : Part). HasNode (layout_of node D R) r.from n) f.4 (subst (λ z. HasNode (layout_of node D R) (view_at D f.0).name z) q.5 (node_in f.0 q.0 f.1 q.1)),
          subst (λ (r : Part). HasNode (layout_of node D R) r.to m) f.4 (subst (λ z. HasNode (layout_of node D R) (view_at D f.2.target).name z) q.6 (node_in f.2.target q.2 (g.targets f.0 f.2 f.1 f.3) q.3)),
        ))
    | inr f ↦
        (let q = rel_pair_from base node D R g.nodes f.0 n m (subst (λ (r : Part). IsIn {X = Node × Node} (n, m) r.pairs) (sym f.2) h) in
        let k = rels.each f.0 f.1 in (
          subst (λ (r : Part). HasNode (layout_of node D R) r.from n) f.2 (subst (λ z. HasNode (layout_of node D R) (view_at D f.0.left).name z) q.2 (node_in f.0.left (f.0.left_row q.0) k.left (k.left_row q.0 q.1))),
          subst (λ (r : Part). HasNode (layout_of node D R) r.to m) f.2 (subst (λ z. HasNode (layout_of node D R) (view_at D f.0.right).name z) q.3 (node_in f.0.right (f.0.right_row q.0) k.right (k.right_row q.0 q.1))),
        ))
  ]

  cells : (c : Class) (n : Node) (d : ClassColumn) (v : KindText) → IsIn c (layout_of node D R).classes → IsIn n c.nodes → IsIn d c.columns → (layout_of node D R).cell n d.name ≡ Some v → (v.kind ≡ d.kind) × IsCanonical v
  cells c n d v i j m s =
      let k = class_from base node D R g.nodes c i in
      let r = IsIn-numbered n (rows_in D k.0) (λ a. node k.0 a) (subst (λ (e : Class). IsIn n e.nodes) (sym k.2) j) in
      g.cells k.0 r.0 d v k.1 r.1 (subst (λ (e : Class). IsIn d e.columns) (sym k.2) m)
      (sym (cell_is base node D R g.nodes k.0 r.0 d.name k.1 r.1) ∙ ap (λ z. (layout_of node D R).cell z d.name) r.2 ∙ s)

  one_class : (c d : Class) (n : Node) → IsIn c (layout_of node D R).classes → IsIn d (layout_of node D R).classes → IsIn n c.nodes → IsIn n d.nodes → c.name ≡ d.name
  one_class c d n i j a b =
      let k = class_from base node D R g.nodes c i in
      let l = class_from base node D R g.nodes d j in
      let r = IsIn-numbered n (rows_in D k.0) (λ z. node k.0 z) (subst (λ (e : Class). IsIn n e.nodes) (sym k.2) a) in
      let s = IsIn-numbered n (rows_in D l.0) (λ z. node l.0 z) (subst (λ (e : Class). IsIn n e.nodes) (sym l.2) b) in
      let e = g.nodes k.0 r.0 l.0 s.0 k.1 r.1 l.1 s.1 (r.2 ∙ sym s.2) in
      sym (ap (λ (z : Class). z.name) k.2) ∙ ap (λ z. (view_at D z).name) e.0 ∙ ap (λ (z : Class). z.name) l.2

  class_names : (c : Class) → IsIn c (layout_of node D R).classes → IsGoodName c.name
  class_names c i = let k = class_from base node D R g.nodes c i in subst (λ (e : Class). IsGoodName e.name) k.2 (g.good_name k.0 k.1)

  column_names : (c : Class) (d : ClassColumn) → IsIn c (layout_of node D R).classes → IsIn d c.columns → IsGoodName d.name
  column_names c d i j = let k = class_from base node D R g.nodes c i in g.good_columns k.0 d k.1 (subst (λ (e : Class). IsIn d e.columns) (sym k.2) j)

  key_names : (k : ℕ) (y : KeyView) → IsClassAt D k → IsIn y (view_at D k).keys → IsGoodLink (key_link D k y)
  key_names k y h i = (g.good_name k h, (λ c j. let d = g.key_columns k y c h i j in subst IsGoodName d.2 (g.good_columns k d.0 h d.1)))

  link_names : (p : Part) → IsIn p (layout_of node D R).parts → IsGoodLink p.link
  link_names p i = elim (part_from base node D R g.nodes p i) [
    | inl f ↦ subst (λ (q : Part). IsGoodLink q.link) f.4 (key_names f.0 f.2 f.1 f.3)
    | inr f ↦ subst (λ (q : Part). IsGoodLink q.link) f.2 (rels.each f.0 f.1).good
  ]

  columns : (c : Class) → IsIn c (layout_of node D R).classes → NoRepeats (map (λ (d : ClassColumn). d.name) c.columns)
  columns c i = let k = class_from base node D R g.nodes c i in subst (λ (e : Class). NoRepeats (map (λ (d : ClassColumn). d.name) e.columns)) k.2 (g.columns k.0 k.1)

  some_column : (c : Class) → IsIn c (layout_of node D R).classes → (d : ClassColumn) × IsIn d c.columns
  some_column c i = let k = class_from base node D R g.nodes c i in let d = g.some_column k.0 k.1 in (d.0, subst (λ (e : Class). IsIn d.0 e.columns) k.2 d.1)

  pub well_formed : WellFormed (layout_of node D R)
  well_formed = record {
    classes = names;
    columns = columns;
    some_column = some_column;
    cells = cells;
    nodes = λ c i. let k = class_from base node D R g.nodes c i in subst (λ (e : Class). NoRepeats e.nodes) k.2 (class_nodes k.0 k.1);
    one_class = one_class;
    links = links;
    pairs = pairs_distinct;
    pair_nodes = pair_nodes;
    good = good;
    class_names = class_names;
    column_names = column_names;
    link_names = link_names;
    marks = λ n h. let m = held base node D R g.nodes (a_mark n) h in ((view_at D m.0).name, subst (λ z. HasNode (layout_of node D R) (view_at D m.0).name z) m.5 (node_in m.0 m.2 m.1 m.3));
  }

  -- the rows of a class are those of its table
  rows_are : (k : ℕ) → IsClassAt D k →
      numbered (rows_in D k) (λ i. map (λ d. (view_at D k).cell i d.name) (view_at D k).columns) ≡ (class_table (layout_of node D R) (class_at node D k)).rows
  rows_are k h =
      upto_agree (rows_in D k) _ (λ i. map (λ n. map (λ d. (layout_of node D R).cell n d.name) (view_at D k).columns) (node k i ∷ []))
      (λ i l. ap (λ r. r ∷ []) (row i l (view_at D k).columns))
      ∙ sym (map_upto (λ n. map (λ d. (layout_of node D R).cell n d.name) (view_at D k).columns) (rows_in D k) (λ i. node k i ∷ []))
    where
      row : (i : ℕ) → i < rows_in D k → (cs : List ClassColumn) → map (λ d. (view_at D k).cell i d.name) cs ≡ map (λ d. (layout_of node D R).cell (node k i) d.name) cs
      row i l [] = refl
      row i l (c ∷ cs) =
          ap (λ z. z ∷ map (λ d. (view_at D k).cell i d.name) cs) (sym (cell_is base node D R g.nodes k i c.name h l))
          ∙ ap (λ zs. (layout_of node D R).cell (node k i) c.name ∷ zs) (row i l cs)

  -- the rows of a relation's table have the values of the nodes of its pairs
  rel_rows_are : (r : RelationView) → IsIn r R →
      numbered r.count (λ i. in_order (is_before r.name.left r.name.right) ((view_at D r.left).cell (r.left_row i) r.name.left_target) ((view_at D r.right).cell (r.right_row i) r.name.right_target))
      ≡ (relation_table (layout_of node D R) (rel_part_of node D r) r.name r.left_kind r.right_kind).rows
  rel_rows_are r h =
      let q = rels.each r h in
      upto_agree r.count _ (λ i. map (λ (a : Node × Node). in_order (is_before r.name.left r.name.right) ((layout_of node D R).cell a.0 r.name.left_target) ((layout_of node D R).cell a.1 r.name.right_target)) ((node r.left (r.left_row i), node r.right (r.right_row i)) ∷ []))
      (λ i l.
      let a = sym (cell_is base node D R g.nodes r.left (r.left_row i) r.name.left_target q.left (q.left_row i l)) in
      let b = sym (cell_is base node D R g.nodes r.right (r.right_row i) r.name.right_target q.right (q.right_row i l)) in
      λ t. in_order (is_before r.name.left r.name.right) (a t) (b t) ∷ [])
      ∙ sym (map_upto (λ (a : Node × Node). in_order (is_before r.name.left r.name.right) ((layout_of node D R).cell a.0 r.name.left_target) ((layout_of node D R).cell a.1 r.name.right_target)) r.count (λ i. (node r.left (r.left_row i), node r.right (r.right_row i)) ∷ []))

  table_is : (T : LiteralTable) → IsPlainClass D T ⊎ IsPlainRel D R T → IsTableOf (layout_of node D R) T
  table_is T (inl k) =
      let r : IsPermutation T.rows (class_table (layout_of node D R) (class_at node D k.0)).rows = subst (IsPermutation T.rows) (rows_are k.0 k.1) k.4 in
      inl (class_at node D k.0, class_in base node D R g.nodes k.0 k.1, record { name = k.2; columns = k.3; rows = r })
  table_is T (inr k) =
      let q = rels.each k.0 k.1 in
      let r : IsPermutation T.rows (relation_table (layout_of node D R) (rel_part_of node D k.0) k.0.name k.0.left_kind k.0.right_kind).rows = subst (IsPermutation T.rows) (rel_rows_are k.0 k.1) k.4 in
      inr (
        rel_part_of node D k.0,
        k.0.name,
        k.0.left_kind,
        k.0.right_kind,
        rel_part_in base node D R g.nodes k.0 k.1,
        refl,
        (class_at node D k.0.left, class_in base node D R g.nodes k.0.left q.left, refl, q.left_column.0, q.left_column.1, q.left_column.2, q.left_column.3),
        (class_at node D k.0.right, class_in base node D R g.nodes k.0.right q.right, refl, q.right_column.0, q.right_column.1, q.right_column.2, q.right_column.3),
        record { name = k.2; columns = k.3; rows = r },
      )

  pub tables : (Ts : List LiteralTable) → Plain D R Ts → AreTablesOf (layout_of node D R) Ts
  tables Ts p = record {
    rising = p.rising;
    columns = λ c i. let k = class_from base node D R g.nodes c i in subst (λ (e : Class). IsRising (λ (x y : ClassColumn). IsBefore x.name y.name) e.columns) k.2 (p.columns k.0 k.1);
    only = λ T i. table_is T (p.only T i);
    classes = λ c i. let k = class_from base node D R g.nodes c i in subst (λ (e : Class). IsIn e.name (map (λ (T : LiteralTable). T.name) Ts)) k.2 (p.all k.0 k.1);
    relations = λ q s i e. elim (part_from base node D R g.nodes q i) [
      | inl f ↦ (let e' : key_link D f.0 f.2 ≡ rel_link s = ap (λ (z : Part). z.link) f.4 ∙ e in absurd (cc))
      | inr f ↦
          (let e' : rel_link f.0.name ≡ rel_link s = ap (λ (z : Part). z.link) f.2 ∙ e in
          let n : f.0.name ≡ s = cc in
          subst (λ (z : RelName). IsIn z.table (map (λ (T : LiteralTable). T.name) Ts)) n (p.all_relations f.0 f.1))
    ];
  }

-- for the map-keys graph take no relations and any rows; for the map graph the premises on relations are what kept keys give
pub graph_stands_for_plain : (base : List ℕ) (node : ℕ → ℕ → Node) (D : Views) (R : List RelationView) → GoodData node D → GoodRels D R → ((k : ℕ) × IsClassAt D k) →
    (G : List Statement) → ((x : Statement) → IsIn x G ↔ ((f : Fact) × MapFact base node D R f × (x ≡ triple_of base f))) →
    (plain : List PlainTable) → AreOfShape plain → Plain D R (map literal_table plain) → StandsFor base G plain
graph_stands_for_plain base node D R g rels some G is plain of_shape p = record {
  layout = layout_of node D R;
  well_formed = well_formed base node D R g rels;
  some_class = (class_at node D some.0, class_in base node D R g.nodes some.0 some.1);
  describes = record {
    only = λ x h. let f = (is x).0 h in (f.0, holds base node D R g.nodes f.0 f.1, f.2);
    all = λ f h. (is (triple_of base f)).1 (f, held base node D R g.nodes f h, refl);
  };
  of_shape = of_shape;
  are = tables base node D R g rels (map literal_table plain) p;
}
