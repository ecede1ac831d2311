-- Two layouts of one graph have the same tables.
use Rattle.std.specs.Prelude.{ℕ}
use Rattle.std.proofs.Common.{◌≡◌, refl, sym, ap, ◌∙◌, subst, inl, inr, List, [], ◌∷◌, Option, Some, None, map}
use Rattle.std.specs.Prelude.{encode_utf8_all}
use Rattle.std.specs.Cmp.{IsTotalOrder, nat_cmp_total}
use Rattle.std.specs.Cmp.Lexicographic.{lists_total, slice_cmp}
use Rattle.std.specs.Ordering.{nat_cmp, ordering_reverse}
use Rattle.std.specs.declared.cmp.Ordering.TheVariants.{Less}
use Rattle.schema_dm.specs.Shapes.{IsBefore}
use Rattle.std.specs.List.{AllZip}
use Rattle.std.specs.List.Sorted.{IsPermutation}
use Rattle.std.proofs.lemmas.List.Sorted.{IsPermutation-map, IsPermutation-sym, IsPermutation-trans}
use Rattle.layouts_dm.specs.Layouts.{Class, ClassColumn, Describes, GoodLink, GoodRelation, HasClass, HasColumn, HasColumnOfKind, HasNode, Holds, Layout, Part, WellFormed, cell_fact, range_fact}
use Rattle.facts_dm.specs.Facts.{Fact, KindText, Node, a_class, a_domain, a_link, a_link_range, a_node, an_object, link_iri, rel_link}
use Rattle.members_dm.specs.Membership.{IsIn}
use Rattle.members_dm.proofs.MembershipLemmas.{IsIn-map, rising_unique}
use Rattle.layouts_dm.specs.LayoutTables.{AreTablesOf, IsTableOf, LiteralTable, SameTable, class_table, in_order, is_before, relation_table}
use Rattle.value_dm.specs.declared.kind.Kind.{Kind}
use Rattle.schema_dm.specs.Naming.{Name}
use Rattle.facts_dm.specs.Meanings.{NamingLaws}
use Rattle.names_dm.specs.declared.names.RelName.{RelName}
use Rattle.names_dm.specs.Statements.{Statement}
use Rattle.members_dm.proofs.ElementsLemmas.{permutation_of_items}
use Rattle.layouts_dm.proofs.Complete.{back, same_class, same_part, one_kind, part_domain}

pub before_one_way : (x y : Name) → IsBefore x y → ¬ IsBefore y x
unfolding IsBefore
before_one_way x y a b =
    let o : IsTotalOrder (slice_cmp nat_cmp) = lists_total nat_cmp_total in
    let s : Less ≡ ordering_reverse Less = sym a ∙ o.antisymm (encode_utf8_all x) (encode_utf8_all y) ∙ ap ordering_reverse b in cc

map_agree : {X Y : Type 0} (f g : X → Y) (xs : List X) → ((x : X) → IsIn x xs → f x ≡ g x) → map f xs ≡ map g xs
map_agree f g [] h = refl
map_agree f g (x ∷ xs) h = ap (λ y. y ∷ map f xs) (h x (inl refl)) ∙ ap (λ ys. g x ∷ ys) (map_agree f g xs (λ y i. h y (inr i)))

same_option : {X : Type 0} (a b : Option X) → ((v : X) → a ≡ Some v → b ≡ Some v) → ((v : X) → b ≡ Some v → a ≡ Some v) → a ≡ b
same_option None None f g = refl
same_option None (Some v) f g = g v refl
same_option (Some v) b f g = sym (f v refl)

all_zip_of_names : {X Y : Type 0} (f : X → Y) (R : X → X → Type 0) (xs ys : List X) → map f xs ≡ map f ys → ((x y : X) → IsIn x xs → IsIn y ys → f x ≡ f y → R x y) → AllZip R xs ys
all_zip_of_names f R [] [] e h = tt
all_zip_of_names f R [] (y ∷ ys) e h = absurd (cc)
all_zip_of_names f R (x ∷ xs) [] e h = absurd (cc)
all_zip_of_names f R (x ∷ xs) (y ∷ ys) e h =
    let a : f x ≡ f y = cc in
    let b : map f xs ≡ map f ys = cc in
    (h x y (inl refl) (inl refl) a, all_zip_of_names f R xs ys b (λ x y i j. h x y (inr i) (inr j)))

pub column_same : (d e : ClassColumn) → d.name ≡ e.name → d.kind ≡ e.kind → d ≡ e
column_same d e p q = λ i. record { name = p i; kind = q i }

same_rows : {X Y : Type 0} (f g : X → Y) (xs ys : List X) → ((x : X) → IsIn x xs → f x ≡ g x) → IsPermutation xs ys → IsPermutation (map f xs) (map g ys)
same_rows f g xs ys h p = subst (λ l. IsPermutation l (map g ys)) (sym (map_agree f g xs h)) (IsPermutation-map g xs ys p)

pub same_over : (T U V : LiteralTable) → SameTable T U → SameTable U V → SameTable T V
same_over T U V a b = record { name = a.name ∙ b.name; columns = a.columns ∙ b.columns; rows = IsPermutation-trans T.rows U.rows V.rows a.rows b.rows }

pub same_back : (T U : LiteralTable) → SameTable T U → SameTable U T
same_back T U a = record { name = sym a.name; columns = sym a.columns; rows = IsPermutation-sym T.rows U.rows a.rows }

-- from the layout L to the layout M of the same graph
module _ (base : List ℕ) (laws : NamingLaws base) (G : List Statement) (L : Layout) (w : WellFormed L) (d : Describes base L G) (M : Layout) (u : WellFormed M) (e : Describes base M G) where
  over : (f : Fact) → Holds base L f → Holds base M f
  over f h = back base laws M G u e f (d.all f h)

  class_at : (c' : Class) (t : Name) → IsIn c' M.classes → t ≡ c'.name → (h : HasClass M t) → h.0 ≡ c'
  class_at c' t j p h = same_class base laws M G u e h.0 c' h.1 j (h.2 ∙ p)

  column_over : (c c' : Class) → IsIn c L.classes → IsIn c' M.classes → c.name ≡ c'.name → (x : ClassColumn) → IsIn x c.columns → IsIn x c'.columns
  column_over c c' i j p x k =
      let h = over (range_fact c.name x.name x.kind) (c, i, refl, x, k, refl, refl) in
      subst (λ (y : ClassColumn). IsIn y c'.columns) (column_same h.3 x h.5 h.6) (subst (λ (y : Class). IsIn h.3 y.columns) (class_at c' c.name j p (h.0, h.1, h.2)) h.4)

  node_over : (c c' : Class) → IsIn c L.classes → IsIn c' M.classes → c.name ≡ c'.name → (n : Node) → IsIn n c.nodes → IsIn n c'.nodes
  node_over c c' i j p n k =
      let h = over (a_node n c.name) (c, i, refl, k) in
      subst (λ (y : Class). IsIn n y.nodes) (class_at c' c.name j p (h.0, h.1, h.2)) h.3

  cell_over : (c : Class) (n : Node) (x : ClassColumn) (v : KindText) → IsIn c L.classes → IsIn n c.nodes → IsIn x c.columns → L.cell n x.name ≡ Some v → M.cell n x.name ≡ Some v
  cell_over c n x v i k m s = (over (cell_fact n c.name x.name v) (c, i, refl, k, x, m, refl, s)).7

  -- a value that a pair of a relation has
  value_over : (t x : Name) (n : Node) (v : KindText) → HasNode L t n → HasColumn L t x → L.cell n x ≡ Some v → L.cell n x ≡ M.cell n x
  value_over t x n v h g s =
      let q : h.0 ≡ g.0 = same_class base laws L G w d h.0 g.0 h.1 g.1 (h.2 ∙ sym g.2) in
      s ∙ sym (over (cell_fact n t x v) (g.0, g.1, g.2, subst (λ (c : Class). IsIn n c.nodes) q h.3, g.3, g.4, g.5, s)).7

  class_name_over : (c : Class) → IsIn c L.classes → HasClass M c.name
  class_name_over c i = over (a_class c.name) (c, i, refl)

  -- a relation of M with the name of one of L is that one
  relation_over : (p p' : Part) (q q' : RelName) → IsIn p L.parts → p.link ≡ rel_link q → IsIn p' M.parts → p'.link ≡ rel_link q' → q.table ≡ q'.table → q ≡ q'
  relation_over p p' q q' i a j b s =
      let h = over (an_object (rel_link q)) (p, i, a) in
      let g : GoodRelation M p' q' = subst (GoodLink M p') b (u.good p' j) in
      g.one h.0 q h.1 h.2 s

  pair_over : (p p' : Part) (q : RelName) → IsIn p L.parts → p.link ≡ rel_link q → IsIn p' M.parts → p'.link ≡ rel_link q → (x : Node × Node) → IsIn x p.pairs → IsIn x p'.pairs
  pair_over p p' q i a j b x k =
      let h = over (a_link x.0 (rel_link q) x.1) (p, i, a, k) in
      subst (λ (y : Part). IsIn x y.pairs) (same_part base laws M G u e h.0 p' h.1 j (h.2 ∙ sym b)) h.3

  from_over : (p p' : Part) (q : RelName) → IsIn p L.parts → p.link ≡ rel_link q → IsIn p' M.parts → p'.link ≡ rel_link q → p.from ≡ p'.from
  from_over p p' q i a j b =
      part_domain base laws M G u e p' p.from j (over (a_domain (link_iri base p'.link) p.from) (inr (p, i, ap (link_iri base) (a ∙ sym b), refl)))

  to_over : (p p' : Part) (q : RelName) → IsIn p L.parts → p.link ≡ rel_link q → IsIn p' M.parts → p'.link ≡ rel_link q → p.to ≡ p'.to
  to_over p p' q i a j b =
      let h = over (a_link_range (rel_link q) p.to) (p, i, a, refl) in
      sym h.3 ∙ ap (λ (y : Part). y.to) (same_part base laws M G u e h.0 p' h.1 j (h.2 ∙ sym b))

  kind_over : (t t' x : Name) (k k' : Kind) → t ≡ t' → HasColumnOfKind L t x k → HasColumnOfKind M t' x k' → k ≡ k'
  kind_over t t' x k k' s h g = one_kind base laws M G u e t' x k k' (subst (λ z. Holds base M (range_fact z x k)) s (over (range_fact t x k) h)) g

  -- the values of a pair
  pair_values : (p : Part) (q : RelName) → IsIn p L.parts → p.link ≡ rel_link q → (x : Node × Node) → IsIn x p.pairs → (L.cell x.0 q.left_target ≡ M.cell x.0 q.left_target) × (L.cell x.1 q.right_target ≡ M.cell x.1 q.right_target)
  pair_values p q i a x k =
      let g : GoodRelation L p q = subst (GoodLink L p) a (w.good p i) in
      let n = w.pair_nodes p x.0 x.1 i k in
      let v = g.values x.0 x.1 k in
      (value_over p.from q.left_target x.0 v.0.0 n.0 g.left v.0.1, value_over p.to q.right_target x.1 v.1.0 n.1 g.right v.1.1)

module _ (base : List ℕ) (laws : NamingLaws base) (G : List Statement)
    (L : Layout) (w : WellFormed L) (d : Describes base L G) (Ts : List LiteralTable) (a : AreTablesOf L Ts)
    (M : Layout) (u : WellFormed M) (e : Describes base M G) (Us : List LiteralTable) (b : AreTablesOf M Us) where
  columns_same : (c c' : Class) → IsIn c L.classes → IsIn c' M.classes → c.name ≡ c'.name → c.columns ≡ c'.columns
  columns_same c c' i j p =
      rising_unique (λ (x y : ClassColumn). IsBefore x.name y.name) (λ x y. before_one_way x.name y.name) c.columns c'.columns (a.columns c i) (b.columns c' j)
      (λ x. (column_over base laws G L w d M u e c c' i j p x, column_over base laws G M u e L w d c' c j i (sym p) x))

  class_same : (c c' : Class) → IsIn c L.classes → IsIn c' M.classes → c.name ≡ c'.name → SameTable (class_table L c) (class_table M c')
  class_same c c' i j p =
      let q : c.columns ≡ c'.columns = columns_same c c' i j p in
      let nodes : IsPermutation c.nodes c'.nodes =
      permutation_of_items c.nodes c'.nodes (w.nodes c i) (u.nodes c' j) (λ n. (node_over base laws G L w d M u e c c' i j p n, node_over base laws G M u e L w d c' c j i (sym p) n)) in
      let row : (n : Node) → IsIn n c.nodes → map (λ x. L.cell n x.name) c.columns ≡ map (λ x. M.cell n x.name) c.columns =
      λ n k. map_agree (λ (x : ClassColumn). L.cell n x.name) (λ (x : ClassColumn). M.cell n x.name) c.columns
      (λ x m. same_option _ _ (λ v s. cell_over base laws G L w d M u e c n x v i k m s)
      (λ v s. cell_over base laws G M u e L w d c' n x v j (node_over base laws G L w d M u e c c' i j p n k) (subst (λ (l : List ClassColumn). IsIn x l) q m) s)) in
      let rows : IsPermutation (map (λ n. map (λ x. L.cell n x.name) c.columns) c.nodes) (map (λ n. map (λ x. M.cell n x.name) c.columns) c'.nodes) =
      same_rows (λ (n : Node). map (λ (x : ClassColumn). L.cell n x.name) c.columns) (λ (n : Node). map (λ (x : ClassColumn). M.cell n x.name) c.columns) c.nodes c'.nodes row nodes in
      record {
        name = p;
        columns = q;
        rows = subst (λ (l : List ClassColumn). IsPermutation (map (λ (n : Node). map (λ (x : ClassColumn). L.cell n x.name) c.columns) c.nodes) (map (λ (n : Node). map (λ (x : ClassColumn). M.cell n x.name) l) c'.nodes)) q rows;
      }

  -- the relation tables of two parts of one relation
  relation_same : (p p' : Part) (q : RelName) (k l k' l' : Kind) → IsIn p L.parts → p.link ≡ rel_link q → IsIn p' M.parts → p'.link ≡ rel_link q →
      HasColumnOfKind L p.from q.left_target k → HasColumnOfKind L p.to q.right_target l → HasColumnOfKind M p'.from q.left_target k' → HasColumnOfKind M p'.to q.right_target l' →
      SameTable (relation_table L p q k l) (relation_table M p' q k' l')
  relation_same p p' q k l k' l' i x j y h g h' g' =
      let from = from_over base laws G L w d M u e p p' q i x j y in
      let to = to_over base laws G L w d M u e p p' q i x j y in
      let left : k ≡ k' = kind_over base laws G L w d M u e p.from p'.from q.left_target k k' from h h' in
      let right : l ≡ l' = kind_over base laws G L w d M u e p.to p'.to q.right_target l l' to g g' in
      let pairs : IsPermutation p.pairs p'.pairs =
      permutation_of_items p.pairs p'.pairs (w.pairs p i) (u.pairs p' j) (λ z. (pair_over base laws G L w d M u e p p' q i x j y z, pair_over base laws G M u e L w d p' p q j y i x z)) in
      record {
        name = refl;
        columns = λ t. in_order (is_before q.left q.right) (record { name = q.left; kind = left t }) (record { name = q.right; kind = right t });
        rows = same_rows
            (λ (z : Node × Node). in_order (is_before q.left q.right) (L.cell z.0 q.left_target) (L.cell z.1 q.right_target))
            (λ (z : Node × Node). in_order (is_before q.left q.right) (M.cell z.0 q.left_target) (M.cell z.1 q.right_target)) p.pairs p'.pairs
            (λ z m. let v = pair_values base laws G L w d M u e p q i x z m in λ t. in_order (is_before q.left q.right) (v.0 t) (v.1 t)) pairs;
      }

  same_tables : (T U : LiteralTable) → T.name ≡ U.name → IsTableOf L T → IsTableOf M U → SameTable T U
  same_tables T U s (inl h) (inl g) =
      same_over T (class_table L h.0) U h.2 (same_over (class_table L h.0) (class_table M g.0) U (class_same h.0 g.0 h.1 g.1 (sym h.2.name ∙ s ∙ g.2.name)) (same_back U (class_table M g.0) g.2))
  same_tables T U s (inl h) (inr g) =
      let n : h.0.name ≡ g.1.table = sym h.2.name ∙ s ∙ g.8.name in
      let r : GoodRelation M g.0 g.1 = subst (GoodLink M g.0) g.5 (u.good g.0 g.4) in
      absurd (r.no_class (subst (HasClass M) n (class_name_over base laws G L w d M u e h.0 h.1)))
  same_tables T U s (inr h) (inl g) =
      let n : g.0.name ≡ h.1.table = sym (g.2.name) ∙ sym s ∙ h.8.name in
      let r : GoodRelation L h.0 h.1 = subst (GoodLink L h.0) h.5 (w.good h.0 h.4) in
      absurd (r.no_class (subst (HasClass L) n (class_name_over base laws G M u e L w d g.0 g.1)))
  same_tables T U s (inr h) (inr g) =
      let n : h.1.table ≡ g.1.table = sym (h.8.name) ∙ s ∙ g.8.name in
      let q : h.1 ≡ g.1 = relation_over base laws G L w d M u e h.0 g.0 h.1 g.1 h.4 h.5 g.4 g.5 n in
      let g5 : g.0.link ≡ rel_link h.1 = g.5 ∙ ap rel_link (sym q) in
      let g6 : HasColumnOfKind M g.0.from h.1.left_target g.2 = subst (λ (z : RelName). HasColumnOfKind M g.0.from z.left_target g.2) (sym q) g.6 in
      let g7 : HasColumnOfKind M g.0.to h.1.right_target g.3 = subst (λ (z : RelName). HasColumnOfKind M g.0.to z.right_target g.3) (sym q) g.7 in
      let g8 : SameTable U (relation_table M g.0 h.1 g.2 g.3) = subst (λ (z : RelName). SameTable U (relation_table M g.0 z g.2 g.3)) (sym q) g.8 in
      same_over T (relation_table L h.0 h.1 h.2 h.3) U h.8
      (same_over (relation_table L h.0 h.1 h.2 h.3) (relation_table M g.0 h.1 g.2 g.3) U
      (relation_same h.0 g.0 h.1 h.2 h.3 g.2 g.3 h.4 h.5 g.4 g5 h.6 h.7 g6 g7) (same_back U (relation_table M g.0 h.1 g.2 g.3) g8))

  name_over : (x : Name) → IsIn x (map (λ (T : LiteralTable). T.name) Ts) → IsIn x (map (λ (T : LiteralTable). T.name) Us)
  name_over x h =
      let T = IsIn-map (λ (T : LiteralTable). T.name) x Ts h in
      subst (λ (y : Name). IsIn y (map (λ (T : LiteralTable). T.name) Us)) T.2 (go T.0 (a.only T.0 T.1))
    where
      go : (T : LiteralTable) → IsTableOf L T → IsIn T.name (map (λ (T : LiteralTable). T.name) Us)
      go T (inl k) =
          let m = class_name_over base laws G L w d M u e k.0 k.1 in
          subst (λ (y : Name). IsIn y (map (λ (T : LiteralTable). T.name) Us)) (m.2 ∙ sym (k.2.name)) (b.classes m.0 m.1)
      go T (inr k) =
          let m = over base laws G L w d M u e (an_object (rel_link k.1)) (k.0, k.4, k.5) in
          subst (λ (y : Name). IsIn y (map (λ (T : LiteralTable). T.name) Us)) (sym (k.8.name)) (b.relations m.0 k.1 m.1 m.2)

-- the tables are determined up to the order of rows
pub tables_unique : (base : List ℕ) (laws : NamingLaws base) (G : List Statement) →
    (L : Layout) → WellFormed L → Describes base L G → (Ts : List LiteralTable) → AreTablesOf L Ts →
    (M : Layout) → WellFormed M → Describes base M G → (Us : List LiteralTable) → AreTablesOf M Us →
    AllZip SameTable Ts Us
tables_unique base laws G L w d Ts a M u e Us b =
    let names : map (λ (T : LiteralTable). T.name) Ts ≡ map (λ (T : LiteralTable). T.name) Us =
    rising_unique IsBefore before_one_way _ _ a.rising b.rising
    (λ x. (name_over base laws G L w d Ts a M u e Us b x, name_over base laws G M u e Us b L w d Ts a x)) in
    all_zip_of_names (λ (T : LiteralTable). T.name) SameTable Ts Us names
    (λ T U i j s. same_tables base laws G L w d Ts a M u e Us b T U s (a.only T i) (b.only U j))
