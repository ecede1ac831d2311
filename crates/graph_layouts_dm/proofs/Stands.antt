-- The layout of a database says what its graph says.
use Rattle.std.proofs.Common.{◌≡◌, ℕ, zero, suc, ◌<◌, refl, sym, ap, ◌∙◌, subst, inl, inr, ◌⊎◌, List, [], ◌∷◌, Some, map, Bool, true, false, cond, arith}
use Rattle.std.specs.Prelude.{◌≢◌}
use Rattle.std.proofs.lemmas.Bool.Decides.{not_from_Decides, eqb_tells}
use Rattle.layouts_dm.specs.Layouts.{Class, Holds, Part, property_iri}
use Rattle.layouts_dm.proofs.ReadingOff.{node_eq, node_eq-decides}
use Rattle.graph_layouts_dm.proofs.Views.{IsClassAt, Views, each_class, if_class, DifferentNodes, KeyView, MapFact, RelationView, cell_where, class_at, key_part, layout_of, located, look_up, numbered, pairs_of, rel_part_of, rows_in, upto, view_at}
use Rattle.facts_dm.specs.Facts.{Fact, Node, a_cell, a_class, a_domain, a_link, a_link_range, a_mark, a_node, a_property, a_range, an_object, link_iri}
use Rattle.members_dm.specs.Membership.{IsIn}
use Rattle.members_dm.proofs.MembershipLemmas.{IsIn-append, IsIn-back, IsIn-front, IsIn-map, map-IsIn}
use Rattle.schema_dm.specs.Naming.{Name}

split_lt : (k n : ℕ) → k < suc n → (k ≡ n) ⊎ (k < n)
split_lt k n h = elim (eqb_tells k n) [ inl e ↦ inl e.1 | inr e ↦ (let d : k ≢ n = e.1 in inr (omega arith)) ]

pub upto-IsIn : {X : Type 0} (x : X) (n : ℕ) (f : ℕ → List X) (k : ℕ) → k < n → IsIn x (f k) → IsIn x (upto n f)
upto-IsIn x zero f k h i = absurd (omega arith)
upto-IsIn x (suc n) f k h i =
    elim (split_lt k n h) [ inl e ↦ IsIn-back x (upto n f) (f n) (subst (λ j. IsIn x (f j)) e i) | inr l ↦ IsIn-front x (upto n f) (f n) (upto-IsIn x n f k l i) ]

pub IsIn-upto : {X : Type 0} (x : X) (n : ℕ) (f : ℕ → List X) → IsIn x (upto n f) → (k : ℕ) × (k < n) × IsIn x (f k)
IsIn-upto x zero f i = absurd i
IsIn-upto x (suc n) f i =
    elim (IsIn-append x (upto n f) (f n) i)
    [ inl a ↦ (let r = IsIn-upto x n f a in (r.0, omega arith, r.2)) | inr b ↦ (n, omega arith, b) ]

pub numbered-IsIn : {X : Type 0} (n : ℕ) (f : ℕ → X) (k : ℕ) → k < n → IsIn (f k) (numbered n f)
numbered-IsIn n f k h = upto-IsIn (f k) n (λ i. f i ∷ []) k h (inl refl)

pub IsIn-numbered : {X : Type 0} (x : X) (n : ℕ) (f : ℕ → X) → IsIn x (numbered n f) → (k : ℕ) × (k < n) × (f k ≡ x)
IsIn-numbered x n f i = let r = IsIn-upto x n (λ j. f j ∷ []) i in (r.0, r.1, elim r.2 [ inl e ↦ e | inr h ↦ absurd h ])

pub chosen-IsIn : {X : Type 0} (b : Bool) (x : X) → b ≡ true → IsIn x (cond b (x ∷ []) [])
chosen-IsIn b x e = subst (λ c. IsIn x (cond c (x ∷ []) [])) (sym e) (inl refl)

pub IsIn-chosen : {X : Type 0} (b : Bool) (x y : X) → IsIn y (cond b (x ∷ []) []) → (b ≡ true) × (x ≡ y)
IsIn-chosen true x y (inl e) = (refl, e)
IsIn-chosen true x y (inr h) = absurd h
IsIn-chosen false x y h = absurd h

-- a key with one value is looked up
look_up_one : {X : Type 0} (n : Node) (x : X) (ps : List (Node × X)) → ((y : X) → IsIn {X = Node × X} (n, y) ps → y ≡ x) → IsIn {X = Node × X} (n, x) ps → look_up n ps ≡ Some x
look_up_one n x [] one h = absurd h
look_up_one {X} n x (p ∷ ps) one h = go (λ k. look_up_one n x ps (λ y i. one y (inr i)) k) (node_eq p.0 n) refl
  where
    go : (IsIn {X = Node × X} (n, x) ps → look_up n ps ≡ Some x) → (b : Bool) → node_eq p.0 n ≡ b → cond b (Some p.1) (look_up n ps) ≡ Some x
    go rest true e = ap Some (one p.1 (inl (λ t. ((node_eq-decides p.0 n).0 e t, p.1))))
    go rest false e =
        elim h [
          | inl q ↦ absurd (not_from_Decides _ (node_eq-decides p.0 n) e (ap (λ (z : Node × X). z.0) q))
          | inr k ↦ rest k
        ]

-- what stands in the list of a class stands in the joined list
pub class-IsIn : {X : Type 0} (x : X) (D : Views) (f : ℕ → List X) (k : ℕ) → IsClassAt D k → IsIn x (f k) → IsIn x (each_class D f)
class-IsIn x D f k h i = upto-IsIn x D.count (λ l. if_class D l (f l)) k h.0 (subst (λ b. IsIn x (cond b (f k) [])) (sym h.1) i)

pub chosen_list : {X : Type 0} (x : X) (b : Bool) (xs : List X) → IsIn x (cond b xs []) → (b ≡ true) × IsIn x xs
chosen_list x true xs i = (refl, i)
chosen_list x false xs i = absurd i

pub IsIn-class : {X : Type 0} (x : X) (D : Views) (f : ℕ → List X) → IsIn x (each_class D f) → (k : ℕ) × IsClassAt D k × IsIn x (f k)
IsIn-class x D f i =
    let r = IsIn-upto x D.count (λ l. if_class D l (f l)) i in
    let c = chosen_list x (view_at D r.0).is_class (f r.0) r.2 in
    (r.0, (r.1, c.0), c.1)

module _ (base : List ℕ) (node : ℕ → ℕ → Node) (D : Views) (R : List RelationView) (different : DifferentNodes node D) where
  located_at : (k i : ℕ) → IsClassAt D k → i < rows_in D k → look_up (node k i) (located node D) ≡ Some (k, i)
  located_at k i h g =
      look_up_one (node k i) (k, i) (located node D)
      (λ y j.
      let a = IsIn-class {X = Node × (ℕ × ℕ)} (node k i, y) D (λ l. numbered (rows_in D l) (λ m. (node l m, (l, m)))) j in
      let b = IsIn-numbered {X = Node × (ℕ × ℕ)} (node k i, y) (rows_in D a.0) (λ m. (node a.0 m, (a.0, m))) a.2 in
      let s = different a.0 b.0 k i a.1 b.1 h g (ap (λ (z : Node × (ℕ × ℕ)). z.0) b.2) in
      sym (ap (λ (z : Node × (ℕ × ℕ)). z.1) b.2) ∙ (λ t. (s.0 t, s.1 t)))
      (class-IsIn {X = Node × (ℕ × ℕ)} (node k i, (k, i)) D (λ l. numbered (rows_in D l) (λ m. (node l m, (l, m)))) k h
      (numbered-IsIn (rows_in D k) (λ m. (node k m, (k, m))) i g))

  pub cell_is : (k i : ℕ) (x : Name) → IsClassAt D k → i < rows_in D k → (layout_of node D R).cell (node k i) x ≡ (view_at D k).cell i x
  cell_is k i x h g = ap (λ p. cell_where D p x) (located_at k i h g)

  pub class_in : (k : ℕ) → IsClassAt D k → IsIn (class_at node D k) (layout_of node D R).classes
  class_in k h = class-IsIn (class_at node D k) D (λ l. class_at node D l ∷ []) k h (inl refl)

  pub class_from : (c : Class) → IsIn c (layout_of node D R).classes → (k : ℕ) × IsClassAt D k × (class_at node D k ≡ c)
  class_from c i = (let r = IsIn-class c D (λ l. class_at node D l ∷ []) i in (r.0, r.1, elim r.2 [ inl e ↦ e | inr h ↦ absurd h ]))

  pub part_in : (k : ℕ) (y : KeyView) → IsClassAt D k → IsIn y (view_at D k).keys → IsIn (key_part node D k y) (layout_of node D R).parts
  part_in k y h i =
      IsIn-front (key_part node D k y) (each_class D (λ l. map (key_part node D l) (view_at D l).keys)) (map (rel_part_of node D) R)
      (class-IsIn (key_part node D k y) D (λ l. map (key_part node D l) (view_at D l).keys) k h (map-IsIn (key_part node D k) y (view_at D k).keys i))

  pub rel_part_in : (r : RelationView) → IsIn r R → IsIn (rel_part_of node D r) (layout_of node D R).parts
  rel_part_in r i =
      IsIn-back (rel_part_of node D r) (each_class D (λ l. map (key_part node D l) (view_at D l).keys)) (map (rel_part_of node D) R) (map-IsIn (rel_part_of node D) r R i)

  pub part_from : (p : Part) → IsIn p (layout_of node D R).parts →
      ((k : ℕ) × IsClassAt D k × (y : KeyView) × (IsIn y (view_at D k).keys) × (key_part node D k y ≡ p)) ⊎ ((r : RelationView) × (IsIn r R) × (rel_part_of node D r ≡ p))
  part_from p i =
      elim (IsIn-append p (each_class D (λ l. map (key_part node D l) (view_at D l).keys)) (map (rel_part_of node D) R) i) [
        | inl h ↦
            (let a = IsIn-class p D (λ l. map (key_part node D l) (view_at D l).keys) h in
            let b = IsIn-map (key_part node D a.0) p (view_at D a.0).keys a.2 in
            inl (a.0, a.1, b.0, b.1, b.2))
        | inr h ↦ (let b = IsIn-map (rel_part_of node D) p R h in inr (b.0, b.1, b.2))
      ]

  pub rel_pair_from : (r : RelationView) (n m : Node) → IsIn {X = Node × Node} (n, m) (rel_part_of node D r).pairs → (i : ℕ) × (i < r.count) × (node r.left (r.left_row i) ≡ n) × (node r.right (r.right_row i) ≡ m)
  rel_pair_from r n m h =
      let a = IsIn-numbered {X = Node × Node} (n, m) r.count (λ i. (node r.left (r.left_row i), node r.right (r.right_row i))) h in
      (a.0, a.1, ap (λ (z : Node × Node). z.0) a.2, ap (λ (z : Node × Node). z.1) a.2)

  pair_in : (k : ℕ) (y : KeyView) (i j : ℕ) → i < rows_in D k → j < rows_in D y.target → y.matches i j ≡ true → IsIn {X = Node × Node} (node k i, node y.target j) (pairs_of node D k y)
  pair_in k y i j h g e =
      upto-IsIn {X = Node × Node} (node k i, node y.target j) (rows_in D k) (λ a. upto (rows_in D y.target) (λ b. cond (y.matches a b) ((node k a, node y.target b) ∷ []) [])) i h
      (upto-IsIn {X = Node × Node} (node k i, node y.target j) (rows_in D y.target) (λ b. cond (y.matches i b) ((node k i, node y.target b) ∷ []) []) j g
      (chosen-IsIn {X = Node × Node} (y.matches i j) (node k i, node y.target j) e))

  pub pair_from : (k : ℕ) (y : KeyView) (n m : Node) → IsIn {X = Node × Node} (n, m) (pairs_of node D k y) → (i : ℕ) × (i < rows_in D k) × (j : ℕ) × (j < rows_in D y.target) × (y.matches i j ≡ true) × (node k i ≡ n) × (node y.target j ≡ m)
  pair_from k y n m h =
      let a = IsIn-upto {X = Node × Node} (n, m) (rows_in D k) (λ a. upto (rows_in D y.target) (λ b. cond (y.matches a b) ((node k a, node y.target b) ∷ []) [])) h in
      let b = IsIn-upto {X = Node × Node} (n, m) (rows_in D y.target) (λ b. cond (y.matches a.0 b) ((node k a.0, node y.target b) ∷ []) []) a.2 in
      let c = IsIn-chosen {X = Node × Node} (y.matches a.0 b.0) (node k a.0, node y.target b.0) (n, m) b.2 in
      (a.0, a.1, b.0, b.1, c.0, ap (λ (z : Node × Node). z.0) c.1, ap (λ (z : Node × Node). z.1) c.1)

  pub holds : (f : Fact) → MapFact base node D R f → Holds base (layout_of node D R) f
  holds (a_class t) h = (class_at node D h.0, class_in h.0 h.1, h.2)
  holds (a_property name) h = (class_at node D h.0, class_in h.0 h.1, h.2, h.3, h.4, h.5)
  holds (an_object l) (inl h) = (key_part node D h.0 h.2, part_in h.0 h.2 h.1 h.3, h.4)
  holds (an_object l) (inr h) = (rel_part_of node D h.0, rel_part_in h.0 h.1, h.2)
  holds (a_domain i t) (inl h) = inl (h.3.name, h.5, (class_at node D h.0, class_in h.0 h.1, h.2, h.3, h.4, refl))
  holds (a_domain i t) (inr (inl h)) = inr (key_part node D h.0 h.3, part_in h.0 h.3 h.1 h.4, h.5, h.2)
  holds (a_domain i t) (inr (inr h)) = inr (rel_part_of node D h.0, rel_part_in h.0 h.1, h.2, h.3)
  holds (a_range name l) h = (class_at node D h.0, class_in h.0 h.1, h.2, h.3, h.4, h.5, h.6)
  holds (a_link_range l u) (inl h) = (key_part node D h.0 h.2, part_in h.0 h.2 h.1 h.3, h.4, h.5)
  holds (a_link_range l u) (inr h) = (rel_part_of node D h.0, rel_part_in h.0 h.1, h.2, h.3)
  holds (a_node n t) h =
      (class_at node D h.0, class_in h.0 h.1, h.2, subst (λ m. IsIn m (class_at node D h.0).nodes) h.5 (numbered-IsIn (rows_in D h.0) (λ i. node h.0 i) h.3 h.4))
  holds (a_cell n name v) h = (
    class_at node D h.0,
    class_in h.0 h.1,
    h.2,
    subst (λ m. IsIn m (class_at node D h.0).nodes) h.5 (numbered-IsIn (rows_in D h.0) (λ i. node h.0 i) h.3 h.4),
    h.6,
    h.7,
    h.8,
    ap (λ m. (layout_of node D R).cell m name.column) (sym h.5) ∙ cell_is h.0 h.3 name.column h.1 h.4 ∙ h.9,
  )
  holds (a_link n l m) (inr h) = (
    rel_part_of node D h.0,
    rel_part_in h.0 h.1,
    h.2,
    subst (λ (z : Node × Node). IsIn z (rel_part_of node D h.0).pairs) (λ t. (h.5 t, h.6 t)) (numbered-IsIn h.0.count (λ i. (node h.0.left (h.0.left_row i), node h.0.right (h.0.right_row i))) h.3 h.4),
  )
  holds (a_link n l m) (inl h) = (
    key_part node D h.0 h.2,
    part_in h.0 h.2 h.1 h.3,
    h.4,
    subst (λ (z : Node × Node). IsIn z (pairs_of node D h.0 h.2)) (λ t. (h.10 t, h.11 t)) (pair_in h.0 h.2 h.5 h.7 h.6 h.8 h.9),
  )
  holds (a_mark n) h =
      subst (λ m. IsIn m (layout_of node D R).marked) h.5
      (class-IsIn (node h.0 h.2) D (λ k. upto (rows_in D k) (λ i. cond ((view_at D k).violated i) (node k i ∷ []) [])) h.0 h.1
      (upto-IsIn (node h.0 h.2) (rows_in D h.0) (λ i. cond ((view_at D h.0).violated i) (node h.0 i ∷ []) []) h.2 h.3 (chosen-IsIn ((view_at D h.0).violated h.2) (node h.0 h.2) h.4)))

  pub held : (f : Fact) → Holds base (layout_of node D R) f → MapFact base node D R f
  held (a_class t) h = let k = class_from h.0 h.1 in (k.0, k.1, ap (λ (c : Class). c.name) k.2 ∙ h.2)
  held (a_property name) h =
      let k = class_from h.0 h.1 in
      (k.0, k.1, ap (λ (c : Class). c.name) k.2 ∙ h.2, h.3, subst (λ (c : Class). IsIn h.3 c.columns) (sym k.2) h.4, h.5)
  held (an_object l) h = elim (part_from h.0 h.1) [ inl p ↦ inl (p.0, p.1, p.2, p.3, ap (λ (q : Part). q.link) p.4 ∙ h.2) | inr p ↦ inr (p.0, p.1, ap (λ (q : Part). q.link) p.2 ∙ h.2) ]
  held (a_domain i t) (inl h) =
      let g = h.2 in
      let k = class_from g.0 g.1 in
      inl (k.0, k.1, ap (λ (c : Class). c.name) k.2 ∙ g.2, g.3, subst (λ (c : Class). IsIn g.3 c.columns) (sym k.2) g.4, ap (property_iri base t) g.5 ∙ h.1)
  held (a_domain i t) (inr h) =
      inr (elim (part_from h.0 h.1) [
        | inl p ↦ inl (p.0, p.1, ap (λ (q : Part). q.from) p.4 ∙ h.3, p.2, p.3, ap (λ (q : Part). link_iri base q.link) p.4 ∙ h.2)
        | inr p ↦ inr (p.0, p.1, ap (λ (q : Part). link_iri base q.link) p.2 ∙ h.2, ap (λ (q : Part). q.from) p.2 ∙ h.3)
      ])
  held (a_range name l) h =
      let k = class_from h.0 h.1 in
      (k.0, k.1, ap (λ (c : Class). c.name) k.2 ∙ h.2, h.3, subst (λ (c : Class). IsIn h.3 c.columns) (sym k.2) h.4, h.5, h.6)
  held (a_link_range l u) h =
      elim (part_from h.0 h.1) [
        | inl p ↦ inl (p.0, p.1, p.2, p.3, ap (λ (q : Part). q.link) p.4 ∙ h.2, ap (λ (q : Part). q.to) p.4 ∙ h.3)
        | inr p ↦ inr (p.0, p.1, ap (λ (q : Part). q.link) p.2 ∙ h.2, ap (λ (q : Part). q.to) p.2 ∙ h.3)
      ]
  held (a_node n t) h =
      let k = class_from h.0 h.1 in
      let i = IsIn-numbered n (rows_in D k.0) (λ j. node k.0 j) (subst (λ (c : Class). IsIn n c.nodes) (sym k.2) h.3) in
      (k.0, k.1, ap (λ (c : Class). c.name) k.2 ∙ h.2, i.0, i.1, i.2)
  held (a_cell n name v) h =
      let k = class_from h.0 h.1 in
      let i = IsIn-numbered n (rows_in D k.0) (λ j. node k.0 j) (subst (λ (c : Class). IsIn n c.nodes) (sym k.2) h.3) in (
        k.0,
        k.1,
        ap (λ (c : Class). c.name) k.2 ∙ h.2,
        i.0,
        i.1,
        i.2,
        h.4,
        subst (λ (c : Class). IsIn h.4 c.columns) (sym k.2) h.5,
        h.6,
        sym (cell_is k.0 i.0 name.column k.1 i.1) ∙ ap (λ m. (layout_of node D R).cell m name.column) i.2 ∙ h.7,
      )
  held (a_link n l m) h =
      elim (part_from h.0 h.1) [
        | inl p ↦
            (let q = pair_from p.0 p.2 n m (subst (λ (r : Part). IsIn {X = Node × Node} (n, m) r.pairs) (sym p.4) h.3) in
            inl (p.0, p.1, p.2, p.3, ap (λ (r : Part). r.link) p.4 ∙ h.2, q.0, q.1, q.2, q.3, q.4, q.5, q.6))
        | inr p ↦
            (let q = rel_pair_from p.0 n m (subst (λ (r : Part). IsIn {X = Node × Node} (n, m) r.pairs) (sym p.2) h.3) in
            inr (p.0, p.1, ap (λ (r : Part). r.link) p.2 ∙ h.2, q.0, q.1, q.2, q.3))
      ]
  held (a_mark n) h =
      let a = IsIn-class n D (λ k. upto (rows_in D k) (λ i. cond ((view_at D k).violated i) (node k i ∷ []) [])) h in
      let b = IsIn-upto n (rows_in D a.0) (λ i. cond ((view_at D a.0).violated i) (node a.0 i ∷ []) []) a.2 in
      let c = IsIn-chosen ((view_at D a.0).violated b.0) (node a.0 b.0) n b.2 in
      (a.0, a.1, b.0, b.1, c.0, c.1)
