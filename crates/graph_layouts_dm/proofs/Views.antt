-- What a graph needs of a database: tables by number with their rows, keys and marks, and the layout that they make.
use Rattle.std.specs.Prelude.{ℕ, zero, suc, ◌≡◌, ◌≢◌, ◌<◌, ◌⊎◌, Bool, true, cond, List, [], ◌∷◌, ◌++◌, Option, codes, map}
use Rattle.std.specs.declared.option.Option.TheVariants.{None, Some}
use Rattle.std.specs.List.Sorted.{IsPermutation}
use Rattle.layouts_dm.specs.Layouts.{Class, ClassColumn, IsCanonical, IsGoodLink, IsGoodName, Layout, Part, property_iri, reference_link}
use Rattle.facts_dm.specs.Facts.{Fact, KindText, Link, Node, a_cell, a_class, a_domain, a_link, a_link_range, a_mark, a_node, a_property, a_range, an_object, link_iri, rel_link}
use Rattle.members_dm.specs.Membership.{IsIn, IsRising, NoRepeats}
use Rattle.value_dm.specs.declared.kind.Kind.{Kind}
use Rattle.layouts_dm.proofs.ReadingOff.{node_eq}
use Rattle.layouts_dm.specs.LayoutTables.{LiteralTable, in_order, is_before}
use Rattle.schema_dm.specs.Shapes.{IsBefore}
use Rattle.schema_dm.specs.Naming.{Name}
use Rattle.names_dm.specs.declared.names.RelName.{RelName}

-- a foreign key: whether row i of its table matches row j of its target
pub record KeyView : Type 0 where
  pub columns : List Name
  pub target : ℕ
  pub matches : ℕ → ℕ → Bool

-- a table that is a class: its columns in any order, and the cell of a row in the column of a name
pub record TableView : Type 0 where
  pub name : Name
  pub columns : List ClassColumn
  pub count : ℕ
  pub cell : ℕ → Name → Option KindText
  pub keys : List KeyView
  pub violated : ℕ → Bool
  -- the table is a class; else it is no part of the layout
  pub is_class : Bool

-- tables by their numbers, below a count
pub record Views : Type 0 where
  pub count : ℕ
  pub view : ℕ → TableView

-- a table that is a binary relation: its row i references row `left_row i` of the table `left`, and likewise on the right
pub record RelationView : Type 0 where
  pub name : RelName
  pub left : ℕ
  pub right : ℕ
  pub left_kind : Kind
  pub right_kind : Kind
  pub count : ℕ
  pub left_row : ℕ → ℕ
  pub right_row : ℕ → ℕ

-- the lists f 0, f 1, up to f (n - 1), joined
abbrev pub upto : {X : Type 0} → ℕ → (ℕ → List X) → List X
upto zero f = []
upto (suc n) f = upto n f ++ f n

abbrev pub numbered : {X : Type 0} → ℕ → (ℕ → X) → List X
numbered n f = upto n (λ i. f i ∷ [])

abbrev pub view_at : Views → ℕ → TableView
view_at D k = D.view k

-- a class stands at the number
abbrev pub IsClassAt : Views → ℕ → Type 0
IsClassAt D k = (k < D.count) × ((view_at D k).is_class ≡ true)

-- what a class has, and nothing of what is none
abbrev pub if_class : {X : Type 0} → Views → ℕ → List X → List X
if_class D k xs = cond (view_at D k).is_class xs []

-- the lists f 0, f 1 and so on of the classes, joined
abbrev pub each_class : {X : Type 0} → Views → (ℕ → List X) → List X
each_class D f = upto D.count (λ k. if_class D k (f k))

abbrev pub rows_in : Views → ℕ → ℕ
rows_in D k = (view_at D k).count

abbrev pub key_link : Views → ℕ → KeyView → Link
key_link D k y = reference_link (view_at D k).name y.columns

-- what the graph says; node k i is the node of row i of table k
abbrev pub MapFact : List ℕ → (ℕ → ℕ → Node) → Views → List RelationView → Fact → Type 0
MapFact base node D R (a_class t) = (k : ℕ) × (IsClassAt D k) × ((view_at D k).name ≡ t)
MapFact base node D R (a_property name) = (k : ℕ) × (IsClassAt D k) × ((view_at D k).name ≡ name.table) × (d : ClassColumn) × (IsIn d (view_at D k).columns) × (d.name ≡ name.column)
MapFact base node D R (an_object l) =
    ((k : ℕ) × (IsClassAt D k) × (y : KeyView) × (IsIn y (view_at D k).keys) × (key_link D k y ≡ l)) ⊎ ((r : RelationView) × (IsIn r R) × (rel_link r.name ≡ l))
MapFact base node D R (a_domain i t) =
    ((k : ℕ) × (IsClassAt D k) × ((view_at D k).name ≡ t) × (d : ClassColumn) × (IsIn d (view_at D k).columns) × (property_iri base t d.name ≡ i))
    ⊎ (((k : ℕ) × (IsClassAt D k) × ((view_at D k).name ≡ t) × (y : KeyView) × (IsIn y (view_at D k).keys) × (link_iri base (key_link D k y) ≡ i))
    ⊎ ((r : RelationView) × (IsIn r R) × (link_iri base (rel_link r.name) ≡ i) × ((view_at D r.left).name ≡ t)))
MapFact base node D R (a_range name l) = (k : ℕ) × (IsClassAt D k) × ((view_at D k).name ≡ name.table) × (d : ClassColumn) × (IsIn d (view_at D k).columns) × (d.name ≡ name.column) × (d.kind ≡ l)
MapFact base node D R (a_link_range l u) =
    ((k : ℕ) × (IsClassAt D k) × (y : KeyView) × (IsIn y (view_at D k).keys) × (key_link D k y ≡ l) × ((view_at D y.target).name ≡ u))
    ⊎ ((r : RelationView) × (IsIn r R) × (rel_link r.name ≡ l) × ((view_at D r.right).name ≡ u))
MapFact base node D R (a_node n t) = (k : ℕ) × (IsClassAt D k) × ((view_at D k).name ≡ t) × (i : ℕ) × (i < rows_in D k) × (node k i ≡ n)
MapFact base node D R (a_cell n name v) =
    (k : ℕ) × (IsClassAt D k) × ((view_at D k).name ≡ name.table) × (i : ℕ) × (i < rows_in D k) × (node k i ≡ n)
    × (d : ClassColumn) × (IsIn d (view_at D k).columns) × (d.name ≡ name.column) × ((view_at D k).cell i name.column ≡ Some v)
MapFact base node D R (a_link n l m) =
    ((k : ℕ) × (IsClassAt D k) × (y : KeyView) × (IsIn y (view_at D k).keys) × (key_link D k y ≡ l)
    × (i : ℕ) × (i < rows_in D k) × (j : ℕ) × (j < rows_in D y.target) × (y.matches i j ≡ true) × (node k i ≡ n) × (node y.target j ≡ m))
    ⊎ ((r : RelationView) × (IsIn r R) × (rel_link r.name ≡ l) × (i : ℕ) × (i < r.count) × (node r.left (r.left_row i) ≡ n) × (node r.right (r.right_row i) ≡ m))
MapFact base node D R (a_mark n) = (k : ℕ) × (IsClassAt D k) × (i : ℕ) × (i < rows_in D k) × ((view_at D k).violated i ≡ true) × (node k i ≡ n)

abbrev pub class_at : (ℕ → ℕ → Node) → Views → ℕ → Class
class_at node D k = record { name = (view_at D k).name; columns = (view_at D k).columns; nodes = numbered (rows_in D k) (λ i. node k i) }

-- where the rows are
abbrev pub located : (ℕ → ℕ → Node) → Views → List (Node × (ℕ × ℕ))
located node D = each_class D (λ k. numbered (rows_in D k) (λ i. (node k i, (k, i))))

abbrev pub look_up : {X : Type 0} → Node → List (Node × X) → Option X
look_up n [] = None
look_up n (p ∷ ps) = cond (node_eq p.0 n) (Some p.1) (look_up n ps)

abbrev pub cell_where : Views → Option (ℕ × ℕ) → Name → Option KindText
cell_where D None x = None
cell_where D (Some p) x = (view_at D p.0).cell p.1 x

abbrev pub pairs_of : (ℕ → ℕ → Node) → Views → ℕ → KeyView → List (Node × Node)
pairs_of node D k y = upto (rows_in D k) (λ i. upto (rows_in D y.target) (λ j. cond (y.matches i j) ((node k i, node y.target j) ∷ []) []))

abbrev pub key_part : (ℕ → ℕ → Node) → Views → ℕ → KeyView → Part
key_part node D k y = record { link = key_link D k y; from = (view_at D k).name; to = (view_at D y.target).name; pairs = pairs_of node D k y }

abbrev pub rel_part_of : (ℕ → ℕ → Node) → Views → RelationView → Part
rel_part_of node D r = record {
  link = rel_link r.name;
  from = (view_at D r.left).name;
  to = (view_at D r.right).name;
  pairs = numbered r.count (λ i. (node r.left (r.left_row i), node r.right (r.right_row i)));
}

abbrev pub layout_of : (ℕ → ℕ → Node) → Views → List RelationView → Layout
layout_of node D R = record {
  classes = each_class D (λ k. class_at node D k ∷ []);
  cell = λ n x. cell_where D (look_up n (located node D)) x;
  parts = each_class D (λ k. map (key_part node D k) (view_at D k).keys) ++ map (rel_part_of node D) R;
  marked = each_class D (λ k. upto (rows_in D k) (λ i. cond ((view_at D k).violated i) (node k i ∷ []) []));
}

-- different rows have different nodes
abbrev pub DifferentNodes : (ℕ → ℕ → Node) → Views → Type 0
DifferentNodes node D = (k i l j : ℕ) → IsClassAt D k → i < rows_in D k → IsClassAt D l → j < rows_in D l → node k i ≡ node l j → (k ≡ l) × (i ≡ j)

-- what a schema's causes and a database's typing give
pub record GoodData (node : ℕ → ℕ → Node) (D : Views) : Type 0 where
  pub nodes : DifferentNodes node D
  pub names : (k l : ℕ) → IsClassAt D k → IsClassAt D l → (view_at D k).name ≡ (view_at D l).name → k ≡ l
  pub columns : (k : ℕ) → IsClassAt D k → NoRepeats (map (λ d. d.name) (view_at D k).columns)
  pub some_column : (k : ℕ) → IsClassAt D k → (d : ClassColumn) × IsIn d (view_at D k).columns
  pub good_name : (k : ℕ) → IsClassAt D k → IsGoodName (view_at D k).name
  pub good_columns : (k : ℕ) (d : ClassColumn) → IsClassAt D k → IsIn d (view_at D k).columns → IsGoodName d.name
  pub cells : (k i : ℕ) (d : ClassColumn) (v : KindText) → IsClassAt D k → i < rows_in D k → IsIn d (view_at D k).columns → (view_at D k).cell i d.name ≡ Some v → (v.kind ≡ d.kind) × IsCanonical v
  pub keys : (k : ℕ) → IsClassAt D k → NoRepeats (map (λ y. y.columns) (view_at D k).keys)
  pub targets : (k : ℕ) (y : KeyView) → IsClassAt D k → IsIn y (view_at D k).keys → IsClassAt D y.target
  pub some_key_column : (k : ℕ) (y : KeyView) → IsClassAt D k → IsIn y (view_at D k).keys → (c : Name) × IsIn c y.columns
  pub key_columns_distinct : (k : ℕ) (y : KeyView) → IsClassAt D k → IsIn y (view_at D k).keys → NoRepeats y.columns
  pub key_columns : (k : ℕ) (y : KeyView) (c : Name) → IsClassAt D k → IsIn y (view_at D k).keys → IsIn c y.columns → (d : ClassColumn) × (IsIn d (view_at D k).columns) × (d.name ≡ c)
  pub no_clash : (k : ℕ) (y : KeyView) (x : Name) (d : ClassColumn) → IsClassAt D k → IsIn y (view_at D k).keys → y.columns ≡ x ∷ [] → IsIn d (view_at D k).columns → d.name ≢ codes "ref-" ++ x

-- what kept keys give of one binary relation
pub record GoodRel (D : Views) (r : RelationView) : Type 0 where
  pub good : IsGoodLink (rel_link r.name)
  pub left : IsClassAt D r.left
  pub right : IsClassAt D r.right
  pub left_row : (i : ℕ) → i < r.count → r.left_row i < rows_in D r.left
  pub right_row : (i : ℕ) → i < r.count → r.right_row i < rows_in D r.right
  pub two : r.name.left ≢ r.name.right
  pub no_class : (k : ℕ) → IsClassAt D k → (view_at D k).name ≢ r.name.table
  pub left_column : (d : ClassColumn) × (IsIn d (view_at D r.left).columns) × (d.name ≡ r.name.left_target) × (d.kind ≡ r.left_kind)
  pub right_column : (d : ClassColumn) × (IsIn d (view_at D r.right).columns) × (d.name ≡ r.name.right_target) × (d.kind ≡ r.right_kind)
  pub left_value : (i : ℕ) → i < r.count → (v : KindText) × ((view_at D r.left).cell (r.left_row i) r.name.left_target ≡ Some v)
  pub right_value : (i : ℕ) → i < r.count → (v : KindText) × ((view_at D r.right).cell (r.right_row i) r.name.right_target ≡ Some v)
  -- the primary key is the two columns, so no two rows reference the same two rows
  pub one_row : (i j : ℕ) → i < r.count → j < r.count → r.left_row i ≡ r.left_row j → r.right_row i ≡ r.right_row j → i ≡ j

pub record GoodRels (D : Views) (R : List RelationView) : Type 0 where
  pub names : NoRepeats (map (λ r. r.name.table) R)
  pub each : (r : RelationView) → IsIn r R → GoodRel D r

abbrev pub IsPlainClass : Views → LiteralTable → Type 0
IsPlainClass D T =
    (k : ℕ) × (IsClassAt D k) × (T.name ≡ (view_at D k).name) × (T.columns ≡ (view_at D k).columns)
    × IsPermutation T.rows (numbered (rows_in D k) (λ i. map (λ d. (view_at D k).cell i d.name) (view_at D k).columns))

-- a row of a relation has the values of the rows that it references
abbrev pub IsPlainRel : Views → List RelationView → LiteralTable → Type 0
IsPlainRel D R T =
    (r : RelationView) × (IsIn r R) × (T.name ≡ r.name.table)
    × (T.columns ≡ in_order (is_before r.name.left r.name.right) (record { name = r.name.left; kind = r.left_kind }) (record { name = r.name.right; kind = r.right_kind }))
    × IsPermutation T.rows (numbered r.count (λ i. in_order (is_before r.name.left r.name.right)
    ((view_at D r.left).cell (r.left_row i) r.name.left_target) ((view_at D r.right).cell (r.right_row i) r.name.right_target)))

-- the tables and columns in order, each with its rows
pub record Plain (D : Views) (R : List RelationView) (Ts : List LiteralTable) : Type 0 where
  pub rising : IsRising IsBefore (map (λ T. T.name) Ts)
  pub columns : (k : ℕ) → IsClassAt D k → IsRising (λ (x y : ClassColumn). IsBefore x.name y.name) (view_at D k).columns
  pub only : (T : LiteralTable) → IsIn T Ts → IsPlainClass D T ⊎ IsPlainRel D R T
  pub all : (k : ℕ) → IsClassAt D k → IsIn (view_at D k).name (map (λ T. T.name) Ts)
  pub all_relations : (r : RelationView) → IsIn r R → IsIn r.name.table (map (λ T. T.name) Ts)
