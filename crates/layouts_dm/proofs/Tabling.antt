-- The tables of a well-formed layout can't fail to be, so a graph without a bad triple stands for tables.
use Rattle.std.specs.Prelude.{◌≢◌, ◌↔◌}
use Rattle.std.proofs.Common.{◌≡◌, ℕ, zero, suc, ◌<◌, List, [], ◌∷◌, ◌++◌, Option, Some, None, Bool, true, false, map, length, refl, sym, ap, ◌∙◌, subst, inl, inr, arith}
use Rattle.std.specs.List.{AllZip}
use Rattle.std.specs.List.Sorted.{IsPermutation}
use Rattle.std.specs.Option.{option_map}
use Rattle.std.proofs.lemmas.Bool.Decides.{eqb_tells}
use Rattle.std.proofs.lemmas.List.{length-map}
use Rattle.std.proofs.lemmas.List.Sorted.{IsPermutation-refl}
use Rattle.members_dm.specs.Membership.{IsIn, IsRising, NoRepeats}
use Rattle.members_dm.proofs.ElementsLemmas.{each_from_items, one_by_key}
use Rattle.members_dm.proofs.MembershipLemmas.{IsIn-append, IsIn-back, IsIn-front, IsIn-map, map-IsIn}
use Rattle.schema_dm.specs.Naming.{Name, column_names}
use Rattle.schema_dm.specs.Shapes.{IsBefore, IsShapeColumn}
use Rattle.schema_dm.specs.declared.draft.Column.{Column}
use Rattle.schema_dm.proofs.RisingNames.{before_chain}
use Rattle.names_dm.specs.Statements.{Statement}
use Rattle.names_dm.specs.declared.names.RefName.{RefName}
use Rattle.names_dm.specs.declared.names.RelName.{RelName}
use Rattle.facts_dm.specs.Facts.{KindText, Link, Node, ref_link, rel_link}
use Rattle.facts_dm.specs.Meanings.{NamingLaws}
use Rattle.table_csv.specs.Cells.{IsRowOf, Row}
use Rattle.table_csv.specs.Plain.{PlainTable}
use Rattle.layouts_dm.specs.Layouts.{Class, ClassColumn, GoodLink, GoodRelation, HasColumn, HasNode, IsCanonical, IsGoodLink, IsGoodName, Layout, Part, WellFormed}
use Rattle.layouts_dm.specs.LayoutTables.{AreOfShape, AreTablesOf, IsOfShape, IsTableOf, LiteralTable, SameTable, StandsFor, class_column, class_table, in_order, is_before, literal_table, relation_table, value_text}
use Rattle.layouts_dm.specs.Outcomes.{Applies, Cause, FirstBad}
use Rattle.layouts_dm.proofs.Accepting.{accepted}
use Rattle.layouts_dm.proofs.Choosing.{Surely, found, keys_of, next, surely, zip_made, zipped, zipped_back}
use Rattle.layouts_dm.proofs.Outcomes.{some_class}
use Rattle.layouts_dm.proofs.ReadingOff.{some_layout}
use Rattle.layouts_dm.proofs.Sorting.{before_false, before_true, in_order_of, name_order, rising_map}
use Rattle.layouts_dm.proofs.Sound as sound

-- ---- a table of values from one of literals

abbrev CellFor : ClassColumn → Option KindText → Type 0
CellFor d None = Unit {0}
CellFor d (Some v) = (v.kind ≡ d.kind) × IsCanonical v

record IsGoodTable (T : LiteralTable) : Type 0 where
  name : IsGoodName T.name
  some : 0 < length T.columns
  names : (d : ClassColumn) → IsIn d T.columns → IsGoodName d.name
  rising : IsRising IsBefore (map (λ d. d.name) T.columns)
  rows : (row : List (Option KindText)) → IsIn row T.rows → AllZip CellFor T.columns row

abbrev column_of : ClassColumn → Column
column_of d = record { name = d.name; kind = d.kind; not_null = false }

columns_back : (ds : List ClassColumn) → map class_column (map column_of ds) ≡ ds
columns_back [] = refl
columns_back (d ∷ ds) = ap (λ xs. d ∷ xs) (columns_back ds)

names_back : (ds : List ClassColumn) → map (λ (d : ClassColumn). d.name) ds ≡ column_names (map column_of ds)
names_back [] = refl
names_back (d ∷ ds) = ap (λ xs. d.name ∷ xs) (names_back ds)

abbrev literals : Row → List (Option KindText)
literals row = map (option_map value_text) row

value_row : (ds : List ClassColumn) (cells : List (Option KindText)) → AllZip CellFor ds cells → (row : Row) × (cells ≡ literals row) × IsRowOf (map column_of ds) row
value_row [] [] h = ([], refl, tt)
value_row [] (c ∷ cells) h = absurd h
value_row (d ∷ ds) [] h = absurd h
value_row (d ∷ ds) (None ∷ cells) h = let rest = value_row ds cells h.1 in (None ∷ rest.0, ap (λ xs. None ∷ xs) rest.1, (refl, rest.2))
value_row (d ∷ ds) (Some v ∷ cells) h =
    let rest = value_row ds cells h.1 in
    let canonical = h.0.1 in
    let same : v ≡ value_text canonical.0 = λ i. record { kind = sym canonical.2 i; text = sym canonical.3 i } in
    (Some canonical.0 ∷ rest.0, (λ i. Some (same i) ∷ rest.1 i), ((canonical.2 ∙ h.0.0, canonical.1), rest.2))

ids : {X : Type 0} (xs : List X) → xs ≡ map (λ x. x) xs
ids [] = refl
ids (x ∷ xs) = ap (λ ys. x ∷ ys) (ids xs)

value_table : (T : LiteralTable) → IsGoodTable T → (plain : PlainTable) × IsOfShape plain × SameTable (literal_table plain) T
value_table T good =
    let IsFor : List (Option KindText) → Row → Type 0 = λ cells row. (cells ≡ literals row) × IsRowOf (map column_of T.columns) row in
    let rows = zip_made IsFor T.rows (λ cells i. let r = value_row T.columns cells (good.rows cells i) in (r.0, (r.1, r.2))) in
    let same : T.rows ≡ map literals rows.0 = ids T.rows ∙ keys_of IsFor (λ cells. cells) literals (λ cells row h. h.0) T.rows rows.0 rows.1 in
    let long : length (map column_of T.columns) ≡ length T.columns = length-map T.columns column_of in (
      record { shape = record { name = T.name; columns = map column_of T.columns }; rows = rows.0 },
      record {
        name = good.name;
        some = subst (λ n. 0 < n) (sym long) good.some;
        rising = subst (IsRising IsBefore) (names_back T.columns) good.rising;
        columns = λ column i. let d = IsIn-map column_of column T.columns i in subst IsShapeColumn d.2 (good.names d.0 d.1, refl);
        rows = each_from_items (IsRowOf (map column_of T.columns)) rows.0 (λ row i. (zipped_back IsFor T.rows rows.0 rows.1 row i).2.1);
      },
      record {
        name = refl;
        columns = columns_back T.columns;
        rows = subst (λ xs. IsPermutation xs T.rows) same (IsPermutation-refl T.rows);
      },
    )

-- ---- two columns in the order of their names

some_in_order : {X : Type 0} (b : Bool) (x y : X) → 0 < length (in_order b x y)
some_in_order true x y = omega arith
some_in_order false x y = omega arith

in_order_items : {X : Type 0} (P : X → Type 0) (b : Bool) (x y : X) → P x → P y → (z : X) → IsIn z (in_order b x y) → P z
in_order_items P true x y p q z (inl e) = subst P e p
in_order_items P true x y p q z (inr (inl e)) = subst P e q
in_order_items P true x y p q z (inr (inr h)) = absurd h
in_order_items P false x y p q z (inl e) = subst P e q
in_order_items P false x y p q z (inr (inl e)) = subst P e p
in_order_items P false x y p q z (inr (inr h)) = absurd h

in_order_zip : {X Y : Type 0} (R : X → Y → Type 0) (b : Bool) (x y : X) (z w : Y) → R x z → R y w → AllZip R (in_order b x y) (in_order b z w)
in_order_zip R true x y z w h g = (h, (g, tt))
in_order_zip R false x y z w h g = (g, (h, tt))

two_rising : (x y : Name) → IsBefore x y → IsRising IsBefore (x ∷ y ∷ [])
two_rising x y h = ((λ z i. elim i [ inl e ↦ subst (IsBefore x) e h | inr k ↦ absurd k ]), ((λ z i. absurd i), tt))

in_order_rising : (c d : ClassColumn) → c.name ≢ d.name → IsRising IsBefore (map (λ (x : ClassColumn). x.name) (in_order (is_before c.name d.name) c d))
in_order_rising c d apart = elim (name_order c.name d.name) [
  | inl e ↦ absurd (apart e)
  | inr h ↦ elim h [
    | inl before ↦ subst (λ b. IsRising IsBefore (map (λ (x : ClassColumn). x.name) (in_order b c d))) (sym (before_true c.name d.name before)) (two_rising c.name d.name before)
    | inr after ↦ subst (λ b. IsRising IsBefore (map (λ (x : ClassColumn). x.name) (in_order b c d))) (sym (before_false c.name d.name after)) (two_rising d.name c.name after)
  ]
]

-- ---- the tables of a layout

some_item : {X : Type 0} (x : X) (xs : List X) → IsIn x xs → 0 < length xs
some_item x [] i = absurd i
some_item x (y ∷ ys) i = omega arith

cell_for : (d : ClassColumn) (cell : Option KindText) → ((v : KindText) → cell ≡ Some v → (v.kind ≡ d.kind) × IsCanonical v) → CellFor d cell
cell_for d None h = tt
cell_for d (Some v) h = h v refl

cells_for : (f : ClassColumn → Option KindText) (ds : List ClassColumn) → ((d : ClassColumn) → IsIn d ds → CellFor d (f d)) → AllZip CellFor ds (map f ds)
cells_for f [] h = tt
cells_for f (d ∷ ds) h = (h d (inl refl), cells_for f ds (λ e i. h e (inr i)))

table_names : (tables : List PlainTable) → map (λ (p : PlainTable). p.shape.name) tables ≡ map (λ (T : LiteralTable). T.name) (map literal_table tables)
table_names [] = refl
table_names (p ∷ tables) = ap (λ xs. p.shape.name ∷ xs) (table_names tables)

module _ (L : Layout) (w : WellFormed L) (rising : (c : Class) → IsIn c L.classes → IsRising (λ (x y : ClassColumn). IsBefore x.name y.name) c.columns) where
  -- a table of the layout by the rules of a shape
  abbrev IsMade : PlainTable → Type 0
  IsMade plain = IsOfShape plain × IsTableOf L (literal_table plain)

  good_class : (c : Class) → IsIn c L.classes → IsGoodTable (class_table L c)
  good_class c i = record {
    name = w.class_names c i;
    some = let d = w.some_column c i in some_item d.0 c.columns d.1;
    names = λ d j. w.column_names c d i j;
    rising = rising_map (λ (d : ClassColumn). d.name) c.columns (rising c i);
    rows = λ row j.
        let n = IsIn-map (λ n. map (λ (d : ClassColumn). L.cell n d.name) c.columns) row c.nodes j in
        subst (AllZip CellFor c.columns) n.2 (cells_for (λ d. L.cell n.0 d.name) c.columns (λ d k. cell_for d (L.cell n.0 d.name) (λ v e. w.cells c n.0 d v i n.1 k e)));
  }

  class_made : (c : Class) → IsIn c L.classes → (plain : PlainTable) × (IsMade plain × (c.name ≡ plain.shape.name))
  class_made c i = let t = value_table (class_table L c) (good_class c i) in (t.0, ((t.1, inl (c, i, t.2)), sym t.2.name))

  -- the value of a node in a column of its class
  node_cell : (t x : Name) (h : HasColumn L t x) (name : Name) (n : Node) → HasNode L t n → CellFor (record { name = name; kind = h.3.kind }) (L.cell n x)
  node_cell t x h name n g =
      let same : g.0 ≡ h.0 = one_by_key (λ (c : Class). c.name) L.classes w.classes g.0 h.0 g.1 h.1 (g.2 ∙ sym h.2) in
      let there : IsIn n h.0.nodes = subst (λ (c : Class). IsIn n c.nodes) same g.3 in
      cell_for (record { name = name; kind = h.3.kind }) (L.cell n x) (λ v e. w.cells h.0 n h.3 v h.1 there h.4 (ap (L.cell n) h.5 ∙ e))

  relation_made : (p : Part) (q : RelName) → IsIn p L.parts → p.link ≡ rel_link q → (plain : PlainTable) × (IsMade plain × (q.table ≡ plain.shape.name))
  relation_made p q i e =
      let g : GoodRelation L p q = subst (GoodLink L p) e (w.good p i) in
      let names = subst IsGoodRel e (w.link_names p i) in
      let h = g.left in
      let k = g.right in
      let left : ClassColumn = record { name = q.left; kind = h.3.kind } in
      let right : ClassColumn = record { name = q.right; kind = k.3.kind } in
      let T = relation_table L p q h.3.kind k.3.kind in
      let b = is_before q.left q.right in
      let good : IsGoodTable T = record {
        name = names.0;
        some = some_in_order b left right;
        names = λ d j. in_order_items (λ (c : ClassColumn). IsGoodName c.name) b left right names.1 names.3 d j;
        rising = in_order_rising left right g.two;
        rows = λ row j.
            let a = IsIn-map {X = Node × Node} (λ (a : Node × Node). in_order b (L.cell a.0 q.left_target) (L.cell a.1 q.right_target)) row p.pairs j in
            let nodes = w.pair_nodes p a.0.0 a.0.1 i a.1 in
            subst (AllZip CellFor (in_order b left right)) a.2
            (in_order_zip CellFor b left right (L.cell a.0.0 q.left_target) (L.cell a.0.1 q.right_target)
            (node_cell p.from q.left_target h q.left a.0.0 nodes.0) (node_cell p.to q.right_target k q.right a.0.1 nodes.1));
      } in
      let t = value_table T good in
      (t.0, ((t.1, inr (p, q, h.3.kind, k.3.kind, i, e, (h.0, h.1, h.2, h.3, h.4, h.5, refl), (k.0, k.1, k.2, k.3, k.4, k.5, refl), t.2)), sym t.2.name))
    where
      IsGoodRel : Link → Type 0
      IsGoodRel l = IsGoodLink l

  -- the tables of the relations among some parts
  record RelationTables (ps : List Part) : Type 0 where
    tables : List PlainTable
    made : (plain : PlainTable) → IsIn plain tables → IsMade plain
    all : (p : Part) (q : RelName) → IsIn p ps → p.link ≡ rel_link q → (plain : PlainTable) × IsIn plain tables × (q.table ≡ plain.shape.name)

  relation_tables : (ps : List Part) → ((p : Part) → IsIn p ps → IsIn p L.parts) → RelationTables ps
  relation_tables [] within = record { tables = []; made = λ plain i. absurd i; all = λ p q i. absurd i }
  relation_tables (p ∷ ps) within = go (relation_tables ps (λ r i. within r (inr i))) p.link refl
    where
      one_relation : (q q' : RelName) → rel_link q ≡ rel_link q' → q ≡ q'
      one_relation q q' e = cc

      no_relation : (r : RefName) (q : RelName) → ref_link r ≡ rel_link q → ⊥
      no_relation r q e = cc

      go : RelationTables ps → (l : Link) → p.link ≡ l → RelationTables (p ∷ ps)
      go rest (ref_link r) e = record {
        tables = rest.tables;
        made = rest.made;
        all = λ o q i f. elim i [ inl s ↦ absurd (no_relation r q (sym e ∙ ap (λ (z : Part). z.link) s ∙ f)) | inr j ↦ rest.all o q j f ];
      }
      go rest (rel_link q) e =
          let m = relation_made p q (within p (inl refl)) e in
          record {
            tables = m.0 ∷ rest.tables;
            made = λ plain i. elim i [ inl s ↦ subst IsMade s m.1.0 | inr j ↦ rest.made plain j ];
            all = λ o q' i f. elim i [
              | inl s ↦ (let same : q ≡ q' = one_relation q q' (sym e ∙ ap (λ (z : Part). z.link) s ∙ f) in (m.0, inl refl, ap (λ (z : RelName). z.table) (sym same) ∙ m.1.1))
              | inr j ↦ (let r = rest.all o q' j f in (r.0, inr r.1, r.2))
            ];
          }

  record AllTables : Type 0 where
    tables : List PlainTable
    made : (plain : PlainTable) → IsIn plain tables → IsMade plain
    classes : (c : Class) → IsIn c L.classes → IsIn c.name (map (λ (p : PlainTable). p.shape.name) tables)
    relations : (p : Part) (q : RelName) → IsIn p L.parts → p.link ≡ rel_link q → IsIn q.table (map (λ (p : PlainTable). p.shape.name) tables)

  all_tables : AllTables
  all_tables =
      let IsFor : Class → PlainTable → Type 0 = λ c plain. IsMade plain × (c.name ≡ plain.shape.name) in
      let cs = zip_made IsFor L.classes class_made in
      let rs = relation_tables L.parts (λ p i. i) in
      let name : PlainTable → Name = λ p. p.shape.name in
      record {
        tables = cs.0 ++ rs.tables;
        made = λ plain i. elim (IsIn-append plain cs.0 rs.tables i) [ inl j ↦ (zipped_back IsFor L.classes cs.0 cs.1 plain j).2.0 | inr j ↦ rs.made plain j ];
        classes = λ c i. let z = zipped IsFor L.classes cs.0 cs.1 c i in subst (λ n. IsIn n (map name (cs.0 ++ rs.tables))) (sym z.2.1) (map-IsIn name z.0 (cs.0 ++ rs.tables) (IsIn-front z.0 cs.0 rs.tables z.1));
        relations = λ p q i e. let z = rs.all p q i e in subst (λ n. IsIn n (map name (cs.0 ++ rs.tables))) (sym z.2) (map-IsIn name z.0 (cs.0 ++ rs.tables) (IsIn-back z.0 cs.0 rs.tables z.1));
      }

  -- the tables in the order of their names
  pub some_tables : (c : Class) → IsIn c L.classes → Surely ((tables : List PlainTable) × AreOfShape tables × AreTablesOf L (map literal_table tables))
  some_tables c i = next (found (λ (n : Name). n) (λ m n e. e) (map (λ (p : PlainTable). p.shape.name) all.tables)) (λ f. surely (make f.items f.once (λ n. f.same n)))
    where
      all : AllTables
      all = all_tables

      IsNamed : Name → PlainTable → Type 0
      IsNamed n plain = IsIn plain all.tables × (n ≡ plain.shape.name)

      named : (n : Name) → IsIn n (map (λ (p : PlainTable). p.shape.name) all.tables) → (plain : PlainTable) × IsNamed n plain
      named n h = let m = IsIn-map (λ (p : PlainTable). p.shape.name) n all.tables h in (m.0, (m.1, sym m.2))

      make : (names : List Name) → NoRepeats names → ((n : Name) → IsIn n names ↔ IsIn n (map (λ (p : PlainTable). p.shape.name) all.tables))
          → (tables : List PlainTable) × AreOfShape tables × AreTablesOf L (map literal_table tables)
      make names once same =
          let sorted = in_order_of IsBefore before_chain names once (λ x y a b. name_order x y) in
          let ts = zip_made IsNamed sorted.sorted (λ n h. named n ((same n).0 ((sorted.same n).1 h))) in
          let keys : map (λ (n : Name). n) sorted.sorted ≡ map (λ (p : PlainTable). p.shape.name) ts.0 = keys_of IsNamed (λ n. n) (λ (p : PlainTable). p.shape.name) (λ n p h. h.1) sorted.sorted ts.0 ts.1 in
          let order : IsRising IsBefore (map (λ (p : PlainTable). p.shape.name) ts.0) = subst (IsRising IsBefore) (ids sorted.sorted ∙ keys) sorted.rising in
          let there : (n : Name) → IsIn n (map (λ (p : PlainTable). p.shape.name) all.tables) → IsIn n (map (λ (T : LiteralTable). T.name) (map literal_table ts.0)) =
          λ n h. subst (λ ns. IsIn n ns) (ids sorted.sorted ∙ keys ∙ table_names ts.0) ((sorted.same n).0 ((same n).1 h)) in
          let from : (plain : PlainTable) → IsIn plain ts.0 → IsMade plain = λ plain h. all.made plain (zipped_back IsNamed sorted.sorted ts.0 ts.1 plain h).2.0 in
          let first = zipped IsNamed sorted.sorted ts.0 ts.1 c.name ((sorted.same c.name).0 ((same c.name).1 (all.classes c i))) in (
            ts.0,
            record { some = some_item first.0 ts.0 first.1; rising = order; each = λ plain h. (from plain h).0 },
            record {
              rising = subst (IsRising IsBefore) (table_names ts.0) order;
              columns = rising;
              only = λ T h. let m = IsIn-map literal_table T ts.0 h in subst (IsTableOf L) m.2 (from m.0 m.1).1;
              classes = λ d j. there d.name (all.classes d j);
              relations = λ p q j e. there q.table (all.relations p q j e);
            },
          )

-- ---- outcomes

module _ (base : List ℕ) (laws : NamingLaws base) (G : List Statement) where
  stands_surely : (x : Statement) → IsIn x G → ((i : ℕ) (c : Cause) → ¬ Applies base G i c) → Surely ((tables : List PlainTable) × StandsFor base G tables)
  stands_surely x h none =
      next (accepted base laws G none) (λ a.
      next (some_layout base laws G a) (λ l.
      let k = some_class base laws G a x h in
      let c = l.1.classes k.0 k.1 in
      next (some_tables l.0 (sound.well_formed base laws l.0 G a l.1) l.2 c.0 c.1) (λ t.
      surely (
        t.0,
        record {
          layout = l.0;
          well_formed = sound.well_formed base laws l.0 G a l.1;
          some_class = (c.0, c.1);
          describes = sound.describes base laws l.0 G a l.1;
          of_shape = t.1;
          are = t.2;
        },
      ))))

  none_below : ((i : ℕ) (c : Cause) → ¬ FirstBad base G i c) → (n j : ℕ) → j < n → (c : Cause) → ¬ Applies base G j c
  none_below never zero j below = absurd (omega arith)
  none_below never (suc n) j below = elim (eqb_tells j n) [
    | inl e ↦ (λ c h. never j c (record { before = λ k earlier l. none_below never n k (let same : j ≡ n = e.1 in omega arith) earlier; applies = h }))
    | inr e ↦ none_below never n j (let apart : j ≢ n = e.1 in omega arith)
  ]

  -- where there is a triple and none is bad, the graph stands for tables
  pub some_outcome : G ≢ [] → ((i : ℕ) (c : Cause) → ¬ FirstBad base G i c) → ¬ ((tables : List PlainTable) → ¬ StandsFor base G tables)
  some_outcome some never not_any = go G refl
    where
      go : (H : List Statement) → G ≡ H → ⊥
      go [] e = some e
      go (x ∷ xs) e =
          stands_surely x (subst (λ H. IsIn x H) (sym e) (inl refl)) (λ i c. none_below never (suc i) i (omega arith) c) (λ t. not_any t.0 t.1)
