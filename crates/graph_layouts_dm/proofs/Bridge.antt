-- The views of a database, and what the schema's validity gives of them.
use Rattle.std.proofs.Common.{◌≡◌, ℕ, ◌<◌, Bool, true, List, [], ◌∷◌, ◌++◌, map, length, get_or, refl, sym, ap, ◌∙◌, subst, inl, inr, arith, Some, None, Option}
use Rattle.std.specs.Prelude.{◌≢◌, ◌↔◌, codes, slice_get, slice_index_or}
use Rattle.std.specs.List.{Any}
use Rattle.std.specs.Option.{option_map}
use Rattle.std.proofs.lemmas.List.Elements.{All-get_or}
use Rattle.std.proofs.lemmas.Option.{get_or_from_slice_get, slice_get-get_or, slice_get-map, slice_get_within}
use Rattle.members_dm.specs.Membership.{IsIn, IsRising, NoRepeats}
use Rattle.members_dm.proofs.AnyLemmas.{any_from_item}
use Rattle.members_dm.proofs.ElementsLemmas.{NoRepeats-map, item_at_index, item_within, one_index}
use Rattle.members_dm.proofs.MembershipLemmas.{IsIn-map, map-IsIn, rising-NoRepeats}
use Rattle.schema_dm.specs.Naming.{Name, column_place, name_at}
use Rattle.schema_dm.specs.Schemas.{IsForeignKey, IsTable, no_table, table_at}
use Rattle.schema_dm.specs.Shapes.{IsBefore}
use Rattle.schema_dm.specs.declared.draft.Column.{Column}
use Rattle.schema_dm.specs.declared.table.ForeignKey.{ForeignKey}
use Rattle.schema_dm.specs.declared.table.Table.{Table}
use Rattle.facts_dm.specs.Facts.{KindText}
use Rattle.table_csv.specs.Cells.{AreRowsOf, Cell, IsCellOf, IsRowOf, Row}
use Rattle.table_csv.specs.Databases.{Data, IsDatabase, rows_at}
use Rattle.table_csv.proofs.Zips.{zipped_at}
use Rattle.keys_dm.specs.KeyCells.{row_at}
use Rattle.layouts_dm.specs.LayoutTables.{value_text, class_column}
use Rattle.graphs_dm.specs.Nodes.{row_node}
use Rattle.graphs_dm.specs.OwnNodes.{RowsHaveOwnNodes}
use Rattle.layouts_dm.specs.Layouts.{ClassColumn, IsCanonical, IsGoodName}
use Rattle.graphs_dm.specs.Relations.{CountsAsClass}
use Rattle.graphs_dm.specs.declared.graph_name.GraphName.{GraphName}
use Rattle.graphs_dm.specs.declared.graph_name.GraphName.TheVariants.{MapKeys, Map, Direct}
use Rattle.graph_layouts_dm.proofs.Views.{GoodData, IsClassAt, KeyView, TableView, Views}
use Rattle.graph_layouts_dm.proofs.Columns.{column_there, name_at_is, one_list, one_place, place_is}
use Rattle.graph_layouts_dm.proofs.MapStands.{map_map}
use Rattle.layouts_dm.proofs.Unique.{before_one_way}

-- the table's columns, each by its name and kind, in rising order of names
pub record SortedColumns (table : Table) (columns : List ClassColumn) : Type 0 where
  pub all : (k : ℕ) (c : Column) → slice_get table.columns k ≡ Some c → IsIn (class_column c) columns
  pub only : (d : ClassColumn) → IsIn d columns → (k : ℕ) × (c : Column) × (slice_get table.columns k ≡ Some c) × (class_column c ≡ d)
  pub rising : IsRising IsBefore (map (λ d. d.name) columns)

-- which tables are classes, the columns of each in order, which rows match and which are marked
pub record Choices : Type 0 where
  pub columns : ℕ → List ClassColumn
  pub is_class : ℕ → Bool
  pub matches : ℕ → ForeignKey → ℕ → ℕ → Bool
  pub violated : ℕ → ℕ → Bool

abbrev pub key_view : Choices → Data → ℕ → ForeignKey → KeyView
key_view choices D t key = record {
  columns = map (name_at (table_at D.tables t).columns) key.columns;
  target = key.target;
  matches = choices.matches t key;
}

abbrev pub cell_view : Data → ℕ → ℕ → Name → Option KindText
cell_view D t i x = option_map value_text (slice_index_or (row_at (rows_at D.rows t) i) (column_place (table_at D.tables t).columns x) None)

abbrev pub table_view : Choices → Data → ℕ → TableView
table_view choices D t = record {
  name = (table_at D.tables t).name;
  columns = choices.columns t;
  count = length (rows_at D.rows t);
  cell = cell_view D t;
  keys = map (key_view choices D t) (table_at D.tables t).foreign;
  violated = choices.violated t;
  is_class = choices.is_class t;
}

abbrev pub views_of : Choices → Data → Views
views_of choices D = record { count = length D.tables; view = table_view choices D }

some_is : {X : Type 0} (x y : X) → Some x ≡ Some y → x ≡ y
some_is x y e = cc

value_of_cell : (c : Column) (cell : Cell) (v : KindText) → IsCellOf c cell → option_map value_text cell ≡ Some v → (v.kind ≡ c.kind) × IsCanonical v
value_of_cell c None v is e = absurd (cc)
value_of_cell c (Some w) v is e =
    let same : value_text w ≡ v = some_is (value_text w) v e in
    (sym (ap (λ (x : KindText). x.kind) same) ∙ is.0, subst IsCanonical same (w, is.1, refl, refl))

module _ (graph : GraphName) (base : List ℕ) (D : Data) (database : IsDatabase D) (own : RowsHaveOwnNodes base D) (choices : Choices)
    (sorted : (t : ℕ) → t < length D.tables → SortedColumns (table_at D.tables t) (choices.columns t))
    (tells_class : (t : ℕ) → t < length D.tables → (choices.is_class t ≡ true) ↔ CountsAsClass graph D.tables t) where
  abbrev V : Views
  V = views_of choices D

  pub is_table : (t : ℕ) → t < length D.tables → IsTable D.tables (table_at D.tables t)
  is_table t below = database.schema.each (table_at D.tables t) (item_within D.tables t no_table below)

  are_rows : (t : ℕ) → t < length D.tables → AreRowsOf (table_at D.tables t).columns (rows_at D.rows t)
  are_rows t below = zipped_at (λ (table : Table) (rows : List Row). AreRowsOf table.columns rows) D.tables D.rows t no_table [] database.rows below

  pub is_row : (t i : ℕ) → t < length D.tables → i < length (rows_at D.rows t) → IsRowOf (table_at D.tables t).columns (row_at (rows_at D.rows t) i)
  is_row t i in_table in_rows = All-get_or (IsRowOf (table_at D.tables t).columns) (rows_at D.rows t) i [] in_rows (are_rows t in_table).each

  pub one_table : (t u : ℕ) → t < length D.tables → u < length D.tables → (table_at D.tables t).name ≡ (table_at D.tables u).name → t ≡ u
  one_table t u in_t in_u e =
      one_index (map (λ (table : Table). table.name) D.tables) (table_at D.tables t).name t u database.schema.names
      (slice_get-map (λ (table : Table). table.name) D.tables t ∙ ap (option_map (λ (table : Table). table.name)) (slice_get-get_or D.tables t no_table in_t))
      (slice_get-map (λ (table : Table). table.name) D.tables u ∙ ap (option_map (λ (table : Table). table.name)) (slice_get-get_or D.tables u no_table in_u) ∙ ap Some (sym e))

  pub key_from : (t : ℕ) (y : KeyView) → IsIn y (table_view choices D t).keys → (key : ForeignKey) × IsIn key (table_at D.tables t).foreign × (key_view choices D t key ≡ y)
  key_from t y h = IsIn-map (key_view choices D t) y (table_at D.tables t).foreign h

  lawful_key : (t : ℕ) (key : ForeignKey) → t < length D.tables → IsIn key (table_at D.tables t).foreign → IsForeignKey D.tables (table_at D.tables t) key
  lawful_key t key in_t h = (is_table t in_t).foreign key h

  cells : (k i : ℕ) (d : ClassColumn) (v : KindText) → IsClassAt V k → i < length (rows_at D.rows k) → IsIn d (choices.columns k) → cell_view D k i d.name ≡ Some v → (v.kind ≡ d.kind) × IsCanonical v
  cells k i d v c below h e =
      let s = (sorted k c.0).only d h in
      let table = table_at D.tables k in
      let place : column_place table.columns d.name ≡ s.0 = ap (λ (x : ClassColumn). column_place table.columns x.name) (sym s.3) ∙ place_is table.columns s.0 s.1 (is_table k c.0).distinct s.2 in
      let within : s.0 < length table.columns = slice_get_within table.columns s.0 s.1 s.2 in
      let cell : IsCellOf (get_or table.columns s.0 s.1) (slice_index_or (row_at (rows_at D.rows k) i) s.0 None) = zipped_at IsCellOf table.columns (row_at (rows_at D.rows k) i) s.0 s.1 None (is_row k i c.0 below) within in
      let cell' : IsCellOf s.1 (slice_index_or (row_at (rows_at D.rows k) i) s.0 None) = subst (λ (x : Column). IsCellOf x (slice_index_or (row_at (rows_at D.rows k) i) s.0 None)) (get_or_from_slice_get table.columns s.0 s.1 s.1 s.2) cell in
      let is = value_of_cell s.1 (slice_index_or (row_at (rows_at D.rows k) i) s.0 None) v cell' (ap (λ p. option_map value_text (slice_index_or (row_at (rows_at D.rows k) i) p None)) (sym place) ∙ e) in
      (is.0 ∙ ap (λ (x : ClassColumn). x.kind) s.3, is.1)

  keys : (k : ℕ) → IsClassAt V k → NoRepeats (map (λ (y : KeyView). y.columns) (table_view choices D k).keys)
  keys k c =
      subst NoRepeats (sym (map_map (key_view choices D k) (λ (y : KeyView). y.columns) (table_at D.tables k).foreign))
      (once_by (λ (key : ForeignKey). key.columns) (λ (key : ForeignKey). map (name_at (table_at D.tables k).columns) key.columns) (table_at D.tables k).foreign
      (λ x y h g e. one_list (table_at D.tables k).columns x.columns y.columns (is_table k c.0).distinct (lawful_key k x c.0 h).columns.within (lawful_key k y c.0 g).columns.within e)
      (is_table k c.0).apart)
    where
      once_by : {X Y Z : Type 0} (f : X → Y) (g : X → Z) (xs : List X) → ((x y : X) → IsIn x xs → IsIn y xs → g x ≡ g y → f x ≡ f y) → NoRepeats (map f xs) → NoRepeats (map g xs)
      once_by f g [] h d = tt
      once_by f g (x ∷ xs) h d = (
        (λ i. let r = IsIn-map g (g x) xs i in d.0 (subst (λ y. IsIn y (map f xs)) (h r.0 x (inr r.1) (inl refl) r.2) (map-IsIn f r.0 xs r.1))),
        once_by f g xs (λ x y a b. h x y (inr a) (inr b)) d.1,
      )

  -- the target of a key is no relation
  pub target_is_class : (t : ℕ) (key : ForeignKey) → t < length D.tables → IsIn key (table_at D.tables t).foreign → IsClassAt V key.target
  target_is_class t key in_t h =
      let below = (lawful_key t key in_t h).target in
      (below, (tells_class key.target below).1 (counts graph))
    where
      counts : (m : GraphName) → CountsAsClass m D.tables key.target
      counts Direct = λ sides r. r
      counts MapKeys = λ sides r. r
      counts Map = λ sides r. r.no_target
          (any_from_item (λ (other : Table). Any (λ (k : ForeignKey). k.target ≡ key.target) other.foreign) (table_at D.tables t) D.tables (item_within D.tables t no_table in_t)
          (any_from_item (λ (k : ForeignKey). k.target ≡ key.target) key (table_at D.tables t).foreign h refl))

  some_place : (places : List ℕ) → 0 < length places → (p : ℕ) × IsIn p places
  some_place [] h = absurd (omega arith)
  some_place (p ∷ places) h = (p, inl refl)

  one_place_of : (columns : List Column) (places : List ℕ) (x : Name) → map (name_at columns) places ≡ x ∷ [] → (p : ℕ) × (places ≡ p ∷ []) × (name_at columns p ≡ x)
  one_place_of columns [] x e = absurd (cc)
  one_place_of columns (p ∷ []) x e = (p, refl, heads (name_at columns p) x e)
    where
      heads : (a b : Name) → a ∷ [] ≡ b ∷ [] → a ≡ b
      heads a b f = cc
  one_place_of columns (p ∷ q ∷ places) x e = absurd (let f : name_at columns p ∷ name_at columns q ∷ map (name_at columns) places ≡ x ∷ [] = e in cc)

  -- no column `ref-x` stands beside a key on x alone
  no_clash : (k : ℕ) (key : ForeignKey) (x : Name) (d : ClassColumn) → k < length D.tables → IsIn key (table_at D.tables k).foreign → map (name_at (table_at D.tables k).columns) key.columns ≡ x ∷ []
      → IsIn d (choices.columns k) → d.name ≢ codes "ref-" ++ x
  no_clash k key x d below h e i same =
      let table = table_at D.tables k in
      let p = one_place_of table.columns key.columns x e in
      let in_place : p.0 < length table.columns = (lawful_key k key below h).columns.within p.0 (subst (λ ps. IsIn p.0 ps) (sym p.1) (inl refl)) in
      let col = column_there table.columns p.0 in_place in
      let named : col.0.name ≡ x = sym (name_at_is table.columns p.0 col.0 col.1) ∙ p.2 in
      let s = (sorted k below).only d i in
      let name : s.1.name ≡ codes "ref-" ++ col.0.name = ap (λ (y : ClassColumn). y.name) s.3 ∙ same ∙ ap (λ n. codes "ref-" ++ n) (sym named) in
      (is_table k below).no_clash key p.0 col.0 h p.1 col.1
      (any_from_item (λ (y : Column). y.name ≡ codes "ref-" ++ col.0.name) s.1 table.columns (item_at_index s.1 table.columns s.0 s.2) name)

  some_column : (k : ℕ) → IsClassAt V k → (d : ClassColumn) × IsIn d (choices.columns k)
  some_column k c = let col = column_there (table_at D.tables k).columns 0 (is_table k c.0).some_column in (class_column col.0, (sorted k c.0).all 0 col.0 col.1)

  pub key_columns : (k : ℕ) (key : ForeignKey) (c : Name) → k < length D.tables → IsIn key (table_at D.tables k).foreign → IsIn c (map (name_at (table_at D.tables k).columns) key.columns)
      → (d : ClassColumn) × IsIn d (choices.columns k) × (d.name ≡ c)
  key_columns k key c in_k h i =
      let p = IsIn-map (name_at (table_at D.tables k).columns) c key.columns i in
      let col = column_there (table_at D.tables k).columns p.0 ((lawful_key k key in_k h).columns.within p.0 p.1) in
      (class_column col.0, (sorted k in_k).all p.0 col.0 col.1, sym (name_at_is (table_at D.tables k).columns p.0 col.0 col.1) ∙ p.2)

  pub good_data : GoodData (row_node base D) V
  good_data = record {
    nodes = λ k i l j c in_i e in_j same. own.apart k i l j (record { table = c.0; row = in_i }) (record { table = e.0; row = in_j }) same;
    names = λ k l c e same. one_table k l c.0 e.0 same;
    columns = λ k c. rising-NoRepeats IsBefore before_one_way (map (λ (d : ClassColumn). d.name) (choices.columns k)) (sorted k c.0).rising;
    some_column = some_column;
    good_name = λ k c. (is_table k c.0).name;
    good_columns = λ k d c i. let s = (sorted k c.0).only d i in subst (λ (e : ClassColumn). IsGoodName e.name) s.3 ((is_table k c.0).column_names s.1 (item_at_index s.1 (table_at D.tables k).columns s.0 s.2));
    cells = cells;
    keys = keys;
    targets = λ k y c h. let key = key_from k y h in subst (λ (z : KeyView). IsClassAt V z.target) key.2 (target_is_class k key.0 c.0 key.1);
    some_key_column = λ k y c h.
        let key = key_from k y h in
        let p = some_place key.0.columns (lawful_key k key.0 c.0 key.1).columns.some in
        subst (λ (z : KeyView). (n : Name) × IsIn n z.columns) key.2 (name_at (table_at D.tables k).columns p.0, map-IsIn (name_at (table_at D.tables k).columns) p.0 key.0.columns p.1);
    key_columns_distinct = λ k y c h.
        let key = key_from k y h in
        let lawful = (lawful_key k key.0 c.0 key.1).columns in
        subst (λ (z : KeyView). NoRepeats z.columns) key.2
        (NoRepeats-map (name_at (table_at D.tables k).columns) key.0.columns (λ p q i j e. one_place (table_at D.tables k).columns p q (is_table k c.0).distinct (lawful.within p i) (lawful.within q j) e) lawful.once);
    key_columns = λ k y x c h i.
        let key = key_from k y h in
        key_columns k key.0 x c.0 key.1 (subst (λ (z : KeyView). IsIn x z.columns) (sym key.2) i);
    no_clash = λ k y x d c h e i.
        let key = key_from k y h in
        no_clash k key.0 x d c.0 key.1 (subst (λ (z : KeyView). z.columns ≡ x ∷ []) (sym key.2) e) i;
  }
