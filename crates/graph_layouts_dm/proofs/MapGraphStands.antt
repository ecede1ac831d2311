-- The map graph of a database that keeps its keys stands for its plain tables.
use Rattle.std.proofs.Common.{◌≡◌, ◌⊎◌, ℕ, ◌<◌, true, false, List, [], ◌∷◌, map, length, refl, sym, ap, ◌∙◌, subst, inl, inr, arith, Some, None}
use Rattle.std.specs.Prelude.{◌↔◌, slice_get, slice_index_or}
use Rattle.std.specs.List.Sorted.{IsPermutation}
use Rattle.std.specs.Option.{option_map}
use Rattle.std.proofs.lemmas.Option.{slice_get_within}
use Rattle.members_dm.specs.Membership.{IsIn, IsRising}
use Rattle.members_dm.proofs.MembershipLemmas.{IsIn-map, map-IsIn}
use Rattle.schema_dm.specs.Naming.{kind_at, name_at}
use Rattle.schema_dm.specs.Relations.{IsBinaryRelation}
use Rattle.schema_dm.specs.Schemas.{IsForeignKey, IsTable, table_at}
use Rattle.schema_dm.specs.Shapes.{IsBefore}
use Rattle.schema_dm.specs.declared.draft.Column.{Column}
use Rattle.schema_dm.specs.declared.table.Binary.{Binary}
use Rattle.schema_dm.specs.declared.table.ForeignKey.{ForeignKey}
use Rattle.facts_dm.specs.Facts.{Fact}
use Rattle.names_dm.specs.Statements.{Statement}
use Rattle.table_csv.specs.Databases.{Data, IsDatabase, rows_at}
use Rattle.table_csv.specs.Plain.{IsColumnAt, IsPlain, IsPlainAt, PlainTable}
use Rattle.keys_dm.specs.Kept.{HasMatches}
use Rattle.keys_dm.specs.KeyCells.{row_at}
use Rattle.keys_dm.specs.Violations.{KeepsKeys}
use Rattle.layouts_dm.specs.LayoutTables.{value_text, LiteralTable, StandsFor, class_column, in_order, is_before, literal_table}
use Rattle.graphs_dm.specs.Nodes.{row_node}
use Rattle.graphs_dm.specs.OwnNodes.{HasRow, RowsHaveOwnNodes}
use Rattle.layouts_dm.specs.Layouts.{ClassColumn}
use Rattle.graphs_dm.specs.Graphs.{AreTriplesOf, IsFactOf}
use Rattle.graphs_dm.specs.Relations.{CountsAsClass, left_key, right_key, target_name}
use Rattle.graphs_dm.specs.RowFacts.{References}
use Rattle.graphs_dm.specs.declared.graph_name.GraphName.TheVariants.{Map}
use Rattle.graph_layouts_dm.proofs.Views.{IsClassAt, IsPlainClass, IsPlainRel, MapFact, Plain, RelationView, Views, numbered}
use Rattle.graph_layouts_dm.proofs.Bridge.{Choices, cell_view, good_data, is_table, target_is_class, views_of}
use Rattle.graph_layouts_dm.proofs.Columns.{column_there, name_at_is, place_is}
use Rattle.graphs_dm.proofs.Decisions.{Told, flag, flag_is, told_match}
use Rattle.graph_layouts_dm.proofs.KeysStand.{columns_are, columns_of, rising_by, sorted}
use Rattle.graph_layouts_dm.proofs.MapFacts.{relation_view, said, says}
use Rattle.graph_layouts_dm.proofs.MapRelations.{Side, cell_is, ends_of, good_rels, kind_is, relation_from, relation_in, relations_of, side}
use Rattle.graph_layouts_dm.proofs.MapStands.{graph_stands_for_plain, map_map, upto_agree}
use Rattle.graph_layouts_dm.proofs.PlainRelations.{map_in_order, order_of, two_places}
use Rattle.graph_layouts_dm.proofs.Plains.{column_at, is_plain_class, plain_at, plain_rows, plain_table, of_shape}
use Rattle.layouts_dm.proofs.Choosing.{zipped, zipped_back}
use Rattle.graph_layouts_dm.proofs.RelationRows.{row_is}
use Rattle.graphs_dm.proofs.RelationTests.{told_relation}

heads : {X : Type 0} (a b : X) → a ∷ [] ≡ b ∷ [] → a ≡ b
heads a b e = cc

unsome : {X : Type 0} (x y : X) → Some x ≡ Some y → x ≡ y
unsome x y e = cc

module _ (base : List ℕ) (D : Data) (database : IsDatabase D) (own : RowsHaveOwnNodes base D) (plain : List PlainTable) (is_plain : IsPlain D plain) (kept : KeepsKeys D) (matched : HasMatches D) where
  class_if : (t : ℕ) → Told ((sides : Binary) × IsBinaryRelation D.tables t sides) → Told (CountsAsClass Map D.tables t)
  class_if t (inl s) = inr (λ n. n s.0 s.1)
  class_if t (inr n) = inl (λ sides h. n (sides, h))

  told_class : (t : ℕ) → Told (CountsAsClass Map D.tables t)
  told_class t = class_if t (told_relation D.tables t)

  abbrev choices : Choices
  choices = record {
    columns = columns_of D database plain is_plain;
    is_class = λ t. flag (told_class t);
    matches = λ t key i j. flag (told_match D t i j key);
    violated = λ t i. false;
  }

  abbrev V : Views
  V = views_of choices D

  abbrev R : List RelationView
  R = relations_of D

  tells : (t : ℕ) → t < length D.tables → (flag (told_class t) ≡ true) ↔ CountsAsClass Map D.tables t
  tells t below = flag_is (told_class t)

  table_of : (t : ℕ) → t < length D.tables → IsTable D.tables (table_at D.tables t)
  table_of t below = is_table Map base D database own choices (sorted D database plain is_plain) tells t below

  abbrev SideOf : ℕ → ℕ → ForeignKey → Type 0
  SideOf t place key = Side base D database own choices (sorted D database plain is_plain) tells kept matched t place key

  left_side : (t : ℕ) (sides : Binary) → t < length D.tables → IsBinaryRelation D.tables t sides → SideOf t 0 (left_key D.tables t sides)
  left_side t sides below is = side base D database own choices (sorted D database plain is_plain) tells kept matched t sides.left 0 below is.left

  right_side : (t : ℕ) (sides : Binary) → t < length D.tables → IsBinaryRelation D.tables t sides → SideOf t 1 (right_key D.tables t sides)
  right_side t sides below is = side base D database own choices (sorted D database plain is_plain) tells kept matched t sides.right 1 below is.right

  rows_are : (t i j : ℕ) (sides : Binary) (key : ForeignKey) → HasRow D t i → IsBinaryRelation D.tables t sides → (key ≡ left_key D.tables t sides) ⊎ (key ≡ right_key D.tables t sides)
      → References D t i key j ↔ (j ≡ (ends_of D).row t key i)
  rows_are t i j sides key has is (inl e) =
      let a = left_side t sides has.table is in
      subst (λ (k : ForeignKey). References D t i k j ↔ (j ≡ (ends_of D).row t k i)) (sym e) (row_is D kept matched t 0 sides (left_key D.tables t sides) is (inl refl) a.on a.among i j has)
  rows_are t i j sides key has is (inr e) =
      let a = right_side t sides has.table is in
      subst (λ (k : ForeignKey). References D t i k j ↔ (j ≡ (ends_of D).row t k i)) (sym e) (row_is D kept matched t 1 sides (right_key D.tables t sides) is (inr refl) a.on a.among i j has)

  to_views : (f : Fact) → IsFactOf Map base D f → MapFact base (row_node base D) V R f
  to_views f h =
      says Map base D choices table_of (sorted D database plain is_plain) tells
      (λ t i j key has. flag_is (told_match D t i j key)) (λ t i has. ((λ e. absurd (let g : false ≡ true = e in cc)), (λ v. absurd v.0)))
      tt (λ t m. absurd m) (target_is_class Map base D database own choices (sorted D database plain is_plain) tells)
      (ends_of D) R (relation_in base D database own choices (sorted D database plain is_plain) tells kept matched) (relation_from base D database own choices (sorted D database plain is_plain) tells kept matched) rows_are f h

  from_views : (f : Fact) → MapFact base (row_node base D) V R f → IsFactOf Map base D f
  from_views f h =
      said Map base D choices table_of (sorted D database plain is_plain) tells
      (λ t i j key has. flag_is (told_match D t i j key)) (λ t i has. ((λ e. absurd (let g : false ≡ true = e in cc)), (λ v. absurd v.0)))
      tt (λ t m. absurd m) (target_is_class Map base D database own choices (sorted D database plain is_plain) tells)
      (ends_of D) R (relation_in base D database own choices (sorted D database plain is_plain) tells kept matched) (relation_from base D database own choices (sorted D database plain is_plain) tells kept matched) rows_are f h

  -- ---- plain tables

  -- the column of a side and the column that it references have one kind
  side_kind : (t place : ℕ) (sides : Binary) (key : ForeignKey) (c : Column) → t < length D.tables → IsBinaryRelation D.tables t sides → (place ≡ 0) ⊎ (place ≡ 1) → SideOf t place key
      → slice_get (table_at D.tables t).columns place ≡ Some c → c.kind ≡ (ends_of D).kind key
  side_kind t place sides key c below is which s at =
      let lawful : IsForeignKey D.tables (table_at D.tables t) key = (table_of t below).foreign key s.among in
      let e : kind_at (table_at D.tables t).columns place ∷ [] ≡ kind_at (table_at D.tables key.target).columns s.place_of ∷ [] =
      ap (map (kind_at (table_at D.tables t).columns)) (sym s.on) ∙ lawful.kinds ∙ ap (map (kind_at (table_at D.tables key.target).columns)) s.onto in
      let h : Some c.kind ≡ Some s.column.kind = ap (option_map (λ (x : Column). x.kind)) (sym at) ∙ heads _ _ e ∙ ap (option_map (λ (x : Column). x.kind)) s.at in
      unsome c.kind s.column.kind h ∙ kind_is base D database own choices (sorted D database plain is_plain) tells kept matched t place sides key below is which s

  plain_relation : (t : ℕ) (sides : Binary) (y : PlainTable) → t < length D.tables → IsBinaryRelation D.tables t sides → IsPlainAt D t y → IsPlainRel V R (literal_table y)
  plain_relation t sides y below is p =
      let table = table_at D.tables t in
      let left = left_key D.tables t sides in
      let right = right_key D.tables t sides in
      let a = left_side t sides below is in
      let b = right_side t sides below is in
      let q = plain_table D database plain is_plain t y p below in
      let two : length table.columns ≡ 2 = is.two_columns in
      let c = column_there table.columns 0 (omega arith) in
      let d = column_there table.columns 1 (omega arith) in
      let places = two_places q.places (q.columns.each ∙ two) q.columns.once
      (λ k i. let z = zipped (IsColumnAt table) q.places y.shape.columns q.columns.belong k i in let f = column_at table k z.0 z.2 in subst (λ n. k < n) two (slice_get_within table.columns k f.0 f.1)) in
      let order : map class_column y.shape.columns ≡ in_order (is_before c.0.name d.0.name) (class_column c.0) (class_column d.0) =
      order_of table c.0 d.0 c.1 d.1 q.places y.shape.columns q.columns.belong q.rising places in
      let n0 : c.0.name ≡ name_at table.columns 0 = sym (name_at_is table.columns 0 c.0 c.1) in
      let n1 : d.0.name ≡ name_at table.columns 1 = sym (name_at_is table.columns 1 d.0 d.1) in
      let k0 = side_kind t 0 sides left c.0 below is (inl refl) a c.1 in
      let k1 = side_kind t 1 sides right d.0 below is (inr refl) b d.1 in
      let cell0 : (i : ℕ) → i < length (rows_at D.rows t) → cell_view D t i c.0.name ≡ cell_view D left.target ((ends_of D).row t left i) (target_name D.tables left) =
      λ i l. ap (λ r. option_map value_text (slice_index_or (row_at (rows_at D.rows t) i) r None)) (place_is table.columns 0 c.0 (table_of t below).distinct c.1)
      ∙ sym (cell_is base D database own choices (sorted D database plain is_plain) tells kept matched t 0 sides left below is (inl refl) a i (record { table = below; row = l })) in
      let cell1 : (i : ℕ) → i < length (rows_at D.rows t) → cell_view D t i d.0.name ≡ cell_view D right.target ((ends_of D).row t right i) (target_name D.tables right) =
      λ i l. ap (λ r. option_map value_text (slice_index_or (row_at (rows_at D.rows t) i) r None)) (place_is table.columns 1 d.0 (table_of t below).distinct d.1)
      ∙ sym (cell_is base D database own choices (sorted D database plain is_plain) tells kept matched t 1 sides right below is (inr refl) b i (record { table = below; row = l })) in
      let rows : numbered (length (rows_at D.rows t)) (λ i. map (λ (x : ClassColumn). cell_view D t i x.name) (map class_column y.shape.columns))
      ≡ numbered (length (rows_at D.rows t)) (λ i. in_order (is_before (name_at table.columns 0) (name_at table.columns 1)) (cell_view D left.target ((ends_of D).row t left i) (target_name D.tables left)) (cell_view D right.target ((ends_of D).row t right i) (target_name D.tables right))) =
      upto_agree (length (rows_at D.rows t)) _ _
      (λ i l. ap (λ r. r ∷ []) (ap (map (λ (x : ClassColumn). cell_view D t i x.name)) order
      ∙ map_in_order (λ (x : ClassColumn). cell_view D t i x.name) (is_before c.0.name d.0.name) (class_column c.0) (class_column d.0)
      ∙ (λ j. in_order (is_before (n0 j) (n1 j)) (cell0 i l j) (cell1 i l j)))) in (
        relation_view (ends_of D) D t sides,
        relation_in base D database own choices (sorted D database plain is_plain) tells kept matched t sides below is,
        q.name,
        order ∙ (λ j. in_order (is_before (n0 j) (n1 j)) (record { name = n0 j; kind = k0 j }) (record { name = n1 j; kind = k1 j })),
        subst (IsPermutation (literal_table y).rows) rows (plain_rows D database plain is_plain t y below p),
      )

  plain_name : (t : ℕ) → t < length D.tables → IsIn (table_at D.tables t).name (map (λ (T : LiteralTable). T.name) (map literal_table plain))
  plain_name t below =
      let y = plain_at D database plain is_plain t below in
      let is = plain_table D database plain is_plain t y.0 y.2 below in
      subst (λ n. IsIn n (map (λ (T : LiteralTable). T.name) (map literal_table plain))) is.name (map-IsIn (λ (T : LiteralTable). T.name) (literal_table y.0) (map literal_table plain) (map-IsIn literal_table y.0 plain y.1))

  plain_one : (t : ℕ) (y : PlainTable) → t < length D.tables → IsPlainAt D t y → Told ((sides : Binary) × IsBinaryRelation D.tables t sides) → IsPlainClass V (literal_table y) ⊎ IsPlainRel V R (literal_table y)
  plain_one t y below p (inl s) = inr (plain_relation t s.0 y below s.1 p)
  plain_one t y below p (inr n) =
      inl (is_plain_class D database plain is_plain choices (columns_are D database plain is_plain) t y (below, (tells t below).1 (λ sides h. n (sides, h))) p)

  plain_views : Plain V R (map literal_table plain)
  plain_views = record {
    rising = subst (IsRising IsBefore) (sym (map_map literal_table (λ (T : LiteralTable). T.name) plain)) is_plain.rising;
    columns = λ k c. rising_by (columns_of D database plain is_plain k) (sorted D database plain is_plain k c.0).rising;
    only = λ T i.
        let m = IsIn-map literal_table T plain i in
        let z = zipped_back (IsPlainAt D) is_plain.places plain is_plain.tables.belong m.0 m.1 in
        let below : z.0 < length D.tables = slice_get_within D.tables z.0 z.2.table z.2.here in
        subst (λ (U : LiteralTable). IsPlainClass V U ⊎ IsPlainRel V R U) m.2 (plain_one z.0 m.0 below z.2 (told_relation D.tables z.0));
    all = λ k c. plain_name k c.0;
    all_relations = λ r i.
        let f = relation_from base D database own choices (sorted D database plain is_plain) tells kept matched r i in
        subst (λ (z : RelationView). IsIn z.name.table (map (λ (T : LiteralTable). T.name) (map literal_table plain))) f.4 (plain_name f.0 f.2);
  }

  some_class : Told ((sides : Binary) × IsBinaryRelation D.tables 0 sides) → (k : ℕ) × IsClassAt V k
  some_class (inl s) = let a = left_side 0 s.0 database.schema.some s.1 in ((left_key D.tables 0 s.0).target, a.target)
  some_class (inr n) = (0, (database.schema.some, (tells 0 database.schema.some).1 (λ sides h. n (sides, h))))

  -- the map graph stands for the plain tables
  pub map_stands : (G : List Statement) → AreTriplesOf Map base D G → StandsFor base G plain
  map_stands G are =
      graph_stands_for_plain base (row_node base D) V R (good_data Map base D database own choices (sorted D database plain is_plain) tells)
      (good_rels base D database own choices (sorted D database plain is_plain) tells kept matched)
      (some_class (told_relation D.tables 0)) G
      (λ x. (
        (λ h. let f = are.only x h in (f.0, to_views f.0 f.1, f.2)),
        (λ f. are.all x (f.0, from_views f.0 f.1, f.2)),
      )) plain (of_shape D database plain is_plain) plain_views
