-- The map-keys graph of any database stands for its plain tables.
use Rattle.std.proofs.Common.{◌≡◌, ◌⊎◌, ℕ, ◌<◌, ◌≤◌, true, List, [], ◌∷◌, map, length, refl, sym, subst, inl, inr, arith}
use Rattle.std.specs.Prelude.{◌↔◌}
use Rattle.std.proofs.lemmas.Bool.{cases_lt}
use Rattle.std.proofs.lemmas.Option.{slice_get_within}
use Rattle.members_dm.specs.Membership.{IsIn, IsRising}
use Rattle.members_dm.proofs.MembershipLemmas.{IsIn-map, map-IsIn, rising_unique}
use Rattle.schema_dm.specs.Schemas.{table_at}
use Rattle.schema_dm.specs.Shapes.{IsBefore}
use Rattle.schema_dm.specs.declared.table.Binary.{Binary}
use Rattle.schema_dm.specs.declared.table.Table.{Table}
use Rattle.facts_dm.specs.Facts.{Fact}
use Rattle.names_dm.specs.Statements.{Statement}
use Rattle.table_csv.specs.Databases.{Data, IsDatabase, rows_at}
use Rattle.table_csv.specs.Plain.{IsPlain, IsPlainAt, PlainTable}
use Rattle.graphs_dm.specs.Nodes.{row_node}
use Rattle.graphs_dm.specs.OwnNodes.{RowsHaveOwnNodes}
use Rattle.layouts_dm.specs.Layouts.{ClassColumn}
use Rattle.layouts_dm.specs.LayoutTables.{LiteralTable, StandsFor, class_column, literal_table}
use Rattle.graphs_dm.specs.Graphs.{AreTriplesOf, IsFactOf}
use Rattle.graphs_dm.specs.Relations.{CountsAsClass, CountsAsRelation}
use Rattle.graphs_dm.specs.declared.graph_name.GraphName.TheVariants.{MapKeys}
use Rattle.graph_layouts_dm.proofs.Views.{IsPlainClass, IsPlainRel, MapFact, Plain, Views}
use Rattle.graph_layouts_dm.proofs.Bridge.{Choices, SortedColumns, good_data, is_table, target_is_class, views_of}
use Rattle.graphs_dm.proofs.Decisions.{flag, flag_is, told_match, told_violates}
use Rattle.graph_layouts_dm.proofs.MapFacts.{said, says}
use Rattle.graph_layouts_dm.proofs.MapStands.{graph_stands_for_plain, map_map}
use Rattle.layouts_dm.proofs.Unique.{before_one_way}
use Rattle.graph_layouts_dm.proofs.Plains.{is_plain_class, plain_at, plain_table, sorted_columns, of_shape}
use Rattle.layouts_dm.proofs.Choosing.{zipped_back}
use Rattle.value_dm.specs.declared.kind.Kind.TheVariants as kind

pub rising_by : (xs : List ClassColumn) → IsRising IsBefore (map (λ (d : ClassColumn). d.name) xs) → IsRising (λ (x y : ClassColumn). IsBefore x.name y.name) xs
rising_by [] h = tt
rising_by (x ∷ xs) h = ((λ y i. h.0 y.name (map-IsIn (λ (d : ClassColumn). d.name) y xs i)), rising_by xs h.1)

-- a table has one list of columns in order
pub sorted_one : (table : Table) (xs ys : List ClassColumn) → SortedColumns table xs → SortedColumns table ys → xs ≡ ys
sorted_one table xs ys a b =
    rising_unique (λ (x y : ClassColumn). IsBefore x.name y.name) (λ x y. before_one_way x.name y.name) xs ys (rising_by xs a.rising) (rising_by ys b.rising)
    (λ d. (
      (λ h. let s = a.only d h in subst (λ (e : ClassColumn). IsIn e ys) s.3 (b.all s.0 s.1 s.2)),
      (λ h. let s = b.only d h in subst (λ (e : ClassColumn). IsIn e xs) s.3 (a.all s.0 s.1 s.2)),
    ))

module _ (D : Data) (database : IsDatabase D) (plain : List PlainTable) (is_plain : IsPlain D plain) where
  columns_from : (t : ℕ) → (t < length D.tables) ⊎ (length D.tables ≤ t) → List ClassColumn
  columns_from t (inl below) = map class_column (plain_at D database plain is_plain t below).0.shape.columns
  columns_from t (inr past) = []

  pub columns_of : ℕ → List ClassColumn
  columns_of t = columns_from t (cases_lt t (length D.tables))

  pub sorted : (t : ℕ) → t < length D.tables → SortedColumns (table_at D.tables t) (columns_of t)
  unfolding columns_of columns_from
  sorted t below = go (cases_lt t (length D.tables))
    where
      go : (c : (t < length D.tables) ⊎ (length D.tables ≤ t)) → SortedColumns (table_at D.tables t) (columns_from t c)
      go (inl l) = (let y = plain_at D database plain is_plain t l in sorted_columns (table_at D.tables t) (rows_at D.rows t) y.0 (plain_table D database plain is_plain t y.0 y.2 l))
      go (inr past) = absurd (omega (arith, below, past))

  pub columns_are : (t : ℕ) (y : PlainTable) → t < length D.tables → IsPlainAt D t y → columns_of t ≡ map class_column y.shape.columns
  columns_are t y below p = sorted_one (table_at D.tables t) (columns_of t) (map class_column y.shape.columns) (sorted t below) (sorted_columns (table_at D.tables t) (rows_at D.rows t) y (plain_table D database plain is_plain t y p below))

-- the choices of the map-keys graph: every table is a class
module _ (base : List ℕ) (D : Data) (database : IsDatabase D) (own : RowsHaveOwnNodes base D) (plain : List PlainTable) (is_plain : IsPlain D plain) where
  abbrev choices : Choices
  choices = record {
    columns = columns_of D database plain is_plain;
    is_class = λ t. true;
    matches = λ t key i j. flag (told_match D t i j key);
    violated = λ t i. flag (told_violates D t i);
  }

  abbrev V : Views
  V = views_of choices D

  all_classes : (t : ℕ) → t < length D.tables → (true ≡ true) ↔ CountsAsClass MapKeys D.tables t
  all_classes t below = ((λ e sides h. h), (λ c. refl))

  plain_views : Plain V [] (map literal_table plain)
  plain_views = record {
    rising = subst (IsRising IsBefore) (sym (map_map literal_table (λ (T : LiteralTable). T.name) plain)) is_plain.rising;
    columns = λ k c. rising_by (columns_of D database plain is_plain k) (sorted D database plain is_plain k c.0).rising;
    only = λ T i.
        let m = IsIn-map literal_table T plain i in
        let z = zipped_back (IsPlainAt D) is_plain.places plain is_plain.tables.belong m.0 m.1 in
        let below : z.0 < length D.tables = slice_get_within D.tables z.0 z.2.table z.2.here in
        subst (λ (U : LiteralTable). IsPlainClass V U ⊎ IsPlainRel V [] U) m.2
        (inl (is_plain_class D database plain is_plain choices (columns_are D database plain is_plain) z.0 m.0 (below, refl) z.2));
    all = λ k c.
        let y = plain_at D database plain is_plain k c.0 in
        let is = plain_table D database plain is_plain k y.0 y.2 c.0 in
        subst (λ n. IsIn n (map (λ (T : LiteralTable). T.name) (map literal_table plain))) is.name (map-IsIn (λ (T : LiteralTable). T.name) (literal_table y.0) (map literal_table plain) (map-IsIn literal_table y.0 plain y.1));
    all_relations = λ r i. absurd i;
  }

  none_of : (t : ℕ) (sides : Binary) → t < length D.tables → CountsAsRelation MapKeys D.tables t sides → ⊥
  none_of t sides below h = h

  to_views : (f : Fact) → IsFactOf MapKeys base D f → MapFact base (row_node base D) V [] f
  to_views f h =
      says MapKeys base D choices (is_table MapKeys base D database own choices (sorted D database plain is_plain) all_classes) (sorted D database plain is_plain) all_classes
      (λ t i j key has. flag_is (told_match D t i j key)) (λ t i has. ((λ e. let v = (flag_is (told_violates D t i)).0 e in (tt, v.0, v.1)), (λ v. (flag_is (told_violates D t i)).1 (v.1, v.2))))
      tt (λ t m sides r. r) (target_is_class MapKeys base D database own choices (sorted D database plain is_plain) all_classes)
      (record { row = λ t key i. 0; kind = λ key. kind.Text }) [] (λ t sides below r. absurd r) (λ r i. absurd i) (λ t i j sides key has r which. absurd r) f h

  from_views : (f : Fact) → MapFact base (row_node base D) V [] f → IsFactOf MapKeys base D f
  from_views f h =
      said MapKeys base D choices (is_table MapKeys base D database own choices (sorted D database plain is_plain) all_classes) (sorted D database plain is_plain) all_classes
      (λ t i j key has. flag_is (told_match D t i j key)) (λ t i has. ((λ e. let v = (flag_is (told_violates D t i)).0 e in (tt, v.0, v.1)), (λ v. (flag_is (told_violates D t i)).1 (v.1, v.2))))
      tt (λ t m sides r. r) (target_is_class MapKeys base D database own choices (sorted D database plain is_plain) all_classes)
      (record { row = λ t key i. 0; kind = λ key. kind.Text }) [] (λ t sides below r. absurd r) (λ r i. absurd i) (λ t i j sides key has r which. absurd r) f h

  -- the map-keys graph stands for the plain tables, whether or not keys are kept
  pub keys_stand : (G : List Statement) → AreTriplesOf MapKeys base D G → StandsFor base G plain
  keys_stand G are =
      graph_stands_for_plain base (row_node base D) V [] (good_data MapKeys base D database own choices (sorted D database plain is_plain) all_classes)
      (record { names = tt; each = λ r i. absurd i })
      (0, (database.schema.some, refl)) G
      (λ x. (
        (λ h. let f = are.only x h in (f.0, to_views f.0 f.1, f.2)),
        (λ f. are.all x (f.0, from_views f.0 f.1, f.2)),
      )) plain (of_shape D database plain is_plain) plain_views
