-- The binary relations of a database that keeps its keys are good relations of its layout.
use Rattle.std.proofs.Common.{◌≡◌, ◌⊎◌, ℕ, ◌<◌, true, false, List, [], ◌∷◌, map, length, refl, sym, ap, ◌∙◌, subst, inl, inr, arith, Some, None}
use Rattle.std.specs.Prelude.{◌↔◌, slice_get, slice_index_or}
use Rattle.std.specs.Option.{option_map}
use Rattle.std.proofs.lemmas.Option.{get_or_from_slice_get}
use Rattle.members_dm.specs.Membership.{IsIn, NoRepeats}
use Rattle.members_dm.proofs.ElementsLemmas.{item_at_index}
use Rattle.schema_dm.specs.Naming.{Name, column_place, name_at}
use Rattle.schema_dm.specs.Relations.{IsBinaryRelation, IsSideAt}
use Rattle.schema_dm.specs.Schemas.{AreColumns, IsForeignKey, IsTable, table_at}
use Rattle.schema_dm.specs.declared.draft.Column.{Column}
use Rattle.schema_dm.specs.declared.table.Binary.{Binary}
use Rattle.schema_dm.specs.declared.table.ForeignKey.{ForeignKey}
use Rattle.schema_dm.proofs.OneRelation.{sides_unique}
use Rattle.facts_dm.specs.Facts.{KindText}
use Rattle.table_csv.specs.Cells.{Cell, cells_at}
use Rattle.table_csv.specs.Databases.{Data, IsDatabase, rows_at}
use Rattle.keys_dm.specs.Kept.{HasMatches}
use Rattle.keys_dm.specs.KeyCells.{row_at}
use Rattle.keys_dm.specs.Violations.{KeepsKeys}
use Rattle.layouts_dm.specs.LayoutTables.{value_text, class_column}
use Rattle.graphs_dm.specs.OwnNodes.{HasRow, RowsHaveOwnNodes}
use Rattle.layouts_dm.specs.Layouts.{ClassColumn, IsGoodName}
use Rattle.graphs_dm.specs.Relations.{CountsAsClass, left_key, no_key, right_key, target_name}
use Rattle.graphs_dm.specs.declared.graph_name.GraphName.TheVariants.{Map}
use Rattle.graph_layouts_dm.proofs.Views.{GoodRel, GoodRels, IsClassAt, RelationView, Views, upto}
use Rattle.graph_layouts_dm.proofs.Bridge.{Choices, SortedColumns, cell_view, is_table, one_table, target_is_class, views_of}
use Rattle.graph_layouts_dm.proofs.Columns.{column_there, name_at_is, one_place, place_is}
use Rattle.graphs_dm.proofs.Decisions.{Told}
use Rattle.graph_layouts_dm.proofs.MapFacts.{RelationChoices, relation_view}
use Rattle.graph_layouts_dm.proofs.MapStands.{distinct_one, distinct_upto, map_upto}
use Rattle.graph_layouts_dm.proofs.RelationRows.{one_row, pair_cells, referenced_row, row_below, row_references}
use Rattle.graphs_dm.proofs.RelationTests.{told_relation}
use Rattle.graph_layouts_dm.proofs.Stands.{IsIn-upto, upto-IsIn}
use Rattle.value_dm.specs.declared.kind.Kind.TheVariants as kind

abbrev no_column : Column
no_column = record { name = []; kind = kind.Text; not_null = false }

-- the row that a key references, and the kind of the column
abbrev pub ends_of : Data → RelationChoices
ends_of D = record {
  row = referenced_row D;
  kind = λ key. (slice_index_or (table_at D.tables key.target).columns (slice_index_or key.target_columns 0 0) no_column).kind;
}

abbrev pub relation_if : (D : Data) (t : ℕ) → Told ((sides : Binary) × IsBinaryRelation D.tables t sides) → List RelationView
relation_if D t (inl s) = relation_view (ends_of D) D t s.0 ∷ []
relation_if D t (inr n) = []

-- the relations among the tables
abbrev pub relations_of : Data → List RelationView
relations_of D = upto (length D.tables) (λ t. relation_if D t (told_relation D.tables t))

one_item : (xs : List ℕ) → length xs ≡ 1 → (p : ℕ) × (xs ≡ p ∷ [])
one_item [] e = absurd (omega arith)
one_item (p ∷ []) e = (p, refl)
one_item (p ∷ q ∷ xs) e = absurd (omega arith)

some_value : (cell : Cell) → (cell ≡ None → ⊥) → (v : KindText) × (option_map value_text cell ≡ Some v)
some_value None n = absurd (n refl)
some_value (Some w) n = (value_text w, refl)

module _ (base : List ℕ) (D : Data) (database : IsDatabase D) (own : RowsHaveOwnNodes base D) (choices : Choices)
    (sorted : (t : ℕ) → t < length D.tables → SortedColumns (table_at D.tables t) (choices.columns t))
    (tells_class : (t : ℕ) → t < length D.tables → (choices.is_class t ≡ true) ↔ CountsAsClass Map D.tables t)
    (kept : KeepsKeys D) (matched : HasMatches D) where
  abbrev V : Views
  V = views_of choices D

  table_of : (t : ℕ) → t < length D.tables → IsTable D.tables (table_at D.tables t)
  table_of t below = is_table Map base D database own choices sorted tells_class t below

  -- one side of a relation: a key on the column at the place, onto the one column of the target's primary key
  pub record Side (t place : ℕ) (key : ForeignKey) : Type 0 where
    pub among : IsIn key (table_at D.tables t).foreign
    pub on : key.columns ≡ place ∷ []
    pub place_of : ℕ
    pub onto : key.target_columns ≡ place_of ∷ []
    pub column : Column
    pub at : slice_get (table_at D.tables key.target).columns place_of ≡ Some column
    pub target : IsClassAt V key.target

  pub side : (t number place : ℕ) → t < length D.tables → IsSideAt D.tables (table_at D.tables t).foreign place number → Side t place (slice_index_or (table_at D.tables t).foreign number no_key)
  side t number place below at =
      let among : IsIn at.0 (table_at D.tables t).foreign = item_at_index at.0 (table_at D.tables t).foreign number at.1 in
      let lawful : IsForeignKey D.tables (table_at D.tables t) at.0 = (table_of t below).foreign at.0 among in
      let one = one_item at.0.target_columns (lawful.as_many ∙ ap length at.2.0) in
      let primary : AreColumns (table_at D.tables at.0.target) at.0.target_columns = (table_of at.0.target lawful.target).primary at.0.target_columns at.2.1 in
      let col = column_there (table_at D.tables at.0.target).columns one.0 (primary.within one.0 (subst (λ ps. IsIn one.0 ps) (sym one.1) (inl refl))) in
      subst (Side t place) (sym (get_or_from_slice_get (table_at D.tables t).foreign number at.0 no_key at.1))
      (record {
        among = among;
        on = at.2.0;
        place_of = one.0;
        onto = one.1;
        column = col.0;
        at = col.1;
        target = target_is_class Map base D database own choices sorted tells_class t at.0 below among;
      })

  module _ (t place : ℕ) (sides : Binary) (key : ForeignKey) (below : t < length D.tables) (is : IsBinaryRelation D.tables t sides) (which : (place ≡ 0) ⊎ (place ≡ 1)) (s : Side t place key) where
    pub target_is : target_name D.tables key ≡ s.column.name
    target_is = ap (λ (ps : List ℕ). name_at (table_at D.tables key.target).columns (slice_index_or ps 0 0)) s.onto ∙ name_at_is (table_at D.tables key.target).columns s.place_of s.column s.at

    pub kind_is : s.column.kind ≡ (ends_of D).kind key
    kind_is =
        sym (ap (λ (c : Column). c.kind) (get_or_from_slice_get (table_at D.tables key.target).columns s.place_of s.column no_column s.at))
        ∙ ap (λ (ps : List ℕ). (slice_index_or (table_at D.tables key.target).columns (slice_index_or ps 0 0) no_column).kind) (sym s.onto)

    pub target_column : (d : ClassColumn) × IsIn d (choices.columns key.target) × (d.name ≡ target_name D.tables key) × (d.kind ≡ (ends_of D).kind key)
    target_column = (class_column s.column, (sorted key.target s.target.0).all s.place_of s.column s.at, sym target_is, kind_is)

    -- the referenced row has the row's cell in its key
    pub same_cell : (i : ℕ) → HasRow D t i
        → slice_index_or (row_at (rows_at D.rows key.target) (referenced_row D t key i)) s.place_of None ≡ slice_index_or (row_at (rows_at D.rows t) i) place None
    same_cell i has =
        let r = row_references D kept matched t place sides key is which s.on s.among i has in
        let e : cells_at (s.place_of ∷ []) (row_at (rows_at D.rows key.target) (referenced_row D t key i)) ≡ cells_at (place ∷ []) (row_at (rows_at D.rows t) i) =
        ap (λ (ps : List ℕ). cells_at ps (row_at (rows_at D.rows key.target) (referenced_row D t key i))) (sym s.onto) ∙ r.1.1 ∙ ap (λ (ps : List ℕ). cells_at ps (row_at (rows_at D.rows t) i)) s.on in
        heads _ _ e
      where
        heads : (a b : Cell) → a ∷ [] ≡ b ∷ [] → a ≡ b
        heads a b e = cc

    -- the target's cell in the layout is the row's
    pub cell_is : (i : ℕ) → HasRow D t i → cell_view D key.target (referenced_row D t key i) (target_name D.tables key) ≡ option_map value_text (slice_index_or (row_at (rows_at D.rows t) i) place None)
    cell_is i has =
        ap (λ p. option_map value_text (slice_index_or (row_at (rows_at D.rows key.target) (referenced_row D t key i)) p None))
        (ap (column_place (table_at D.tables key.target).columns) target_is ∙ place_is (table_at D.tables key.target).columns s.place_of s.column (table_of key.target s.target.0).distinct s.at)
        ∙ ap (option_map value_text) (same_cell i has)

    pub value : (i : ℕ) → HasRow D t i → (v : KindText) × (cell_view D key.target (referenced_row D t key i) (target_name D.tables key) ≡ Some v)
    value i has =
        let v = some_value (slice_index_or (row_at (rows_at D.rows t) i) place None) (λ e. pair_cells D kept matched t i place sides has is which (inl e)) in
        (v.0, cell_is i has ∙ v.1)

  column_good : (t k : ℕ) (c : Column) → t < length D.tables → slice_get (table_at D.tables t).columns k ≡ Some c → IsGoodName c.name
  column_good t k c below at = (table_of t below).column_names c (item_at_index c (table_at D.tables t).columns k at)

  place_good : (t k : ℕ) → t < length D.tables → k < length (table_at D.tables t).columns → IsGoodName (name_at (table_at D.tables t).columns k)
  place_good t k below within =
      let c = column_there (table_at D.tables t).columns k within in
      subst IsGoodName (sym (name_at_is (table_at D.tables t).columns k c.0 c.1)) (column_good t k c.0 below c.1)

  target_good : (t place : ℕ) (sides : Binary) (key : ForeignKey) → t < length D.tables → IsBinaryRelation D.tables t sides → (place ≡ 0) ⊎ (place ≡ 1) → Side t place key → IsGoodName (target_name D.tables key)
  target_good t place sides key below is which s = subst IsGoodName (sym (target_is t place sides key below is which s)) (column_good key.target s.place_of s.column s.target.0 s.at)

  good_relation : (t : ℕ) (sides : Binary) → t < length D.tables → IsBinaryRelation D.tables t sides → GoodRel V (relation_view (ends_of D) D t sides)
  good_relation t sides below is =
      let left = left_key D.tables t sides in
      let right = right_key D.tables t sides in
      let a = side t sides.left 0 below is.left in
      let b = side t sides.right 1 below is.right in
      let columns = (table_at D.tables t).columns in
      let two : length columns ≡ 2 = is.two_columns in
      record {
        good = ((table_of t below).name, place_good t 0 below (omega arith), target_good t 0 sides left below is (inl refl) a, place_good t 1 below (omega arith), target_good t 1 sides right below is (inr refl) b);
        left = a.target;
        right = b.target;
        left_row = λ i h. row_below D kept matched t 0 sides left is (inl refl) a.on a.among i (record { table = below; row = h });
        right_row = λ i h. row_below D kept matched t 1 sides right is (inr refl) b.on b.among i (record { table = below; row = h });
        two = λ e. let z : 0 ≡ 1 = one_place columns 0 1 (table_of t below).distinct (omega arith) (omega arith) e in absurd (omega arith);
        no_class = λ k c e.
            let same : k ≡ t = one_table Map base D database own choices sorted tells_class k t c.0 below e in
            (tells_class k c.0).0 c.1 sides (subst (λ u. IsBinaryRelation D.tables u sides) (sym same) is);
        left_column = target_column t 0 sides left below is (inl refl) a;
        right_column = target_column t 1 sides right below is (inr refl) b;
        left_value = λ i h. value t 0 sides left below is (inl refl) a i (record { table = below; row = h });
        right_value = λ i h. value t 1 sides right below is (inr refl) b i (record { table = below; row = h });
        one_row = λ i j h g same_left same_right.
            let has_i : HasRow D t i = record { table = below; row = h } in
            let has_j : HasRow D t j = record { table = below; row = g } in
            one_row D kept matched t i j sides has_i has_j is
            (λ place which. elim which [
              | inl z ↦ subst (λ p. slice_index_or (row_at (rows_at D.rows t) i) p None ≡ slice_index_or (row_at (rows_at D.rows t) j) p None) (sym z)
                  (sym (same_cell t 0 sides left below is (inl refl) a i has_i) ∙ ap (λ r. slice_index_or (row_at (rows_at D.rows left.target) r) a.place_of None) same_left ∙ same_cell t 0 sides left below is (inl refl) a j has_j)
              | inr z ↦ subst (λ p. slice_index_or (row_at (rows_at D.rows t) i) p None ≡ slice_index_or (row_at (rows_at D.rows t) j) p None) (sym z)
                  (sym (same_cell t 1 sides right below is (inr refl) b i has_i) ∙ ap (λ r. slice_index_or (row_at (rows_at D.rows right.target) r) b.place_of None) same_right ∙ same_cell t 1 sides right below is (inr refl) b j has_j)
            ]);
      }

  -- the relations are those that the tables tell
  pub relation_from : (r : RelationView) → IsIn r (relations_of D) → (t : ℕ) × (sides : Binary) × (t < length D.tables) × IsBinaryRelation D.tables t sides × (relation_view (ends_of D) D t sides ≡ r)
  relation_from r i =
      let u = IsIn-upto r (length D.tables) (λ t. relation_if D t (told_relation D.tables t)) i in
      go u.0 u.1 (told_relation D.tables u.0) u.2
    where
      go : (t : ℕ) → t < length D.tables → (told : Told ((sides : Binary) × IsBinaryRelation D.tables t sides)) → IsIn r (relation_if D t told)
          → (t : ℕ) × (sides : Binary) × (t < length D.tables) × IsBinaryRelation D.tables t sides × (relation_view (ends_of D) D t sides ≡ r)
      go t below (inl s) (inl e) = (t, s.0, below, s.1, e)
      go t below (inl s) (inr h) = absurd h
      go t below (inr n) h = absurd h

  pub relation_in : (t : ℕ) (sides : Binary) → t < length D.tables → IsBinaryRelation D.tables t sides → IsIn (relation_view (ends_of D) D t sides) (relations_of D)
  relation_in t sides below is = upto-IsIn (relation_view (ends_of D) D t sides) (length D.tables) (λ t. relation_if D t (told_relation D.tables t)) t below (go (told_relation D.tables t))
    where
      go : (told : Told ((other : Binary) × IsBinaryRelation D.tables t other)) → IsIn (relation_view (ends_of D) D t sides) (relation_if D t told)
      go (inl s) = inl (ap (relation_view (ends_of D) D t) (sides_unique D.tables t s.0 sides (table_of t below).apart s.1 is))
      go (inr n) = absurd (n (sides, is))

  names : NoRepeats (map (λ (r : RelationView). r.name.table) (relations_of D))
  names =
      subst NoRepeats (sym (map_upto (λ (r : RelationView). r.name.table) (length D.tables) (λ t. relation_if D t (told_relation D.tables t))))
      (distinct_upto (length D.tables) (λ t. map (λ (r : RelationView). r.name.table) (relation_if D t (told_relation D.tables t)))
      (λ t below. once t (told_relation D.tables t))
      (λ t u x in_t in_u i j. one_table Map base D database own choices sorted tells_class t u in_t in_u (named t x (told_relation D.tables t) i ∙ sym (named u x (told_relation D.tables u) j))))
    where
      once : (t : ℕ) (told : Told ((sides : Binary) × IsBinaryRelation D.tables t sides)) → NoRepeats (map (λ (r : RelationView). r.name.table) (relation_if D t told))
      once t (inl s) = distinct_one (table_at D.tables t).name
      once t (inr n) = tt

      named : (t : ℕ) (x : Name) (told : Told ((sides : Binary) × IsBinaryRelation D.tables t sides)) → IsIn x (map (λ (r : RelationView). r.name.table) (relation_if D t told)) → (table_at D.tables t).name ≡ x
      named t x (inl s) (inl e) = e
      named t x (inl s) (inr h) = absurd h
      named t x (inr n) h = absurd h

  pub good_rels : GoodRels V (relations_of D)
  good_rels = record {
    names = names;
    each = λ r i. let f = relation_from r i in subst (GoodRel V) f.4 (good_relation f.0 f.1 f.2 f.3);
  }
