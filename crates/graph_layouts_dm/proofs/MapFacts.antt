-- The facts of a database's map graph are those of its views.
use Rattle.std.proofs.Common.{◌≡◌, ◌⊎◌, ℕ, zero, suc, ◌<◌, true, List, [], ◌∷◌, map, length, get_or, refl, sym, ap, ◌∙◌, subst, inl, inr, Some, None, Option}
use Rattle.std.specs.Prelude.{◌↔◌, slice_get, slice_index_or}
use Rattle.std.specs.Option.{option_map}
use Rattle.std.proofs.lemmas.Option.{get_or_from_slice_get}
use Rattle.value_dm.specs.declared.kind.Kind.{Kind}
use Rattle.value_dm.specs.declared.value.Value.{Value}
use Rattle.members_dm.specs.Membership.{IsIn}
use Rattle.members_dm.specs.Places.{Place}
use Rattle.members_dm.proofs.ElementsLemmas.{index_of_item, item_at_index}
use Rattle.members_dm.proofs.MembershipLemmas.{IsIn-map, map-IsIn}
use Rattle.schema_dm.specs.Naming.{column_place}
use Rattle.schema_dm.specs.Schemas.{IsTable, table_at}
use Rattle.schema_dm.specs.declared.draft.Column.{Column}
use Rattle.schema_dm.specs.declared.table.Binary.{Binary}
use Rattle.schema_dm.specs.declared.table.ForeignKey.{ForeignKey}
use Rattle.facts_dm.specs.Facts.{Fact, KindText, Node, a_cell, a_class, a_domain, a_link, a_link_range, a_mark, a_node, a_property, a_range, an_object, link_iri, rel_link}
use Rattle.table_csv.specs.Cells.{Cell}
use Rattle.table_csv.specs.Databases.{Data, rows_at}
use Rattle.keys_dm.specs.KeyCells.{row_at}
use Rattle.keys_dm.specs.Violations.{Violates}
use Rattle.keys_dm.specs.declared.violation.ViolationKind.{ViolationKind}
use Rattle.graphs_dm.specs.RowFacts.{RowStandsAt, reference_of, row_literal, row_reference, row_type, References}
use Rattle.layouts_dm.specs.LayoutTables.{value_text, class_column}
use Rattle.graphs_dm.specs.Nodes.{row_node}
use Rattle.graphs_dm.specs.OwnNodes.{HasRow}
use Rattle.layouts_dm.specs.Layouts.{ClassColumn, property_iri}
use Rattle.graphs_dm.specs.Relations.{CountsAsClass, CountsAsRelation, left_key, relation_name, relation_of, right_key}
use Rattle.graphs_dm.specs.declared.graph_name.GraphName.{GraphName}
use Rattle.graphs_dm.specs.Graphs.{IsFactOf, GraphRowStandsAt, StandsAt, of_ontology, of_row, row_mark, row_of_class, row_of_relation, MarksViolations, HasOntology}
use Rattle.graphs_dm.specs.Ontology.{OntologyStandsAt, of_class, column_domain, column_of, column_property, column_range, reference_domain, reference_property, reference_range, relation_domain, relation_property, relation_range, of_column, of_reference, of_relation, ColumnStandsAt, ReferenceStandsAt, RelationStandsAt}
use Rattle.graph_layouts_dm.proofs.Views.{IsClassAt, KeyView, MapFact, RelationView, Views, key_link}
use Rattle.graph_layouts_dm.proofs.Bridge.{Choices, SortedColumns, cell_view, key_view, views_of}
use Rattle.graph_layouts_dm.proofs.Columns.{place_is}

some_is : {X : Type 0} (x y : X) → Some x ≡ Some y → x ≡ y
some_is x y e = cc

read_there : {X : Type 0} (xs : List (Option X)) (i : ℕ) (w : X) → get_or xs i None ≡ Some w → slice_get xs i ≡ Some (Some w)
read_there [] i w e = absurd (let f : None ≡ Some w = e in cc)
read_there (x ∷ xs) zero w e = ap Some e
read_there (x ∷ xs) (suc i) w e = read_there xs i w e

value_there : (cell : Cell) (v : KindText) → option_map value_text cell ≡ Some v → (w : Value) × (cell ≡ Some w) × (value_text w ≡ v)
value_there None v e = absurd (let f : None ≡ Some v = e in cc)
value_there (Some w) v e = (w, refl, some_is (value_text w) v e)

-- kinds and rows of a relation's ends
pub record RelationChoices : Type 0 where
  pub row : ℕ → ForeignKey → ℕ → ℕ
  pub kind : ForeignKey → Kind

abbrev pub relation_view : RelationChoices → Data → ℕ → Binary → RelationView
relation_view ends D t sides = record {
  name = relation_name D.tables t sides;
  left = (left_key D.tables t sides).target;
  right = (right_key D.tables t sides).target;
  left_kind = ends.kind (left_key D.tables t sides);
  right_kind = ends.kind (right_key D.tables t sides);
  count = length (rows_at D.rows t);
  left_row = ends.row t (left_key D.tables t sides);
  right_row = ends.row t (right_key D.tables t sides);
}

module _ (graph : GraphName) (base : List ℕ) (D : Data) (choices : Choices)
    (is_table : (t : ℕ) → t < length D.tables → IsTable D.tables (table_at D.tables t))
    (sorted : (t : ℕ) → t < length D.tables → SortedColumns (table_at D.tables t) (choices.columns t))
    (tells_class : (t : ℕ) → t < length D.tables → (choices.is_class t ≡ true) ↔ CountsAsClass graph D.tables t)
    (tells_match : (t i j : ℕ) (key : ForeignKey) → HasRow D t i → (choices.matches t key i j ≡ true) ↔ References D t i key j)
    (tells_mark : (t i : ℕ) → HasRow D t i → (choices.violated t i ≡ true) ↔ (MarksViolations graph × (kind : ViolationKind) × Violates D t i kind))
    (has_ontology : HasOntology graph)
    (marks_classes : (t : ℕ) → MarksViolations graph → CountsAsClass graph D.tables t)
    (target_is_class : (t : ℕ) (key : ForeignKey) → t < length D.tables → IsIn key (table_at D.tables t).foreign → IsClassAt (views_of choices D) key.target)
    (ends : RelationChoices) (R : List RelationView)
    (relation_in : (t : ℕ) (sides : Binary) → t < length D.tables → CountsAsRelation graph D.tables t sides → IsIn (relation_view ends D t sides) R)
    (relation_from : (r : RelationView) → IsIn r R → (t : ℕ) × (sides : Binary) × (t < length D.tables) × CountsAsRelation graph D.tables t sides × (relation_view ends D t sides ≡ r))
    (row_is : (t i j : ℕ) (sides : Binary) (key : ForeignKey) → HasRow D t i → CountsAsRelation graph D.tables t sides → (key ≡ left_key D.tables t sides) ⊎ (key ≡ right_key D.tables t sides)
    → References D t i key j ↔ (j ≡ ends.row t key i)) where
  abbrev V : Views
  V = views_of choices D

  abbrev node : ℕ → ℕ → Node
  node = row_node base D

  abbrev Said : Fact → Type 0
  Said f = MapFact base node V R f

  abbrev Says : Fact → Type 0
  Says f = IsFactOf graph base D f

  counts : (t : ℕ) → IsClassAt V t → CountsAsClass graph D.tables t
  counts t c = (tells_class t c.0).0 c.1

  class_at : (t : ℕ) → t < length D.tables → CountsAsClass graph D.tables t → IsClassAt V t
  class_at t below c = (below, (tells_class t below).1 c)

  key_there : (t : ℕ) (y : KeyView) → IsIn y (map (key_view choices D t) (table_at D.tables t).foreign)
      → (k : ℕ) × (key : ForeignKey) × (slice_get (table_at D.tables t).foreign k ≡ Some key) × (key_view choices D t key ≡ y)
  key_there t y h =
      let m = IsIn-map (key_view choices D t) y (table_at D.tables t).foreign h in
      let i = index_of_item m.0 (table_at D.tables t).foreign m.1 in
      (i.0, m.0, i.2, m.2)

  cell_fact_there : (t i : ℕ) (c : IsClassAt V t) → i < length (rows_at D.rows t) → (k : ℕ) (column : Column) (v : KindText) → slice_get (table_at D.tables t).columns k ≡ Some column
      → cell_view D t i column.name ≡ Some v → Says (a_cell (node t i) (column_of (table_at D.tables t) column) v)
  cell_fact_there t i c below k column v at e =
      let row = row_at (rows_at D.rows t) i in
      let place : column_place (table_at D.tables t).columns column.name ≡ k = place_is (table_at D.tables t).columns k column (is_table t c.0).distinct at in
      let w = value_there (slice_index_or row k None) v (ap (λ p. option_map value_text (slice_index_or row p None)) (sym place) ∙ e) in
      subst (λ (z : KindText). Says (a_cell (node t i) (column_of (table_at D.tables t) column) z)) w.2
      (1 ∷ t ∷ i ∷ 1 ∷ k ∷ [], of_row t i (1 ∷ k ∷ []) (record { table = c.0; row = below }) refl (row_of_class (counts t c) (row_literal k column w.0 at (read_there row k w.0 w.1) refl refl)))

  -- what the views say is said by the graph
  pub said : (f : Fact) → Said f → Says f
  said (a_class n) h =
      subst Says (ap a_class h.2) (0 ∷ h.0 ∷ 0 ∷ [], of_ontology has_ontology h.0 (0 ∷ []) h.1.0 refl (of_class (counts h.0 h.1) refl refl))
  said (a_property name) h =
      let s = (sorted h.0 h.1.0).only h.3 h.4 in
      let x : s.1.name ≡ name.column = ap (λ (d : ClassColumn). d.name) s.3 ∙ h.5 in
      subst Says (λ j. a_property (record { table = h.2 j; column = x j }))
      (0 ∷ h.0 ∷ 1 ∷ s.0 ∷ 0 ∷ [], of_ontology has_ontology h.0 (1 ∷ s.0 ∷ 0 ∷ []) h.1.0 refl (of_column (counts h.0 h.1) s.0 s.1 (0 ∷ []) s.2 refl (column_property refl refl)))
  said (an_object l) (inl h) =
      let y = key_there h.0 h.2 h.3 in
      let e : reference_of (table_at D.tables h.0) y.1 ≡ l = ap (λ (z : KeyView). key_link V h.0 z) y.3 ∙ h.4 in
      subst Says (ap an_object e) (0 ∷ h.0 ∷ 2 ∷ y.0 ∷ 0 ∷ [], of_ontology has_ontology h.0 (2 ∷ y.0 ∷ 0 ∷ []) h.1.0 refl (of_reference (counts h.0 h.1) y.0 y.1 (0 ∷ []) y.2 refl (reference_property refl refl)))
  said (an_object l) (inr h) =
      let r = relation_from h.0 h.1 in
      let e : relation_of D.tables r.0 r.1 ≡ l = ap (λ (z : RelationView). rel_link z.name) r.4 ∙ h.2 in
      subst Says (ap an_object e) (0 ∷ r.0 ∷ 0 ∷ [], of_ontology has_ontology r.0 (0 ∷ []) r.2 refl (of_relation r.1 r.3 (relation_property refl refl)))
  said (a_domain i n) (inl h) =
      let s = (sorted h.0 h.1.0).only h.3 h.4 in
      let x : property_iri base (table_at D.tables h.0).name s.1.name ≡ i = (λ j. property_iri base (h.2 j) (s.3 j).name) ∙ h.5 in
      subst Says (λ j. a_domain (x j) (h.2 j))
      (0 ∷ h.0 ∷ 1 ∷ s.0 ∷ 1 ∷ [], of_ontology has_ontology h.0 (1 ∷ s.0 ∷ 1 ∷ []) h.1.0 refl (of_column (counts h.0 h.1) s.0 s.1 (1 ∷ []) s.2 refl (column_domain refl refl)))
  said (a_domain i n) (inr (inl h)) =
      let y = key_there h.0 h.3 h.4 in
      let x : link_iri base (reference_of (table_at D.tables h.0) y.1) ≡ i = ap (λ (z : KeyView). link_iri base (key_link V h.0 z)) y.3 ∙ h.5 in
      subst Says (λ j. a_domain (x j) (h.2 j))
      (0 ∷ h.0 ∷ 2 ∷ y.0 ∷ 1 ∷ [], of_ontology has_ontology h.0 (2 ∷ y.0 ∷ 1 ∷ []) h.1.0 refl (of_reference (counts h.0 h.1) y.0 y.1 (1 ∷ []) y.2 refl (reference_domain refl refl)))
  said (a_domain i n) (inr (inr h)) =
      let r = relation_from h.0 h.1 in
      let x : link_iri base (relation_of D.tables r.0 r.1) ≡ i = ap (λ (z : RelationView). link_iri base (rel_link z.name)) r.4 ∙ h.2 in
      let u : (table_at D.tables (left_key D.tables r.0 r.1).target).name ≡ n = ap (λ (z : RelationView). (table_at D.tables z.left).name) r.4 ∙ h.3 in
      subst Says (λ j. a_domain (x j) (u j)) (0 ∷ r.0 ∷ 1 ∷ [], of_ontology has_ontology r.0 (1 ∷ []) r.2 refl (of_relation r.1 r.3 (relation_domain refl refl)))
  said (a_range name l) h =
      let s = (sorted h.0 h.1.0).only h.3 h.4 in
      let x : s.1.name ≡ name.column = ap (λ (d : ClassColumn). d.name) s.3 ∙ h.5 in
      let k : s.1.kind ≡ l = ap (λ (d : ClassColumn). d.kind) s.3 ∙ h.6 in
      subst Says (λ j. a_range (record { table = h.2 j; column = x j }) (k j))
      (0 ∷ h.0 ∷ 1 ∷ s.0 ∷ 2 ∷ [], of_ontology has_ontology h.0 (1 ∷ s.0 ∷ 2 ∷ []) h.1.0 refl (of_column (counts h.0 h.1) s.0 s.1 (2 ∷ []) s.2 refl (column_range refl refl)))
  said (a_link_range l u) (inl h) =
      let y = key_there h.0 h.2 h.3 in
      let e : reference_of (table_at D.tables h.0) y.1 ≡ l = ap (λ (z : KeyView). key_link V h.0 z) y.3 ∙ h.4 in
      let x : (table_at D.tables y.1.target).name ≡ u = ap (λ (z : KeyView). (table_at D.tables z.target).name) y.3 ∙ h.5 in
      subst Says (λ j. a_link_range (e j) (x j)) (0 ∷ h.0 ∷ 2 ∷ y.0 ∷ 2 ∷ [], of_ontology has_ontology h.0 (2 ∷ y.0 ∷ 2 ∷ []) h.1.0 refl (of_reference (counts h.0 h.1) y.0 y.1 (2 ∷ []) y.2 refl (reference_range refl refl)))
  said (a_link_range l u) (inr h) =
      let r = relation_from h.0 h.1 in
      let e : relation_of D.tables r.0 r.1 ≡ l = ap (λ (z : RelationView). rel_link z.name) r.4 ∙ h.2 in
      let x : (table_at D.tables (right_key D.tables r.0 r.1).target).name ≡ u = ap (λ (z : RelationView). (table_at D.tables z.right).name) r.4 ∙ h.3 in
      subst Says (λ j. a_link_range (e j) (x j)) (0 ∷ r.0 ∷ 2 ∷ [], of_ontology has_ontology r.0 (2 ∷ []) r.2 refl (of_relation r.1 r.3 (relation_range refl refl)))
  said (a_node n t) h =
      subst Says (λ j. a_node (h.5 j) (h.2 j))
      (1 ∷ h.0 ∷ h.3 ∷ 0 ∷ [], of_row h.0 h.3 (0 ∷ []) (record { table = h.1.0; row = h.4 }) refl (row_of_class (counts h.0 h.1) (row_type refl refl)))
  said (a_cell n name v) h =
      let s = (sorted h.0 h.1.0).only h.6 h.7 in
      let x : s.1.name ≡ name.column = ap (λ (d : ClassColumn). d.name) s.3 ∙ h.8 in
      subst Says (λ j. a_cell (h.5 j) (record { table = h.2 j; column = x j }) v)
      (cell_fact_there h.0 h.3 h.1 h.4 s.0 s.1 v s.2 (ap (cell_view D h.0 h.3) x ∙ h.9))
  said (a_link n l m) (inl h) =
      let y = key_there h.0 h.2 h.3 in
      let has : HasRow D h.0 h.5 = record { table = h.1.0; row = h.6 } in
      let e : reference_of (table_at D.tables h.0) y.1 ≡ l = ap (λ (z : KeyView). key_link V h.0 z) y.3 ∙ h.4 in
      let passes : choices.matches h.0 y.1 h.5 h.7 ≡ true = ap (λ (z : KeyView). z.matches h.5 h.7) y.3 ∙ h.9 in
      let to : node y.1.target h.7 ≡ m = ap (λ (z : KeyView). node z.target h.7) y.3 ∙ h.11 in
      let r = (tells_match h.0 h.5 h.7 y.1 has).0 passes in
      subst Says (λ j. a_link (h.10 j) (e j) (to j))
      (1 ∷ h.0 ∷ h.5 ∷ 2 ∷ y.0 ∷ h.7 ∷ [], of_row h.0 h.5 (2 ∷ y.0 ∷ h.7 ∷ []) has refl (row_of_class (counts h.0 h.1) (row_reference y.0 h.7 y.1 y.2 r refl refl)))
  said (a_link n l m) (inr h) =
      let r = relation_from h.0 h.1 in
      let e : relation_of D.tables r.0 r.1 ≡ l = ap (λ (z : RelationView). rel_link z.name) r.4 ∙ h.2 in
      let below : h.3 < length (rows_at D.rows r.0) = subst (λ (z : RelationView). h.3 < z.count) (sym r.4) h.4 in
      let has : HasRow D r.0 h.3 = record { table = r.2; row = below } in
      let left = left_key D.tables r.0 r.1 in
      let right = right_key D.tables r.0 r.1 in
      let from : node left.target (ends.row r.0 left h.3) ≡ n = ap (λ (z : RelationView). node z.left (z.left_row h.3)) r.4 ∙ h.5 in
      let to : node right.target (ends.row r.0 right h.3) ≡ m = ap (λ (z : RelationView). node z.right (z.right_row h.3)) r.4 ∙ h.6 in
      subst Says (λ j. a_link (from j) (e j) (to j)) (
        1 ∷ r.0 ∷ h.3 ∷ 0 ∷ [],
        of_row r.0 h.3 (0 ∷ []) has refl (row_of_relation r.1 (ends.row r.0 left h.3) (ends.row r.0 right h.3) r.3
            ((row_is r.0 h.3 (ends.row r.0 left h.3) r.1 left has r.3 (inl refl)).1 refl) ((row_is r.0 h.3 (ends.row r.0 right h.3) r.1 right has r.3 (inr refl)).1 refl) refl refl),
      )
  said (a_mark n) h =
      let has : HasRow D h.0 h.2 = record { table = h.1.0; row = h.3 } in
      let v = (tells_mark h.0 h.2 has).0 h.4 in
      subst Says (ap a_mark h.5) (1 ∷ h.0 ∷ h.2 ∷ 3 ∷ [], of_row h.0 h.2 (3 ∷ []) has refl (row_mark v.0 v.1 v.2 refl refl))

  column_said : (t k : ℕ) (column : Column) → t < length D.tables → CountsAsClass graph D.tables t → slice_get (table_at D.tables t).columns k ≡ Some column
      → (rest : Place) (f : Fact) → ColumnStandsAt base (table_at D.tables t) column rest f → Said f
  column_said t k column below c at rest f (column_property p e) = subst Said (sym e) (t, class_at t below c, refl, class_column column, (sorted t below).all k column at, refl)
  column_said t k column below c at rest f (column_domain p e) = subst Said (sym e) (inl (t, class_at t below c, refl, class_column column, (sorted t below).all k column at, refl))
  column_said t k column below c at rest f (column_range p e) = subst Said (sym e) (t, class_at t below c, refl, class_column column, (sorted t below).all k column at, refl, refl)

  reference_said : (t k : ℕ) (key : ForeignKey) → t < length D.tables → CountsAsClass graph D.tables t → slice_get (table_at D.tables t).foreign k ≡ Some key
      → (rest : Place) (f : Fact) → ReferenceStandsAt base D.tables (table_at D.tables t) key rest f → Said f
  reference_said t k key below c at rest f h = go h
    where
      there : IsIn (key_view choices D t key) (map (key_view choices D t) (table_at D.tables t).foreign)
      there = map-IsIn (key_view choices D t) key (table_at D.tables t).foreign (item_at_index key (table_at D.tables t).foreign k at)

      go : ReferenceStandsAt base D.tables (table_at D.tables t) key rest f → Said f
      go (reference_property p e) = subst Said (sym e) (inl (t, class_at t below c, key_view choices D t key, there, refl))
      go (reference_domain p e) = subst Said (sym e) (inr (inl (t, class_at t below c, refl, key_view choices D t key, there, refl)))
      go (reference_range p e) = subst Said (sym e) (inl (t, class_at t below c, key_view choices D t key, there, refl, refl))

  relation_said : (t : ℕ) (sides : Binary) → t < length D.tables → CountsAsRelation graph D.tables t sides → (rest : Place) (f : Fact) → RelationStandsAt base D.tables t sides rest f → Said f
  relation_said t sides below c rest f (relation_property p e) = subst Said (sym e) (inr (relation_view ends D t sides, relation_in t sides below c, refl))
  relation_said t sides below c rest f (relation_domain p e) = subst Said (sym e) (inr (inr (relation_view ends D t sides, relation_in t sides below c, refl, refl)))
  relation_said t sides below c rest f (relation_range p e) = subst Said (sym e) (inr (relation_view ends D t sides, relation_in t sides below c, refl, refl))

  ontology : (t : ℕ) → t < length D.tables → (rest : Place) (f : Fact) → OntologyStandsAt graph base D.tables t rest f → Said f
  ontology t below rest f (of_class c p e) = subst Said (sym e) (t, class_at t below c, refl)
  ontology t below rest f (of_column c k column r at p h) = column_said t k column below c at r f h
  ontology t below rest f (of_reference c k key r at p h) = reference_said t k key below c at r f h
  ontology t below rest f (of_relation sides c h) = relation_said t sides below c rest f h

  class_row : (t i : ℕ) → HasRow D t i → CountsAsClass graph D.tables t → (rest : Place) (f : Fact) → RowStandsAt base D t i rest f → Said f
  class_row t i has c rest f (row_type p e) = subst Said (sym e) (t, class_at t has.table c, refl, i, has.row, refl)
  class_row t i has c rest f (row_literal k column value at cell p e) =
      let place : column_place (table_at D.tables t).columns column.name ≡ k = place_is (table_at D.tables t).columns k column (is_table t has.table).distinct at in
      let there : cell_view D t i column.name ≡ Some (value_text value) =
      ap (λ q. option_map value_text (slice_index_or (row_at (rows_at D.rows t) i) q None)) place ∙ ap (option_map value_text) (get_or_from_slice_get (row_at (rows_at D.rows t) i) k (Some value) None cell) in
      subst Said (sym e) (t, class_at t has.table c, refl, i, has.row, refl, class_column column, (sorted t has.table).all k column at, refl, there)
  class_row t i has c rest f (row_reference k j key at match p e) =
      subst Said (sym e) (inl (
        t,
        class_at t has.table c,
        key_view choices D t key,
        map-IsIn (key_view choices D t) key (table_at D.tables t).foreign (item_at_index key (table_at D.tables t).foreign k at),
        refl,
        i,
        has.row,
        j,
        match.1.0,
        (tells_match t i j key has).1 match,
        refl,
        refl,
      ))

  rows : (t i : ℕ) → HasRow D t i → (rest : Place) (f : Fact) → GraphRowStandsAt graph base D t i rest f → Said f
  rows t i has rest f (row_of_class c h) = class_row t i has c rest f h
  rows t i has rest f (row_of_relation sides j l c left right p e) =
      let a : j ≡ ends.row t (left_key D.tables t sides) i = (row_is t i j sides (left_key D.tables t sides) has c (inl refl)).0 left in
      let b : l ≡ ends.row t (right_key D.tables t sides) i = (row_is t i l sides (right_key D.tables t sides) has c (inr refl)).0 right in
      subst Said (sym e) (inr (relation_view ends D t sides, relation_in t sides has.table c, refl, i, has.row, ap (node (left_key D.tables t sides).target) (sym a), ap (node (right_key D.tables t sides).target) (sym b)))
  rows t i has rest f (row_mark m kind v p e) =
      subst Said (sym e) (t, class_at t has.table (marks_classes t m), i, has.row, (tells_mark t i has).1 (m, kind, v), refl)

  stood : (place : Place) (f : Fact) → StandsAt graph base D place f → Said f
  stood place f (of_ontology has t rest below p h) = ontology t below rest f h
  stood place f (of_row t i rest has p h) = rows t i has rest f h

  -- what the graph says is said by the views
  pub says : (f : Fact) → Says f → Said f
  says f h = stood h.0 f h.1
