-- The facts of the old rows are the same in the enlarged graph.
use Rattle.std.proofs.Common.{◌≡◌, ◌∙◌, ◌<◌, ℕ, List, length, sym, ap, subst}
use Rattle.std.specs.Prelude.{slice_get, slice_index_or}
use Rattle.members_dm.specs.Membership.{IsIn}
use Rattle.members_dm.specs.Places.{Place}
use Rattle.members_dm.proofs.ElementsLemmas.{item_at_index, item_within}
use Rattle.schema_dm.specs.Relations.{IsSideAt}
use Rattle.schema_dm.specs.Schemas.{no_table, table_at}
use Rattle.schema_dm.specs.declared.table.ForeignKey.{ForeignKey}
use Rattle.facts_dm.specs.Facts.{Fact, a_link}
use Rattle.table_csv.specs.Cells.{Row}
use Rattle.table_csv.specs.Databases.{Data, IsDatabase, rows_at}
use Rattle.keys_dm.specs.Kept.{HasMatches}
use Rattle.keys_dm.specs.Violations.{KeepsKeys}
use Rattle.keys_dm.proofs.OneMatch.{kept_matches}
use Rattle.graphs_dm.specs.Graphs.{GraphRowStandsAt, StandsAt, of_ontology, of_row, row_mark, row_of_class, row_of_relation}
use Rattle.graphs_dm.specs.Nodes.{row_node}
use Rattle.graphs_dm.specs.OwnNodes.{HasRow}
use Rattle.graphs_dm.specs.Relations.{left_key, no_key, relation_of, right_key}
use Rattle.graphs_dm.specs.RowFacts.{RowStandsAt, literal_fact, reference_fact, row_literal, row_reference, row_type, type_fact}
use Rattle.graphs_dm.specs.declared.graph_name.GraphName.TheVariants.{Map}
use Rattle.std.proofs.lemmas.Option.{get_or_from_slice_get}
use Rattle.append_dm.proofs.AppendedRows.{HasBoth, before, more_rows, old_row, still, with_lists}
use Rattle.append_dm.proofs.SameNodes.{same_node}

module _ (base : List ℕ) (old batch : Data) (lists : List (List Row)) (h : HasBoth old batch lists)
    (old_is : IsDatabase old) (whole_is : IsDatabase (with_lists old lists)) (old_kept : KeepsKeys old) (whole_kept : KeepsKeys (with_lists old lists)) where
  abbrev whole : Data
  whole = with_lists old lists

  node : (t i : ℕ) → t < length old.tables → i < length (rows_at old.rows t) → row_node base old t i ≡ row_node base whole t i
  node t i below within = same_node base old batch lists h whole_kept t i below within

  has_more : (t i : ℕ) → HasRow old t i → HasRow whole t i
  has_more t i has = record { table = has.table; row = more_rows old batch lists h t i has.row }

  target_below : (t : ℕ) (key : ForeignKey) → t < length old.tables → IsIn key (table_at old.tables t).foreign → key.target < length old.tables
  target_below t key below among = ((old_is.schema.each (table_at old.tables t) (item_within old.tables t no_table below)).foreign key among).target

  -- the foreign key of a relation's side is one of its table
  side_among : (t number place : ℕ) → IsSideAt old.tables (table_at old.tables t).foreign place number
      → IsIn (slice_index_or (table_at old.tables t).foreign number no_key) (table_at old.tables t).foreign
  side_among t number place at =
      subst (λ (key : ForeignKey). IsIn key (table_at old.tables t).foreign) (sym (get_or_from_slice_get (table_at old.tables t).foreign number at.0 no_key at.1))
      (item_at_index at.0 (table_at old.tables t).foreign number at.1)

  class_stays : (t i : ℕ) → HasRow old t i → (place : Place) (f : Fact) → RowStandsAt base old t i place f → RowStandsAt base whole t i place f
  class_stays t i has place f (row_type at e) = row_type at (e ∙ ap (λ n. type_fact n (table_at old.tables t)) (node t i has.table has.row))
  class_stays t i has place f (row_literal k column value found there at e) =
      row_literal k column value found (ap (λ (row : Row). slice_get row k) (old_row old batch lists h t i has.row) ∙ there) at
      (e ∙ ap (λ n. literal_fact n (table_at old.tables t) column value) (node t i has.table has.row))
  class_stays t i has place f (row_reference k j key found r at e) =
      let among = item_at_index key (table_at old.tables t).foreign k found in
      let from = node t i has.table has.row in
      let to = node key.target j (target_below t key has.table among) r.1.0 in
      row_reference k j key found (still old batch lists h t i j key has.row r) at
      (e ∙ (λ q. reference_fact (from q) (table_at old.tables t) key (to q)))

  row_stays : (t i : ℕ) → HasRow old t i → (place : Place) (f : Fact) → GraphRowStandsAt Map base old t i place f → GraphRowStandsAt Map base whole t i place f
  row_stays t i has place f (row_of_class class s) = row_of_class class (class_stays t i has place f s)
  row_stays t i has place f (row_of_relation sides j l counts left right at e) =
      let one = left_key old.tables t sides in
      let two = right_key old.tables t sides in
      let from = node one.target j (target_below t one has.table (side_among t sides.left 0 counts.left)) left.1.0 in
      let to = node two.target l (target_below t two has.table (side_among t sides.right 1 counts.right)) right.1.0 in
      row_of_relation sides j l counts (still old batch lists h t i j one has.row left) (still old batch lists h t i l two has.row right) at
      (e ∙ (λ q. a_link (from q) (relation_of old.tables t sides) (to q)))
  row_stays t i has place f (row_mark marks kind v at e) = absurd marks

  pub stays : (place : Place) (f : Fact) → StandsAt Map base old place f → StandsAt Map base whole place f
  stays place f (of_ontology has t rest below at s) = of_ontology has t rest below at s
  stays place f (of_row t i rest has at s) = of_row t i rest (has_more t i has) at (row_stays t i has rest f s)

  -- ---- and back

  old_matches : HasMatches old
  old_matches = kept_matches old old_is.schema old_kept

  whole_matches : HasMatches whole
  whole_matches = kept_matches whole whole_is.schema whole_kept

  class_stood : (t i : ℕ) → HasRow old t i → (place : Place) (f : Fact) → RowStandsAt base whole t i place f → RowStandsAt base old t i place f
  class_stood t i has place f (row_type at e) = row_type at (e ∙ ap (λ n. type_fact n (table_at old.tables t)) (sym (node t i has.table has.row)))
  class_stood t i has place f (row_literal k column value found there at e) =
      row_literal k column value found (ap (λ (row : Row). slice_get row k) (sym (old_row old batch lists h t i has.row)) ∙ there) at
      (e ∙ ap (λ n. literal_fact n (table_at old.tables t) column value) (sym (node t i has.table has.row)))
  class_stood t i has place f (row_reference k j key found r at e) =
      let among = item_at_index key (table_at old.tables t).foreign k found in
      let r' = before old batch lists h old_matches whole_matches t i j key has.table has.row among r in
      let from = node t i has.table has.row in
      let to = node key.target j (target_below t key has.table among) r'.1.0 in
      row_reference k j key found r' at (e ∙ sym (λ q. reference_fact (from q) (table_at old.tables t) key (to q)))

  pub row_stood : (t i : ℕ) → HasRow old t i → (place : Place) (f : Fact) → GraphRowStandsAt Map base whole t i place f → GraphRowStandsAt Map base old t i place f
  row_stood t i has place f (row_of_class class s) = row_of_class class (class_stood t i has place f s)
  row_stood t i has place f (row_of_relation sides j l counts left right at e) =
      let one = left_key old.tables t sides in
      let two = right_key old.tables t sides in
      let among_one = side_among t sides.left 0 counts.left in
      let among_two = side_among t sides.right 1 counts.right in
      let a = before old batch lists h old_matches whole_matches t i j one has.table has.row among_one left in
      let b = before old batch lists h old_matches whole_matches t i l two has.table has.row among_two right in
      let from = node one.target j (target_below t one has.table among_one) a.1.0 in
      let to = node two.target l (target_below t two has.table among_two) b.1.0 in
      row_of_relation sides j l counts a b at (e ∙ sym (λ q. a_link (from q) (relation_of old.tables t sides) (to q)))
  row_stood t i has place f (row_mark marks kind v at e) = absurd marks
