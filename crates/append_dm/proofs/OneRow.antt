-- A fact of a row stands in the map graph of that row alone.
use Rattle.std.proofs.Common.{◌≡◌, ◌∙◌, ◌⊎◌, ◌<◌, ℕ, List, [], ◌∷◌, Some, None, length, map, refl, sym, ap, subst, inl, inr}
use Rattle.std.specs.Prelude.{slice_get, slice_index_or}
use Rattle.std.specs.Option.{option_map}
use Rattle.members_dm.specs.Places.{Place}
use Rattle.members_dm.proofs.ElementsLemmas.{item_at_index, item_within, one_index}
use Rattle.schema_dm.specs.Relations.{IsBinaryRelation, IsSideAt}
use Rattle.schema_dm.specs.Schemas.{no_table, table_at}
use Rattle.schema_dm.specs.declared.table.Binary.{Binary}
use Rattle.schema_dm.specs.declared.table.ForeignKey.{ForeignKey}
use Rattle.schema_dm.specs.declared.table.Table.{Table}
use Rattle.schema_dm.proofs.OneRelation.{sides_unique}
use Rattle.facts_dm.specs.Facts.{Fact, Node, a_cell, a_class, a_domain, a_link, a_link_range, a_mark, a_node, a_property, a_range, an_object, ref_link, rel_link}
use Rattle.names_dm.specs.declared.names.RelName.{RelName}
use Rattle.table_csv.specs.Cells.{Cell, Row, cells_at}
use Rattle.table_csv.specs.Databases.{Data, IsDatabase, rows_at}
use Rattle.keys_dm.specs.KeyCells.{row_at}
use Rattle.keys_dm.specs.Violations.{KeepsKeys}
use Rattle.keys_dm.proofs.OneMatch.{kept_matches}
use Rattle.graphs_dm.specs.Graphs.{GraphRowStandsAt, row_mark, row_of_class, row_of_relation}
use Rattle.graphs_dm.specs.Nodes.{row_node}
use Rattle.graphs_dm.specs.OwnNodes.{HasRow, RowsHaveOwnNodes}
use Rattle.graphs_dm.specs.Ontology.{OntologyStandsAt, column_domain, column_property, column_range, of_class, of_column, of_reference, of_relation, reference_domain, reference_property, reference_range, relation_domain, relation_property, relation_range}
use Rattle.graphs_dm.specs.Relations.{left_key, no_key, relation_name, right_key}
use Rattle.graphs_dm.specs.RowFacts.{References, RowStandsAt, row_literal, row_reference, row_type}
use Rattle.graphs_dm.specs.declared.graph_name.GraphName.TheVariants.{Map}
use Rattle.graphs_dm.proofs.NodeLaws.{own_nodes}
use Rattle.graph_layouts_dm.proofs.RelationRows.{one_row}
use Rattle.std.proofs.lemmas.Option.{get_or_from_slice_get, slice_get-get_or, slice_get-map}

-- what a fact of a row begins with: its own node, where it is no relation's
abbrev IsOfNode : Node → Fact → Type 0
IsOfNode n (a_node m t) = n ≡ m
IsOfNode n (a_cell m c v) = n ≡ m
IsOfNode n (a_link m (ref_link r) o) = n ≡ m
IsOfNode n (a_link m (rel_link r) o) = ⊥
IsOfNode n (a_class t) = ⊥
IsOfNode n (a_property c) = ⊥
IsOfNode n (an_object l) = ⊥
IsOfNode n (a_domain i t) = ⊥
IsOfNode n (a_range c k) = ⊥
IsOfNode n (a_link_range l t) = ⊥
IsOfNode n (a_mark m) = ⊥

-- a link of a relation between two nodes
abbrev IsPair : RelName → Node → Node → Fact → Type 0
IsPair r n o f = f ≡ a_link n (rel_link r) o

-- a fact of the ontology
abbrev IsOfOntology : Fact → Type 0
IsOfOntology (a_class t) = Unit {0}
IsOfOntology (a_property c) = Unit {0}
IsOfOntology (an_object l) = Unit {0}
IsOfOntology (a_domain i t) = Unit {0}
IsOfOntology (a_range c k) = Unit {0}
IsOfOntology (a_link_range l t) = Unit {0}
IsOfOntology (a_node m t) = ⊥
IsOfOntology (a_cell m c v) = ⊥
IsOfOntology (a_link m l o) = ⊥
IsOfOntology (a_mark m) = ⊥

same_node_of : (n m : Node) (f : Fact) → IsOfNode n f → IsOfNode m f → n ≡ m
same_node_of n m (a_node o t) a b = a ∙ sym b
same_node_of n m (a_cell o c v) a b = a ∙ sym b
same_node_of n m (a_link o (ref_link r) p) a b = a ∙ sym b
same_node_of n m (a_link o (rel_link r) p) a b = absurd a
same_node_of n m (a_class t) a b = absurd a
same_node_of n m (a_property c) a b = absurd a
same_node_of n m (an_object l) a b = absurd a
same_node_of n m (a_domain i t) a b = absurd a
same_node_of n m (a_range c k) a b = absurd a
same_node_of n m (a_link_range l t) a b = absurd a
same_node_of n m (a_mark o) a b = absurd a

same_ends : (r s : RelName) (n o m p : Node) → a_link n (rel_link r) o ≡ a_link m (rel_link s) p → (r ≡ s) × (n ≡ m) × (o ≡ p)
same_ends r s n o m p e = (cc e, cc e, cc e)

module _ (base : List ℕ) (D : Data) where
  of_class_row : (t i : ℕ) (place : Place) (f : Fact) → RowStandsAt base D t i place f → IsOfNode (row_node base D t i) f
  of_class_row t i place f (row_type at e) = subst (IsOfNode (row_node base D t i)) (sym e) refl
  of_class_row t i place f (row_literal k column value found there at e) = subst (IsOfNode (row_node base D t i)) (sym e) refl
  of_class_row t i place f (row_reference k j key found r at e) = subst (IsOfNode (row_node base D t i)) (sym e) refl

  pub no_ontology : (t i : ℕ) (place : Place) (f : Fact) → GraphRowStandsAt Map base D t i place f → ¬ IsOfOntology f
  no_ontology t i place f (row_of_class class (row_type at e)) o = subst IsOfOntology e o
  no_ontology t i place f (row_of_class class (row_literal k column value found there at e)) o = subst IsOfOntology e o
  no_ontology t i place f (row_of_class class (row_reference k j key found r at e)) o = subst IsOfOntology e o
  no_ontology t i place f (row_of_relation sides j l counts left right at e) o = subst IsOfOntology e o
  no_ontology t i place f (row_mark marks kind v at e) o = absurd marks

  pub ontology : (t : ℕ) (place : Place) (f : Fact) → OntologyStandsAt Map base D.tables t place f → IsOfOntology f
  ontology t place f (of_class c p e) = subst IsOfOntology (sym e) tt
  ontology t place f (of_column c k column r at p (column_property q e)) = subst IsOfOntology (sym e) tt
  ontology t place f (of_column c k column r at p (column_domain q e)) = subst IsOfOntology (sym e) tt
  ontology t place f (of_column c k column r at p (column_range q e)) = subst IsOfOntology (sym e) tt
  ontology t place f (of_reference c k key r at p (reference_property q e)) = subst IsOfOntology (sym e) tt
  ontology t place f (of_reference c k key r at p (reference_domain q e)) = subst IsOfOntology (sym e) tt
  ontology t place f (of_reference c k key r at p (reference_range q e)) = subst IsOfOntology (sym e) tt
  ontology t place f (of_relation sides c (relation_property q e)) = subst IsOfOntology (sym e) tt
  ontology t place f (of_relation sides c (relation_domain q e)) = subst IsOfOntology (sym e) tt
  ontology t place f (of_relation sides c (relation_range q e)) = subst IsOfOntology (sym e) tt

-- ---- rows of one relation

first_cell : (place : ℕ) (row other : Row) → cells_at (place ∷ []) row ≡ cells_at (place ∷ []) other → slice_index_or row place None ≡ slice_index_or other place None
first_cell place row other e = ap (λ (cells : List Cell). slice_index_or cells 0 None) e

module _ (base : List ℕ) (D : Data) (database : IsDatabase D) (kept : KeepsKeys D) where
  own : RowsHaveOwnNodes base D
  own = own_nodes base D database

  one_table : (t u : ℕ) → t < length D.tables → u < length D.tables → (table_at D.tables t).name ≡ (table_at D.tables u).name → t ≡ u
  one_table t u below also same =
      let names = map (λ (table : Table). table.name) D.tables in
      let at_t : slice_get names t ≡ Some (table_at D.tables t).name = slice_get-map (λ (table : Table). table.name) D.tables t ∙ ap (option_map (λ (table : Table). table.name)) (slice_get-get_or D.tables t no_table below) in
      let at_u : slice_get names u ≡ Some (table_at D.tables u).name = slice_get-map (λ (table : Table). table.name) D.tables u ∙ ap (option_map (λ (table : Table). table.name)) (slice_get-get_or D.tables u no_table also) in
      one_index names (table_at D.tables t).name t u database.schema.names at_t (at_u ∙ ap Some (sym same))

  module _ (t place number : ℕ) (below : t < length D.tables) (at : IsSideAt D.tables (table_at D.tables t).foreign place number) where
    abbrev key : ForeignKey
    key = slice_index_or (table_at D.tables t).foreign number no_key

    is_key : key ≡ at.0
    is_key = get_or_from_slice_get (table_at D.tables t).foreign number at.0 no_key at.1

    on : key.columns ≡ place ∷ []
    on = ap (λ (k : ForeignKey). k.columns) is_key ∙ at.2.0

    target : key.target < length D.tables
    target =
        subst (λ (k : ForeignKey). k.target < length D.tables) (sym is_key)
        ((database.schema.each (table_at D.tables t) (item_within D.tables t no_table below)).foreign at.0 (item_at_index at.0 (table_at D.tables t).foreign number at.1)).target

    -- rows that reference rows of one node have one cell there
    same_cell : (i j a b : ℕ) → References D t i key a → References D t j key b → row_node base D key.target a ≡ row_node base D key.target b
        → slice_index_or (row_at (rows_at D.rows t) i) place None ≡ slice_index_or (row_at (rows_at D.rows t) j) place None
    same_cell i j a b r s nodes =
        let one : a ≡ b = (own.apart key.target a key.target b (record { table = target; row = r.1.0 }) (record { table = target; row = s.1.0 }) nodes).1 in
        let cells : cells_at key.columns (row_at (rows_at D.rows t) i) ≡ cells_at key.columns (row_at (rows_at D.rows t) j) =
        sym r.1.1 ∙ ap (λ (k : ℕ). cells_at key.target_columns (row_at (rows_at D.rows key.target) k)) one ∙ s.1.1 in
        first_cell place (row_at (rows_at D.rows t) i) (row_at (rows_at D.rows t) j) (subst (λ (ps : List ℕ). cells_at ps (row_at (rows_at D.rows t) i) ≡ cells_at ps (row_at (rows_at D.rows t) j)) on cells)

  one_pair : (t i j : ℕ) (sides : Binary) (a b c d : ℕ) → HasRow D t i → HasRow D t j → IsBinaryRelation D.tables t sides
      → References D t i (left_key D.tables t sides) a → References D t i (right_key D.tables t sides) b → References D t j (left_key D.tables t sides) c → References D t j (right_key D.tables t sides) d
      → row_node base D (left_key D.tables t sides).target a ≡ row_node base D (left_key D.tables t sides).target c
      → row_node base D (right_key D.tables t sides).target b ≡ row_node base D (right_key D.tables t sides).target d → i ≡ j
  one_pair t i j sides a b c d has also is left right left' right' from to = one_row D kept (kept_matches D database.schema kept) t i j sides has also is cells
    where
      cells : (place : ℕ) → (place ≡ 0) ⊎ (place ≡ 1) → slice_index_or (row_at (rows_at D.rows t) i) place None ≡ slice_index_or (row_at (rows_at D.rows t) j) place None
      cells place (inl zero) =
          subst (λ (p : ℕ). slice_index_or (row_at (rows_at D.rows t) i) p None ≡ slice_index_or (row_at (rows_at D.rows t) j) p None) (sym zero)
          (same_cell t 0 sides.left has.table is.left i j a c left left' from)
      cells place (inr one) =
          subst (λ (p : ℕ). slice_index_or (row_at (rows_at D.rows t) i) p None ≡ slice_index_or (row_at (rows_at D.rows t) j) p None) (sym one)
          (same_cell t 1 sides.right has.table is.right i j b d right right' to)

  -- the same, where the tables and their sides are only known to be one
  one_of_tables : (t u i j : ℕ) (sides others : Binary) (a b c d : ℕ) → t ≡ u → HasRow D t i → HasRow D u j → IsBinaryRelation D.tables t sides → IsBinaryRelation D.tables u others
      → References D t i (left_key D.tables t sides) a → References D t i (right_key D.tables t sides) b → References D u j (left_key D.tables u others) c → References D u j (right_key D.tables u others) d
      → row_node base D (left_key D.tables t sides).target a ≡ row_node base D (left_key D.tables u others).target c
      → row_node base D (right_key D.tables t sides).target b ≡ row_node base D (right_key D.tables u others).target d → i ≡ j
  one_of_tables t u i j sides others a b c d same has also is are left right left' right' from to =
      let P : ℕ → Type 0 = λ v. HasRow D v i → IsBinaryRelation D.tables v sides → References D v i (left_key D.tables v sides) a → References D v i (right_key D.tables v sides) b
      → row_node base D (left_key D.tables v sides).target a ≡ row_node base D (left_key D.tables u others).target c
      → row_node base D (right_key D.tables v sides).target b ≡ row_node base D (right_key D.tables u others).target d → i ≡ j in
      subst P (sym same) (λ has' is' l r f g.
      let one : sides ≡ others = sides_unique D.tables u sides others (database.schema.each (table_at D.tables u) (item_within D.tables u no_table also.table)).apart is' are in
      let Q : Binary → Type 0 = λ s. References D u i (left_key D.tables u s) a → References D u i (right_key D.tables u s) b
      → row_node base D (left_key D.tables u s).target a ≡ row_node base D (left_key D.tables u others).target c
      → row_node base D (right_key D.tables u s).target b ≡ row_node base D (right_key D.tables u others).target d → i ≡ j in
      subst Q (sym one) (λ l' r' f' g'. one_pair u i j others a b c d has' also are l' r' left' right' f' g') l r f g)
      has is left right from to

  -- ---- the law

  pub one_row_of : (t i u j : ℕ) (p q : Place) (f : Fact) → HasRow D t i → HasRow D u j → GraphRowStandsAt Map base D t i p f → GraphRowStandsAt Map base D u j q f → (t ≡ u) × (i ≡ j)
  one_row_of t i u j p q f has also (row_mark marks kind v at e) y = absurd marks
  one_row_of t i u j p q f has also (row_of_class class s) (row_mark marks kind v at e) = absurd marks
  one_row_of t i u j p q f has also (row_of_relation sides a b counts left right at e) (row_mark marks kind v at' e') = absurd marks
  one_row_of t i u j p q f has also (row_of_class class s) (row_of_class class' s') =
      own.apart t i u j has also (same_node_of (row_node base D t i) (row_node base D u j) f (of_class_row base D t i p f s) (of_class_row base D u j q f s'))
  one_row_of t i u j p q f has also (row_of_class class s) (row_of_relation sides a b counts left right at e) =
      absurd (subst (IsOfNode (row_node base D t i)) e (of_class_row base D t i p f s))
  one_row_of t i u j p q f has also (row_of_relation sides a b counts left right at e) (row_of_class class s) =
      absurd (subst (IsOfNode (row_node base D u j)) e (of_class_row base D u j q f s))
  one_row_of t i u j p q f has also (row_of_relation sides a b counts left right at e) (row_of_relation others c d counts' left' right' at' e') =
      let ends = same_ends (relation_name D.tables t sides) (relation_name D.tables u others) (row_node base D (left_key D.tables t sides).target a) (row_node base D (right_key D.tables t sides).target b)
      (row_node base D (left_key D.tables u others).target c) (row_node base D (right_key D.tables u others).target d) (sym e ∙ e') in
      let same : t ≡ u = one_table t u has.table also.table (ap (λ (r : RelName). r.table) ends.0) in
      (same, one_of_tables t u i j sides others a b c d same has also counts counts' left right left' right' ends.1 ends.2)
