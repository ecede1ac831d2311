-- The pattern of a class keeps the rows of its table.
use Rattle.std.proofs.Common.{◌≡◌, ◌≢◌, ◌⊎◌, ◌<◌, ◌↔◌, ℕ, List, [], ◌∷◌, Some, None, Bool, true, false, length, refl, sym, ap, ◌∙◌, subst, inl, inr, ⊎_elim, cond}
use Rattle.std.specs.Str.{bytes_eq}
use Rattle.std.proofs.lemmas.Bool.{both_ways, cond-false, or_cases, or_left, or_right}
use Rattle.std.proofs.lemmas.Option.{get_or_from_slice_get, none-some, slice_get-get_or, slice_get_within}
use Rattle.members_dm.specs.Membership.{IsIn}
use Rattle.members_dm.proofs.ElementsLemmas.{index_of_item, item_within}
use Rattle.names_dm.specs.Variables.{variable_of}
use Rattle.schema_dm.specs.Naming.{Name, column_names}
use Rattle.schema_dm.specs.Schemas.{no_table, table_at}
use Rattle.schema_dm.specs.declared.table.Table.{Table}
use Rattle.facts_dm.specs.Meanings.{NamingLaws}
use Rattle.table_csv.specs.Cells.{Cell}
use Rattle.table_csv.specs.Databases.{Data, IsDatabase, rows_at}
use Rattle.keys_dm.specs.KeyCells.{row_at}
use Rattle.algebra_dm.specs.Tuples.{Tuple, IsRowOfTable, IsUnder}
use Rattle.query_rows_dm.specs.Grids.{term_in}
use Rattle.graphs_dm.specs.Graphs.{IsTripleOf}
use Rattle.graphs_dm.specs.OwnNodes.{HasRow, RowsHaveOwnNodes}
use Rattle.graphs_dm.specs.Relations.{CountsAsClass}
use Rattle.graphs_dm.specs.declared.graph_name.GraphName.{GraphName}
use Rattle.pattern_dm.specs.Mappings.{Compatible, Mapping}
use Rattle.pattern_dm.specs.declared.pattern.Condition.TheVariants as conditions
use Rattle.pattern_dm.specs.declared.pattern.Pattern.{Pattern}
use Rattle.pattern_dm.specs.declared.pattern.Pattern.TheVariants as patterns
use Rattle.keeping_dm.specs.Keeping.{Keeps}
use Rattle.names_dm.proofs.VariableLaws.{never_reserved, variable_of-injective}
use Rattle.table_patterns_dm.specs.TablePatterns.{class_pattern, column_triple, row_variable, type_triple, with_columns, with_optional}
use Rattle.table_patterns_dm.proofs.Cut.{AgreeOn, IsAlone, Solves, Variables, and_solves, bytes_self, cut, either, keeps_selected, left_solves, one_term, other_bytes, same_bytes, two}
use Rattle.table_patterns_dm.proofs.Rows.{RowOf, ValueOf, columns_of, node_at, one_tuple, same_row, tuple_in, tuple_under, type_solves, value_at_node, value_at_variable, value_mapping, value_solves}
use Rattle.table_patterns_dm.proofs.Told.{is_table, one_table}

-- the variable of a row is no attribute's
pub not_row : (a : Name) → row_variable ≢ variable_of a
not_row a e = never_reserved a (inl (sym e))

-- ---- cells under the variables of their columns

abbrev pub cells_of : List Name → Tuple → Mapping
cells_of [] w x = None
cells_of (c ∷ cs) w x = cond (bytes_eq (variable_of c) x) (term_in (w c)) (cells_of cs w x)

pub cell_at : (names : List Name) (w : Tuple) (c : Name) → IsIn c names → cells_of names w (variable_of c) ≡ term_in (w c)
cell_at [] w c h = absurd h
cell_at (d ∷ ds) w c h = go (λ k. cell_at ds w c k) (bytes_eq (variable_of d) (variable_of c)) refl h
  where
    go : (IsIn c ds → cells_of ds w (variable_of c) ≡ term_in (w c)) → (b : Bool) → bytes_eq (variable_of d) (variable_of c) ≡ b → (d ≡ c) ⊎ IsIn c ds → cond b (term_in (w d)) (cells_of ds w (variable_of c)) ≡ term_in (w c)
    go rest true e k = ap (λ n. term_in (w n)) (variable_of-injective d c (same_bytes _ _ e))
    go rest false e (inl s) = absurd (both_ways _ e (subst (λ n. bytes_eq (variable_of d) (variable_of n) ≡ true) s (bytes_self (variable_of d))))
    go rest false e (inr k) = rest k

-- the rows of the table
pub row_there : (base : List ℕ) (D : Data) (t : ℕ) (name : Name) → IsDatabase D → t < length D.tables → name ≡ (table_at D.tables t).name → (w : Tuple) → IsRowOfTable D name w
    → (i : ℕ) × HasRow D t i × IsUnder (column_names (table_at D.tables t).columns) (row_at (rows_at D.rows t) i) w
row_there base D t name database below named w h =
    let table : table_at D.tables h.0 ≡ h.1 = get_or_from_slice_get D.tables h.0 h.1 no_table h.3 in
    let same : t ≡ h.0 = one_table D.tables t h.0 database.schema below (slice_get_within D.tables h.0 h.1 h.3) (sym named ∙ sym h.4 ∙ ap (λ (x : Table). x.name) (sym table)) in
    let i = index_of_item h.2 (rows_at D.rows h.0) h.5 in
    let row : row_at (rows_at D.rows h.0) i.0 ≡ h.2 = get_or_from_slice_get (rows_at D.rows h.0) i.0 h.2 [] i.2 in
    let under : IsUnder (column_names (table_at D.tables h.0).columns) (row_at (rows_at D.rows h.0) i.0) w = subst (λ r. IsUnder (column_names (table_at D.tables h.0).columns) r w) (sym row) (subst (λ (x : Table). IsUnder (column_names x.columns) h.2 w) (sym table) h.6) in (
      i.0,
      record { table = below; row = subst (λ u. i.0 < length (rows_at D.rows u)) (sym same) i.1 },
      subst (λ u. IsUnder (column_names (table_at D.tables u).columns) (row_at (rows_at D.rows u) i.0) w) (sym same) under,
    )

pub is_row : (D : Data) (t i : ℕ) (w : Tuple) → HasRow D t i → IsUnder (column_names (table_at D.tables t).columns) (row_at (rows_at D.rows t) i) w → IsRowOfTable D (table_at D.tables t).name w
is_row D t i w has under = (t, table_at D.tables t, row_at (rows_at D.rows t) i, slice_get-get_or D.tables t no_table has.table, refl, item_within (rows_at D.rows t) i [] has.row, under)

module _ (graph : GraphName) (base : List ℕ) (D : Data) (database : IsDatabase D) (laws : NamingLaws base) (own : RowsHaveOwnNodes base D) where
  module _ (t : ℕ) (below : t < length D.tables) (class : CountsAsClass graph D.tables t) where
    abbrev name : Name
    name = (table_at D.tables t).name

    abbrev I : Type 0
    I = RowOf graph base D database laws own t

    abbrev names : List Name
    names = columns_of graph base D database laws own t

    abbrev w : I → Tuple
    w i = tuple_in graph base D database laws own t i.row

    -- the row's node and its cells
    abbrev F : I → Mapping
    F i x = cond (bytes_eq row_variable x) (Some (node_at graph base D database laws own t i.row)) (cells_of names (w i) x)

    at_row : (i : I) → F i row_variable ≡ Some (node_at graph base D database laws own t i.row)
    at_row i = refl

    at_column : (i : I) (c : Name) → IsIn c names → F i (variable_of c) ≡ term_in (w i c)
    at_column i c h = cond-false _ _ _ (other_bytes row_variable (variable_of c) (not_row c)) ∙ cell_at names (w i) c h

    -- ---- one more column

    module _ (c : Name) (here : IsIn c names) where
      abbrev J : Type 0
      J = ValueOf graph base D database laws own t c

      abbrev G : J → Mapping
      G = value_mapping graph base D database laws own t c below class here row_variable c (not_row c)

      abbrev W : Variables
      W = two row_variable (variable_of c)

      column_solves : Solves (IsTripleOf graph base D) (column_triple base name c) J W G
      column_solves = value_solves graph base D database laws own t c below class here row_variable c (not_row c)

      agree_row : (i : I) (j : J) → i.row ≡ j.row → AgreeOn W (F i) (G j)
      agree_row i j same x e = ⊎_elim
          (λ h. subst (λ y. G j y ≡ F i y) (same_bytes row_variable x h)
          (value_at_node graph base D database laws own t c below class here row_variable c (not_row c) j ∙ ap (λ r. Some (node_at graph base D database laws own t r)) (sym same) ∙ sym (at_row i)))
          (λ h. subst (λ y. G j y ≡ F i y) (same_bytes (variable_of c) x h)
          (value_at_variable graph base D database laws own t c below class here row_variable c (not_row c) j ∙ ap (λ r. term_in (tuple_in graph base D database laws own t r c)) (sym same) ∙ sym (at_column i c here)))
          (or_cases _ _ e)

      one_row : (V : Variables) → V row_variable ≡ true → (i : I) (j : J) → Compatible (cut V (F i)) (cut W (G j)) → i.row ≡ j.row
      one_row V v i j fits = same_row graph base D database laws own t i.row j.row i.has j.has
          (one_term V W (F i) (G j) row_variable _ _ fits v refl (at_row i) (value_at_node graph base D database laws own t c below class here row_variable c (not_row c) j))

      value_there : (i : I) (o : Cell) → w i c ≡ o → o ≢ None → (j : J) × AgreeOn W (F i) (G j)
      value_there i None e n = absurd (n refl)
      value_there i (Some v) e n = let j : J = record { row = i.row; has = i.has; value = v; cell = e } in (j, agree_row i j refl)

      module _ (p : Pattern) (V : Variables) (v : V row_variable ≡ true) (solves : Solves (IsTripleOf graph base D) p I V F) where
        certain_column : ((i : I) → w i c ≢ None) → Solves (IsTripleOf graph base D) (patterns.And p (column_triple base name c)) I (either V W) F
        certain_column sure = and_solves (IsTripleOf graph base D) p (column_triple base name c) I J V W F G solves column_solves
            (λ i j fits. agree_row i j (one_row V v i j fits))
            (λ i. value_there i (w i c) refl (sure i))

        other_column : Solves (IsTripleOf graph base D) (patterns.LeftJoin p (column_triple base name c) conditions.True) I (either V W) F
        other_column = left_solves (IsTripleOf graph base D) p (column_triple base name c) I J V W F G solves column_solves
            (λ i j fits. agree_row i j (one_row V v i j fits))
            (λ i. found i (w i c) refl)
          where
            found : (i : I) (o : Cell) → w i c ≡ o
                → ((j : J) × AgreeOn W (F i) (G j)) ⊎ IsAlone V W F G i
            found i (Some x) e = inl (value_there i (Some x) e (λ n. none-some x (sym n)))
            found i None e = inr (record {
              alone = λ j fits. none-some j.value (sym e ∙ ap (λ r. tuple_in graph base D database laws own t r c) (one_row V v i j fits) ∙ j.cell);
              no_more = λ x in_w not_v. ⊎_elim
                  (λ h. absurd (both_ways _ not_v (subst (λ y. V y ≡ true) (same_bytes row_variable x h) v)))
                  (λ h. subst (λ y. F i y ≡ None) (same_bytes (variable_of c) x h) (at_column i c here ∙ ap term_in e))
                  (or_cases _ _ in_w);
            })

    -- ---- all columns

    -- the variables with those of these columns
    abbrev more : Variables → List Name → Variables
    more V [] = V
    more V (c ∷ cs) = more (either V (two row_variable (variable_of c))) cs

    kept_variable : (V : Variables) (cs : List Name) (x : List ℕ) → V x ≡ true → more V cs x ≡ true
    kept_variable V [] x v = v
    kept_variable V (c ∷ cs) x v = kept_variable (either V (two row_variable (variable_of c))) cs x (or_left _ _ v)

    new_variable : (V : Variables) (cs : List Name) (c : Name) → IsIn c cs → more V cs (variable_of c) ≡ true
    new_variable V [] c h = absurd h
    new_variable V (d ∷ cs) c (inl e) =
        kept_variable (either V (two row_variable (variable_of d))) cs (variable_of c) (or_right _ _ (or_right _ _ (subst (λ n. bytes_eq (variable_of d) (variable_of n) ≡ true) e (bytes_self (variable_of d)))))
    new_variable V (d ∷ cs) c (inr h) = new_variable (either V (two row_variable (variable_of d))) cs c h

    certain_columns : (cs : List Name) (p : Pattern) (V : Variables) → V row_variable ≡ true → ((c : Name) → IsIn c cs → IsIn c names × ((i : I) → w i c ≢ None))
        → Solves (IsTripleOf graph base D) p I V F → Solves (IsTripleOf graph base D) (with_columns base name p cs) I (more V cs) F
    certain_columns [] p V v sure k = k
    certain_columns (c ∷ cs) p V v sure k =
        certain_columns cs (patterns.And p (column_triple base name c)) (either V (two row_variable (variable_of c))) (or_left _ _ v) (λ d h. sure d (inr h))
        (certain_column c (sure c (inl refl)).0 p V v k (sure c (inl refl)).1)

    other_columns : (cs : List Name) (p : Pattern) (V : Variables) → V row_variable ≡ true → ((c : Name) → IsIn c cs → IsIn c names)
        → Solves (IsTripleOf graph base D) p I V F → Solves (IsTripleOf graph base D) (with_optional base name p cs) I (more V cs) F
    other_columns [] p V v among k = k
    other_columns (c ∷ cs) p V v among k =
        other_columns cs (patterns.LeftJoin p (column_triple base name c) conditions.True) (either V (two row_variable (variable_of c))) (or_left _ _ v) (λ d h. among d (inr h))
        (other_column c (among c (inl refl)) p V v k)

    module _ (certain others attributes : List Name)
        (sure : (c : Name) → IsIn c certain → IsIn c names × ((i : I) → w i c ≢ None))
        (among : (c : Name) → IsIn c others → IsIn c names)
        (whole : (c : Name) → IsIn c names → IsIn c certain ⊎ IsIn c others)
        (all : (a : Name) → IsIn a attributes ↔ IsIn a names) where
      abbrev start : Variables
      start = bytes_eq row_variable

      abbrev V : Variables
      V = more (more start certain) others

      start_row : start row_variable ≡ true
      start_row = bytes_self row_variable

      solved : Solves (IsTripleOf graph base D) (with_optional base name (with_columns base name (type_triple base name) certain) others) I V F
      solved = other_columns others (with_columns base name (type_triple base name) certain) (more start certain) (kept_variable start certain row_variable start_row) among
          (certain_columns certain (type_triple base name) start start_row sure (type_solves graph base D database laws own t below class F at_row))

      bound : (a : Name) → IsIn a names → V (variable_of a) ≡ true
      bound a h = ⊎_elim
          (λ k. kept_variable (more start certain) others (variable_of a) (new_variable start certain a k))
          (λ k. new_variable (more start certain) others a k)
          (whole a h)

      under : (i : I) → IsUnder names (row_at (rows_at D.rows t) i.row) (w i)
      under i = tuple_under names (row_at (rows_at D.rows t) i.row) (is_table D.tables t database.schema below).distinct

      pub class_keeps : Keeps (IsTripleOf graph base D) (class_pattern base name certain others attributes) (IsRowOfTable D name)
      class_keeps = keeps_selected (IsTripleOf graph base D) (with_optional base name (with_columns base name (type_triple base name) certain) others) I V F solved names attributes w (IsRowOfTable D name)
          all
          bound
          at_column
          (λ i a n. (under i).others a n)
          (λ i. is_row D t i.row (w i) i.has (under i))
          (λ u h. let r = row_there base D t name database below refl u h in
          let i : I = record { row = r.0; has = r.1 } in
          (i, one_tuple names (row_at (rows_at D.rows t) r.0) u (w i) r.2 (under i)))
