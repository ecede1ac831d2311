-- The pattern of a relation keeps the rows of its table.
use Rattle.std.proofs.Common.{◌≡◌, ◌≢◌, ◌⊎◌, ◌<◌, ◌↔◌, ℕ, zero, suc, List, [], ◌∷◌, Some, None, true, length, refl, sym, ap, ◌∙◌, subst, inl, inr, ⊎_elim, cond, arith}
use Rattle.std.specs.Prelude.{slice_get, slice_index_or}
use Rattle.std.specs.List.{Any}
use Rattle.std.specs.Str.{bytes_eq}
use Rattle.std.proofs.lemmas.Bool.{cond-false, or_cases, or_left, or_right}
use Rattle.std.proofs.lemmas.Option.{get_or_from_slice_get}
use Rattle.members_dm.specs.Membership.{IsIn}
use Rattle.members_dm.proofs.AnyLemmas.{any_from_item}
use Rattle.members_dm.proofs.ElementsLemmas.{item_at_index, item_within}
use Rattle.names_dm.specs.Names.{rel_iri}
use Rattle.names_dm.specs.Statements.{Statement}
use Rattle.names_dm.specs.Variables.{variable_of}
use Rattle.names_dm.specs.declared.names.RefName.{RefName}
use Rattle.names_dm.specs.declared.names.RelName.{RelName}
use Rattle.names_dm.specs.declared.term.Term.{Term}
use Rattle.schema_dm.specs.Naming.{Name, column_names, name_at}
use Rattle.schema_dm.specs.Relations.{IsBinaryRelation, IsSideAt}
use Rattle.schema_dm.specs.Schemas.{IsForeignKey, no_table, table_at}
use Rattle.schema_dm.specs.declared.draft.Column.{Column}
use Rattle.schema_dm.specs.declared.table.Binary.{Binary}
use Rattle.schema_dm.specs.declared.table.ForeignKey.{ForeignKey}
use Rattle.schema_dm.specs.declared.table.Table.{Table}
use Rattle.schema_dm.proofs.OneRelation.{sides_unique}
use Rattle.facts_dm.specs.Facts.{Node, a_link, node_term, ref_link, rel_link, triple_of}
use Rattle.facts_dm.specs.Meanings.{NamingLaws}
use Rattle.table_csv.specs.Cells.{Cell, cells_at}
use Rattle.table_csv.specs.Databases.{Data, IsDatabase, rows_at}
use Rattle.keys_dm.specs.Kept.{HasMatches}
use Rattle.keys_dm.specs.KeyCells.{row_at}
use Rattle.keys_dm.specs.Violations.{KeepsKeys}
use Rattle.algebra_dm.specs.Tuples.{Tuple, IsRowOfTable, IsUnder}
use Rattle.query_rows_dm.specs.Grids.{term_in}
use Rattle.graphs_dm.specs.Graphs.{IsTripleOf, of_row, row_of_relation}
use Rattle.graphs_dm.specs.Nodes.{row_node}
use Rattle.graphs_dm.specs.OwnNodes.{HasRow, RowsHaveOwnNodes}
use Rattle.graphs_dm.specs.Relations.{CountsAsClass, left_key, no_key, relation_name, relation_of, right_key, target_name}
use Rattle.graphs_dm.specs.RowFacts.{References}
use Rattle.graphs_dm.specs.declared.graph_name.GraphName.TheVariants.{Map}
use Rattle.graph_layouts_dm.proofs.RelationRows.{pair_cells, referenced_row, row_is, row_references}
use Rattle.pattern_dm.specs.Mappings.{Mapping}
use Rattle.pattern_dm.specs.declared.pattern.Pattern.{Pattern}
use Rattle.pattern_dm.specs.declared.pattern.Pattern.TheVariants as patterns
use Rattle.keeping_dm.specs.Keeping.{Keeps}
use Rattle.names_dm.proofs.VariableLaws.{never_reserved}
use Rattle.table_patterns_dm.specs.TablePatterns.{key_triple, relation_pattern, relation_triple, row_variable, second_variable}
use Rattle.table_patterns_dm.proofs.Classes.{cell_at, cells_of, is_row, not_row, row_there}
use Rattle.table_patterns_dm.proofs.Cut.{AgreeOn, Solves, Variables, and_solves, bytes_self, either, keeps_selected, link_solves, one_term, other_bytes, same_bytes, two}
use Rattle.table_patterns_dm.proofs.Rows.{RowOf, ValueOf, columns_of, in_tuple, node_at, one_tuple, same_row, tuple_in, tuple_under, value_at_node, value_at_variable, value_mapping, value_solves}
use Rattle.table_patterns_dm.proofs.Told.{IsRelationOfRow, is_table, link_told, one_table}

-- the second variable is no attribute's
not_second : (a : Name) → second_variable ≢ variable_of a
not_second a e = never_reserved a (inr (inl (sym e)))

names_two : (columns : List Column) → length columns ≡ 2 → (a : Name) → IsIn a (column_names columns) → (name_at columns 0 ≡ a) ⊎ (name_at columns 1 ≡ a)
names_two [] long a h = absurd h
names_two (x ∷ []) long a h = absurd (omega (arith, long))
names_two (x ∷ y ∷ []) long a (inl e) = inl e
names_two (x ∷ y ∷ []) long a (inr (inl e)) = inr e
names_two (x ∷ y ∷ []) long a (inr (inr h)) = absurd h
names_two (x ∷ y ∷ z ∷ columns) long a h = absurd (omega (arith, long))

one_long : (places : List ℕ) → length places ≡ 1 → (q : ℕ) × (places ≡ q ∷ [])
one_long [] long = absurd (omega (arith, long))
one_long (q ∷ []) long = (q, refl)
one_long (q ∷ r ∷ places) long = absurd (omega (arith, long))

name_there : (columns : List Column) (k : ℕ) → k < length columns → slice_get (column_names columns) k ≡ Some (name_at columns k)
name_there [] k below = absurd (omega (arith, below))
name_there (x ∷ xs) zero below = refl
name_there (x ∷ xs) (suc k) below = name_there xs k (omega (arith, below))

no_reference : (r : RelName) (n : RefName) → rel_link r ≡ ref_link n → ⊥
no_reference r n e = cc

one_cell : (x y : Cell) → x ∷ [] ≡ y ∷ [] → x ≡ y
one_cell x y e = cc

module _ (base : List ℕ) (D : Data) (database : IsDatabase D) (laws : NamingLaws base) (own : RowsHaveOwnNodes base D) (kept : KeepsKeys D) (matched : HasMatches D) where
  module _ (t : ℕ) (below : t < length D.tables) (sides : Binary) (is : IsBinaryRelation D.tables t sides) where
    abbrev I : Type 0
    I = RowOf Map base D database laws own t

    abbrev names : List Name
    names = columns_of Map base D database laws own t

    abbrev w : I → Tuple
    w i = tuple_in Map base D database laws own t i.row

    abbrev node : ℕ → ℕ → Term
    node = node_at Map base D database laws own

    -- ---- a key on one column

    module _ (key : ForeignKey) (place : ℕ) (which : (place ≡ 0) ⊎ (place ≡ 1)) (on : key.columns ≡ place ∷ []) (whole : (table_at D.tables key.target).primary ≡ Some key.target_columns) (among : IsIn key (table_at D.tables t).foreign) where
      lawful : IsForeignKey D.tables (table_at D.tables t) key
      lawful = (is_table D.tables t database.schema below).foreign key among

      in_pair : place < length (table_at D.tables t).columns
      in_pair = lawful.columns.within place (subst (IsIn place) (sym on) (inl refl))

      -- the column of the key
      abbrev A : Name
      A = name_at (table_at D.tables t).columns place

      pub source : (i : I) → w i A ≡ slice_index_or (row_at (rows_at D.rows t) i.row) place None
      source i = in_tuple Map base D database laws own t i.row place A below (name_there (table_at D.tables t).columns place in_pair)

      -- the column that it references
      column : (q : ℕ) × (key.target_columns ≡ q ∷ [])
      column = one_long key.target_columns (lawful.as_many ∙ ap length on)

      abbrev C : Name
      C = target_name D.tables key

      column_below : column.0 < length (table_at D.tables key.target).columns
      column_below = ((is_table D.tables key.target database.schema lawful.target).primary key.target_columns whole).within column.0 (subst (IsIn column.0) (sym column.1) (inl refl))

      column_named : slice_get (columns_of Map base D database laws own key.target) column.0 ≡ Some C
      column_named = name_there (table_at D.tables key.target).columns column.0 column_below ∙ ap (λ qs. Some (name_at (table_at D.tables key.target).columns (slice_index_or qs 0 0))) (sym column.1)

      here : IsIn C (columns_of Map base D database laws own key.target)
      here = item_at_index C (columns_of Map base D database laws own key.target) column.0 column_named

      class : CountsAsClass Map D.tables key.target
      class = λ others r. r.no_target
          (any_from_item (λ (other : Table). Any (λ (k : ForeignKey). k.target ≡ key.target) other.foreign) (table_at D.tables t) D.tables (item_within D.tables t no_table below)
          (any_from_item (λ (k : ForeignKey). k.target ≡ key.target) key (table_at D.tables t).foreign among refl))

      pub target_row : I → ℕ
      target_row i = referenced_row D t key i.row

      pub references : (i : I) → References D t i.row key (target_row i)
      unfolding target_row
      references i = row_references D kept matched t place sides key is which on among i.row i.has

      pub referenced : (i : I) (j : ℕ) → References D t i.row key j → j ≡ target_row i
      unfolding target_row
      referenced i j r = (row_is D kept matched t place sides key is which on among i.row j i.has).0 r

      target_has : (i : I) → HasRow D key.target (target_row i)
      target_has i = record { table = lawful.target; row = (references i).1.0 }

      same_value : (i : I) → tuple_in Map base D database laws own key.target (target_row i) C ≡ w i A
      same_value i =
          let cells : cells_at key.target_columns (row_at (rows_at D.rows key.target) (target_row i)) ≡ cells_at key.columns (row_at (rows_at D.rows t) i.row) = (references i).1.1 in
          in_tuple Map base D database laws own key.target (target_row i) column.0 C lawful.target column_named
          ∙ one_cell _ _ (ap (λ qs. cells_at qs (row_at (rows_at D.rows key.target) (target_row i))) (sym column.1) ∙ cells ∙ ap (λ ps. cells_at ps (row_at (rows_at D.rows t) i.row)) on)
          ∙ sym (source i)

      has_value : (i : I) → w i A ≢ None
      has_value i none = pair_cells D kept matched t i.row place sides i.has is which (inl (sym (source i) ∙ none))

      -- ---- the triple of the value that the row references

      module _ (s : List ℕ) (apart : s ≢ variable_of A) (F : I → Mapping) (at_node : (i : I) → F i s ≡ Some (node key.target (target_row i))) (at_value : (i : I) → F i (variable_of A) ≡ term_in (w i A)) where
        abbrev J : Type 0
        J = ValueOf Map base D database laws own key.target C

        abbrev G : J → Mapping
        G = value_mapping Map base D database laws own key.target C lawful.target class here s A apart

        abbrev W : Variables
        W = two s (variable_of A)

        g_node : (j : J) → G j s ≡ Some (node key.target j.row)
        g_node = value_at_node Map base D database laws own key.target C lawful.target class here s A apart

        g_value : (j : J) → G j (variable_of A) ≡ term_in (tuple_in Map base D database laws own key.target j.row C)
        g_value = value_at_variable Map base D database laws own key.target C lawful.target class here s A apart

        agree_row : (i : I) (j : J) → target_row i ≡ j.row → AgreeOn W (F i) (G j)
        agree_row i j same x e = ⊎_elim
            (λ h. subst (λ y. G j y ≡ F i y) (same_bytes s x h) (g_node j ∙ ap (λ r. Some (node key.target r)) (sym same) ∙ sym (at_node i)))
            (λ h. subst (λ y. G j y ≡ F i y) (same_bytes (variable_of A) x h)
            (g_value j ∙ ap (λ r. term_in (tuple_in Map base D database laws own key.target r C)) (sym same) ∙ ap term_in (same_value i) ∙ sym (at_value i)))
            (or_cases _ _ e)

        value_there : (i : I) (o : Cell) → w i A ≡ o → (j : J) × AgreeOn W (F i) (G j)
        value_there i None e = absurd (has_value i e)
        value_there i (Some v) e = let j : J = record { row = target_row i; has = target_has i; value = v; cell = same_value i ∙ e } in (j, agree_row i j refl)

        pub key_solves : (p : Pattern) (V : Variables) → V s ≡ true → Solves (IsTripleOf Map base D) p I V F → Solves (IsTripleOf Map base D) (patterns.And p (key_triple base s D.tables key A)) I (either V W) F
        key_solves p V v solves = and_solves (IsTripleOf Map base D) p (key_triple base s D.tables key A) I J V W F G solves
            (value_solves Map base D database laws own key.target C lawful.target class here s A apart)
            (λ i j fits. agree_row i j (same_row Map base D database laws own key.target (target_row i) j.row (target_has i) j.has
            (one_term V W (F i) (G j) s _ _ fits v (or_left _ _ (bytes_self s)) (at_node i) (g_node j))))
            (λ i. value_there i (w i A) refl)

    -- ---- both keys

    abbrev left : ForeignKey
    left = left_key D.tables t sides

    abbrev right : ForeignKey
    right = right_key D.tables t sides

    side_is : (number place : ℕ) (at : IsSideAt D.tables (table_at D.tables t).foreign place number) → at.0 ≡ slice_index_or (table_at D.tables t).foreign number no_key
    side_is number place at = sym (get_or_from_slice_get (table_at D.tables t).foreign number at.0 no_key at.1)

    -- what is known of a side
    record IsKeyOn (key : ForeignKey) (place : ℕ) : Type 0 where
      on : key.columns ≡ place ∷ []
      whole : (table_at D.tables key.target).primary ≡ Some key.target_columns
      among : IsIn key (table_at D.tables t).foreign

    side_key : (number place : ℕ) → IsSideAt D.tables (table_at D.tables t).foreign place number → IsKeyOn (slice_index_or (table_at D.tables t).foreign number no_key) place
    side_key number place at = subst (λ k. IsKeyOn k place) (side_is number place at)
        (record { on = at.2.0; whole = at.2.1; among = item_at_index at.0 (table_at D.tables t).foreign number at.1 })

    l : IsKeyOn left 0
    l = side_key sides.left 0 is.left

    r : IsKeyOn right 1
    r = side_key sides.right 1 is.right

    abbrev left_row : I → ℕ
    left_row = target_row left 0 (inl refl) l.on l.whole l.among

    abbrev right_row : I → ℕ
    right_row = target_row right 1 (inr refl) r.on r.whole r.among

    abbrev name : Name
    name = (table_at D.tables t).name

    abbrev first_name : Name
    first_name = name_at (table_at D.tables t).columns 0

    abbrev second_name : Name
    second_name = name_at (table_at D.tables t).columns 1

    -- the nodes of the rows that the row references, and its cells
    abbrev F : I → Mapping
    F i x = cond (bytes_eq row_variable x) (Some (node left.target (left_row i))) (cond (bytes_eq second_variable x) (Some (node right.target (right_row i))) (cells_of names (w i) x))

    at_first : (i : I) → F i row_variable ≡ Some (node left.target (left_row i))
    at_first i = refl

    at_second : (i : I) → F i second_variable ≡ Some (node right.target (right_row i))
    at_second i = refl

    at_column : (i : I) (c : Name) → IsIn c names → F i (variable_of c) ≡ term_in (w i c)
    at_column i c h =
        cond-false _ _ _ (other_bytes row_variable (variable_of c) (not_row c)) ∙ cond-false _ _ _ (other_bytes second_variable (variable_of c) (not_second c)) ∙ cell_at names (w i) c h

    in_names : (place : ℕ) → place < 2 → IsIn (name_at (table_at D.tables t).columns place) names
    in_names place small = item_at_index _ names place (name_there (table_at D.tables t).columns place (subst (λ n. place < n) (sym is.two_columns) small))

    abbrev relation : RelName
    relation = relation_name D.tables t sides

    -- the rows of the relation by their links
    abbrev IsLinkOf : ℕ → Binary → ℕ → ℕ → ℕ → Node → Node → Type 0
    IsLinkOf u s row j k n m = HasRow D u row × References D u row (left_key D.tables u s) j × References D u row (right_key D.tables u s) k
        × (n ≡ row_node base D (left_key D.tables u s).target j) × (m ≡ row_node base D (right_key D.tables u s).target k)

    links_same : (a b : RelName) → rel_link a ≡ rel_link b → a ≡ b
    links_same a b e = cc

    link_here : (n m : Node) (h : IsRelationOfRow Map base D n (rel_link relation) m) → IsLinkOf t sides h.row h.left h.right n m
    link_here n m h =
        let same : h.table ≡ t = one_table D.tables h.table t database.schema h.has.table below (ap (λ (x : RelName). x.table) (sym (links_same relation (relation_name D.tables h.table h.sides) h.named))) in
        let binary : IsBinaryRelation D.tables t h.sides = subst (λ u. IsBinaryRelation D.tables u h.sides) same h.relation in
        let one : h.sides ≡ sides = sides_unique D.tables t h.sides sides (is_table D.tables t database.schema below).apart binary is in
        subst (λ s. IsLinkOf t s h.row h.left h.right n m) one
        (subst (λ u. IsLinkOf u h.sides h.row h.left h.right n m) same (h.has, h.from, h.to, h.first, h.second))

    relation_solves : Solves (IsTripleOf Map base D) (relation_triple base D.tables t sides) I (two row_variable second_variable) F
    relation_solves = link_solves (IsTripleOf Map base D) I F row_variable (rel_iri base relation) second_variable back forth
      where
        back : (s : Statement) → IsTripleOf Map base D s → s.predicate ≡ rel_iri base relation → (i : I) × (F i row_variable ≡ Some s.subject) × (F i second_variable ≡ Some s.object)
        back s h p =
            let k = link_told Map base D database laws relation s h p in
            ⊎_elim
            (λ no_link. absurd (no_reference relation _ no_link.named))
            (λ link.
            let q = link_here k.0 k.1 link in
            let i : I = record { row = link.row; has = q.0 } in (
              i,
              at_first i ∙ ap (λ j. Some (node left.target j)) (sym (referenced left 0 (inl refl) l.on l.whole l.among i link.left q.1)) ∙ ap (λ n. Some (node_term n)) (sym q.3) ∙ ap (λ (x : Statement). Some x.subject) (sym k.3),
              at_second i ∙ ap (λ j. Some (node right.target j)) (sym (referenced right 1 (inr refl) r.on r.whole r.among i link.right q.2)) ∙ ap (λ n. Some (node_term n)) (sym q.4) ∙ ap (λ (x : Statement). Some x.object) (sym k.3),
            ))
            k.2

        forth : (i : I) → (s : Statement) × IsTripleOf Map base D s × (s.predicate ≡ rel_iri base relation) × (F i row_variable ≡ Some s.subject) × (F i second_variable ≡ Some s.object)
        forth i =
            let f = a_link (row_node base D left.target (left_row i)) (relation_of D.tables t sides) (row_node base D right.target (right_row i)) in (
              triple_of base f,
              (
                f,
                (
                  1 ∷ t ∷ i.row ∷ 0 ∷ [],
                  of_row t i.row (0 ∷ []) i.has refl (row_of_relation sides (left_row i) (right_row i) is
                      (references left 0 (inl refl) l.on l.whole l.among i) (references right 1 (inr refl) r.on r.whole r.among i) refl refl),
                ),
                refl,
              ),
              refl,
              at_first i,
              at_second i,
            )

    -- the left key's triple, and then the right one's
    abbrev with_left : Pattern
    with_left = patterns.And (relation_triple base D.tables t sides) (key_triple base row_variable D.tables left first_name)

    abbrev left_variables : Variables
    left_variables = either (two row_variable second_variable) (two row_variable (variable_of first_name))

    left_solved : Solves (IsTripleOf Map base D) with_left I left_variables F
    left_solved = key_solves left 0 (inl refl) l.on l.whole l.among row_variable (not_row first_name) F at_first (λ i. at_column i first_name (in_names 0 (omega arith)))
        (relation_triple base D.tables t sides) (two row_variable second_variable) refl relation_solves

    abbrev V : Variables
    V = either left_variables (two second_variable (variable_of second_name))

    both_solved : Solves (IsTripleOf Map base D) (patterns.And with_left (key_triple base second_variable D.tables right second_name)) I V F
    both_solved = key_solves right 1 (inr refl) r.on r.whole r.among second_variable (not_second second_name) F at_second (λ i. at_column i second_name (in_names 1 (omega arith)))
        with_left left_variables refl left_solved

    bound : (a : Name) → IsIn a names → V (variable_of a) ≡ true
    bound a h = ⊎_elim
        (λ e. subst (λ n. V (variable_of n) ≡ true) e (or_left _ _ (or_right _ _ (or_right _ _ (bytes_self (variable_of first_name))))))
        (λ e. subst (λ n. V (variable_of n) ≡ true) e (or_right _ _ (or_right _ _ (bytes_self (variable_of second_name)))))
        (names_two (table_at D.tables t).columns is.two_columns a h)

    under : (i : I) → IsUnder names (row_at (rows_at D.rows t) i.row) (w i)
    under i = tuple_under names (row_at (rows_at D.rows t) i.row) (is_table D.tables t database.schema below).distinct

    pub relation_keeps : (attributes : List Name) → ((a : Name) → IsIn a attributes ↔ IsIn a names) → Keeps (IsTripleOf Map base D) (relation_pattern base D.tables t sides attributes) (IsRowOfTable D name)
    relation_keeps attributes all = keeps_selected (IsTripleOf Map base D) (patterns.And with_left (key_triple base second_variable D.tables right second_name)) I V F both_solved names attributes w (IsRowOfTable D name)
        all
        bound
        at_column
        (λ i a n. (under i).others a n)
        (λ i. is_row D t i.row (w i) i.has (under i))
        (λ u h. let k = row_there base D t name database below refl u h in
        let i : I = record { row = k.0; has = k.1 } in
        (i, one_tuple names (row_at (rows_at D.rows t) k.0) u (w i) k.2 (under i)))
