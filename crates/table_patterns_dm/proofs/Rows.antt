-- The rows of a table as tuples, and the patterns of single triples over the graph of a database.
use Rattle.std.proofs.Common.{◌≡◌, ◌≢◌, ◌<◌, ℕ, zero, suc, List, [], ◌∷◌, Some, None, true, length, refl, sym, ap, ◌∙◌, subst, inl, inr, ⊎_elim, cond}
use Rattle.std.specs.Prelude.{slice_get, slice_index_or}
use Rattle.std.specs.Option.{option_map}
use Rattle.std.specs.Str.{bytes_eq}
use Rattle.std.proofs.lemmas.Bool.{cond-true, cond-false}
use Rattle.std.proofs.lemmas.Option.{get_or_from_slice_get, none-some, same_Some, slice_get-map}
use Rattle.value_dm.specs.Kinds.{kind_of}
use Rattle.value_dm.specs.Lexical.{lexical_form}
use Rattle.value_dm.specs.declared.kind.Kind.{Kind}
use Rattle.value_dm.specs.declared.kind.Kind.TheVariants as kinds
use Rattle.value_dm.specs.declared.value.Value.{Value}
use Rattle.members_dm.specs.Membership.{IsIn, NoRepeats}
use Rattle.members_dm.proofs.ElementsLemmas.{index_of_item, item_at_index}
use Rattle.names_dm.specs.Literals.{normal_type}
use Rattle.names_dm.specs.Names.{column_iri, table_iri}
use Rattle.names_dm.specs.Statements.{Statement}
use Rattle.names_dm.specs.Variables.{variable_of}
use Rattle.names_dm.specs.declared.names.ColumnName.{ColumnName}
use Rattle.names_dm.specs.declared.term.Term.{Term}
use Rattle.names_dm.specs.declared.term.Term.TheVariants as terms
use Rattle.schema_dm.specs.Naming.{Name, column_names}
use Rattle.schema_dm.specs.Schemas.{table_at}
use Rattle.schema_dm.specs.declared.draft.Column.{Column}
use Rattle.facts_dm.specs.Facts.{KindText, Node, a_cell, a_node, blank, iri, literal_term, node_term, triple_of}
use Rattle.facts_dm.specs.Meanings.{NamingLaws}
use Rattle.facts_dm.specs.Vocabulary.{literal_type, word_iri}
use Rattle.facts_dm.specs.declared.word.Word.TheVariants.{RdfType}
use Rattle.table_csv.specs.Cells.{Row}
use Rattle.table_csv.specs.Databases.{Data, IsDatabase, rows_at}
use Rattle.keys_dm.specs.KeyCells.{row_at}
use Rattle.algebra_dm.specs.Tuples.{Tuple, IsUnder}
use Rattle.query_rows_dm.specs.Grids.{term_in, term_of}
use Rattle.query_rows_dm.proofs.RowLemmas.{in_or_not}
use Rattle.graphs_dm.specs.Graphs.{IsTripleOf, of_row, row_of_class}
use Rattle.graphs_dm.specs.Nodes.{row_node}
use Rattle.graphs_dm.specs.OwnNodes.{HasRow, RowsHaveOwnNodes}
use Rattle.graphs_dm.specs.Relations.{CountsAsClass}
use Rattle.graphs_dm.specs.RowFacts.{row_literal, row_type, value_text}
use Rattle.graphs_dm.specs.declared.graph_name.GraphName.{GraphName}
use Rattle.pattern_dm.specs.Mappings.{Mapping}
use Rattle.table_patterns_dm.specs.TablePatterns.{row_variable, type_triple, value_triple}
use Rattle.table_patterns_dm.proofs.Cut.{Solves, bytes_self, link_solves, other_bytes, triple_solves, two}
use Rattle.table_patterns_dm.proofs.Told.{IsCellOfRow, cell_told, is_table, one_table, type_told}

-- ---- rows as tuples

abbrev pub tuple_of : List Name → Row → Tuple
tuple_of [] cells a = None
tuple_of (c ∷ cs) [] a = None
tuple_of (c ∷ cs) (x ∷ xs) a = cond (bytes_eq c a) x (tuple_of cs xs a)

tuple_at : (names : List Name) (cells : Row) (place : ℕ) (a : Name) → NoRepeats names → slice_get names place ≡ Some a → tuple_of names cells a ≡ slice_index_or cells place None
tuple_at [] cells place a once e = absurd (none-some a e)
tuple_at (c ∷ cs) [] zero a once e = refl
tuple_at (c ∷ cs) [] (suc place) a once e = refl
tuple_at (c ∷ cs) (x ∷ xs) zero a once e = cond-true _ _ _ (subst (λ b. bytes_eq c b ≡ true) (same_Some c a e) (bytes_self c))
tuple_at (c ∷ cs) (x ∷ xs) (suc place) a once e =
    cond-false _ _ _ (other_bytes c a (λ s. once.0 (subst (λ b. IsIn b cs) (sym s) (item_at_index a cs place e)))) ∙ tuple_at cs xs place a once.1 e

tuple_out : (names : List Name) (cells : Row) (a : Name) → ¬ IsIn a names → tuple_of names cells a ≡ None
tuple_out [] cells a n = refl
tuple_out (c ∷ cs) [] a n = refl
tuple_out (c ∷ cs) (x ∷ xs) a n = cond-false _ _ _ (other_bytes c a (λ s. n (inl s))) ∙ tuple_out cs xs a (λ h. n (inr h))

pub tuple_under : (names : List Name) (cells : Row) → NoRepeats names → IsUnder names cells (tuple_of names cells)
tuple_under names cells once = record { named = λ place a e. tuple_at names cells place a once e; others = λ a n. tuple_out names cells a n }

-- the row's cells under the names are one tuple
pub one_tuple : (names : List Name) (cells : Row) (u v : Tuple) → IsUnder names cells u → IsUnder names cells v → (a : Name) → u a ≡ v a
one_tuple names cells u v hu hv a = ⊎_elim
    (λ h. let k = index_of_item a names h in hu.named k.0 a k.2 ∙ sym (hv.named k.0 a k.2))
    (λ n. hu.others a n ∙ sym (hv.others a n))
    (in_or_not a names)

-- ---- terms

normal : (k : Kind) → normal_type (literal_type k) ≡ literal_type k
normal kinds.Text = refl
normal kinds.Integer = refl
normal kinds.Decimal = refl
normal kinds.Boolean = refl
normal kinds.Date = refl
normal kinds.Time = refl
normal kinds.DateTime = refl
normal kinds.Binary = refl

pub literal_is : (v : Value) → literal_term (value_text v) ≡ term_of v
literal_is v = ap (λ k. terms.Literal (record { text = lexical_form v; kind = k })) (sym (normal (kind_of v)))

pub one_node : (n m : Node) → node_term n ≡ node_term m → n ≡ m
one_node (iri a) (iri b) e = cc
one_node (iri a) (blank b) e = cc
one_node (blank a) (iri b) e = cc
one_node (blank a) (blank b) e = cc

-- ---- single triples

module _ (graph : GraphName) (base : List ℕ) (D : Data) (database : IsDatabase D) (laws : NamingLaws base) (own : RowsHaveOwnNodes base D) where
  abbrev pub node_at : ℕ → ℕ → Term
  node_at t i = node_term (row_node base D t i)

  abbrev pub columns_of : ℕ → List Name
  columns_of t = column_names (table_at D.tables t).columns

  abbrev pub tuple_in : ℕ → ℕ → Tuple
  tuple_in t i = tuple_of (columns_of t) (row_at (rows_at D.rows t) i)

  pub in_tuple : (t i place : ℕ) (a : Name) → t < length D.tables → slice_get (columns_of t) place ≡ Some a → tuple_in t i a ≡ slice_index_or (row_at (rows_at D.rows t) i) place None
  in_tuple t i place a below e = (tuple_under (columns_of t) (row_at (rows_at D.rows t) i) (is_table D.tables t database.schema below).distinct).named place a e

  pub same_row : (t i j : ℕ) → HasRow D t i → HasRow D t j → node_at t i ≡ node_at t j → i ≡ j
  same_row t i j in_i in_j e = (own.apart t i t j in_i in_j (one_node _ _ e)).1

  -- a row of the table
  pub record RowOf (t : ℕ) : Type 0 where
    pub row : ℕ
    pub has : HasRow D t row

  -- a row of the table with a value in the column
  pub record ValueOf (t : ℕ) (c : Name) : Type 0 where
    pub row : ℕ
    pub has : HasRow D t row
    pub value : Value
    pub cell : tuple_in t row c ≡ Some value

  pub type_solves : (t : ℕ) → t < length D.tables → CountsAsClass graph D.tables t → (F : RowOf t → Mapping) → ((i : RowOf t) → F i row_variable ≡ Some (node_at t i.row))
      → Solves (IsTripleOf graph base D) (type_triple base (table_at D.tables t).name) (RowOf t) (bytes_eq row_variable) F
  type_solves t below class F at = triple_solves (IsTripleOf graph base D) (RowOf t) F row_variable (word_iri RdfType) (table_iri base name) back forth
    where
      name : Name
      name = (table_at D.tables t).name

      back : (s : Statement) → IsTripleOf graph base D s → s.predicate ≡ word_iri RdfType → s.object ≡ terms.Iri (table_iri base name) → (i : RowOf t) × (F i row_variable ≡ Some s.subject)
      back s h p o =
          let k = type_told graph base D database laws name s h p o in
          let same : k.1.table ≡ t = sym (one_table D.tables t k.1.table database.schema below k.1.has.table k.1.named) in
          let i : RowOf t = record { row = k.1.row; has = subst (λ u. HasRow D u k.1.row) same k.1.has } in
          (i, at i ∙ ap Some (sym (ap (λ u. node_at u k.1.row) same) ∙ ap node_term (sym k.1.node) ∙ ap (λ (x : Statement). x.subject) (sym k.2)))

      forth : (i : RowOf t) → (s : Statement) × IsTripleOf graph base D s × (s.predicate ≡ word_iri RdfType) × (s.object ≡ terms.Iri (table_iri base name)) × (F i row_variable ≡ Some s.subject)
      forth i =
          let f = a_node (row_node base D t i.row) name in
          (triple_of base f, (f, (1 ∷ t ∷ i.row ∷ 0 ∷ [], of_row t i.row (0 ∷ []) i.has refl (row_of_class class (row_type refl refl))), refl), refl, refl, at i)

  -- a triple in a column, with any variables for the row and the value
  module _ (t : ℕ) (c : Name) (below : t < length D.tables) (class : CountsAsClass graph D.tables t) (here : IsIn c (columns_of t)) (s : List ℕ) (a : Name) (apart : s ≢ variable_of a) where
    abbrev pub value_mapping : ValueOf t c → Mapping
    value_mapping j x = cond (bytes_eq s x) (Some (node_at t j.row)) (term_in (tuple_in t j.row c))

    pub value_at_node : (j : ValueOf t c) → value_mapping j s ≡ Some (node_at t j.row)
    value_at_node j = cond-true _ _ _ (bytes_self s)

    pub value_at_variable : (j : ValueOf t c) → value_mapping j (variable_of a) ≡ term_in (tuple_in t j.row c)
    value_at_variable j = cond-false _ _ _ (other_bytes s (variable_of a) apart)

    abbrev name : Name
    name = (table_at D.tables t).name

    -- the row of a cell that the graph tells
    value_here : (n : Node) (v : KindText) → IsCellOfRow graph base D n (record { table = name; column = c }) v
        → (j : ValueOf t c) × (Some (node_at t j.row) ≡ Some (node_term n)) × (term_in (tuple_in t j.row c) ≡ Some (literal_term v))
    value_here n v k = (j, ap Some (ap (λ u. node_at u k.row) (sym same) ∙ ap node_term (sym k.node)), ap term_in j.cell ∙ ap Some (sym (literal_is k.value) ∙ ap literal_term (sym k.text)))
      where
        same : k.table ≡ t
        same = sym (one_table D.tables t k.table database.schema below k.has.table (ap (λ (x : ColumnName). x.table) k.named))

        at : slice_get (columns_of k.table) k.place ≡ Some c
        at =
            slice_get-map (λ (d : Column). d.name) (table_at D.tables k.table).columns k.place ∙ ap (option_map (λ (d : Column). d.name)) k.at
            ∙ ap Some (sym (ap (λ (x : ColumnName). x.column) k.named))

        cell : tuple_in k.table k.row c ≡ Some k.value
        cell = in_tuple k.table k.row k.place c k.has.table at ∙ get_or_from_slice_get (row_at (rows_at D.rows k.table) k.row) k.place (Some k.value) None k.cell

        j : ValueOf t c
        j = record { row = k.row; has = subst (λ u. HasRow D u k.row) same k.has; value = k.value; cell = subst (λ u. tuple_in u k.row c ≡ Some k.value) same cell }

    pub value_solves : Solves (IsTripleOf graph base D) (value_triple base s (table_at D.tables t).name c a) (ValueOf t c) (two s (variable_of a)) value_mapping
    value_solves = link_solves (IsTripleOf graph base D) (ValueOf t c) value_mapping s (column_iri base (record { table = name; column = c })) (variable_of a) back forth
      where
        back : (y : Statement) → IsTripleOf graph base D y → y.predicate ≡ column_iri base (record { table = name; column = c })
            → (j : ValueOf t c) × (value_mapping j s ≡ Some y.subject) × (value_mapping j (variable_of a) ≡ Some y.object)
        back y h p =
            let k = cell_told graph base D database laws t c below here y h p in
            let v = value_here k.0 k.1 k.2 in
            (v.0, value_at_node v.0 ∙ v.1 ∙ ap (λ (x : Statement). Some x.subject) (sym k.3), value_at_variable v.0 ∙ v.2 ∙ ap (λ (x : Statement). Some x.object) (sym k.3))

        forth : (j : ValueOf t c) → (y : Statement) × IsTripleOf graph base D y × (y.predicate ≡ column_iri base (record { table = name; column = c }))
            × (value_mapping j s ≡ Some y.subject) × (value_mapping j (variable_of a) ≡ Some y.object)
        forth j =
            let k = index_of_item c (columns_of t) here in
            let col = column_named (table_at D.tables t).columns k.0 c k.2 in
            let f = a_cell (row_node base D t j.row) (record { table = name; column = c }) (value_text j.value) in
            let cell : slice_get (row_at (rows_at D.rows t) j.row) k.0 ≡ Some (Some j.value) = read_there (row_at (rows_at D.rows t) j.row) k.0 j.value (sym (in_tuple t j.row k.0 c below k.2) ∙ j.cell) in (
              triple_of base f,
              (
                f,
                (
                  1 ∷ t ∷ j.row ∷ 1 ∷ k.0 ∷ [],
                  of_row t j.row (1 ∷ k.0 ∷ []) j.has refl (row_of_class class (row_literal k.0 col.0 j.value col.1 cell refl
                      (ap (λ n. a_cell (row_node base D t j.row) (record { table = name; column = n }) (value_text j.value)) (sym col.2)))),
                ),
                refl,
              ),
              refl,
              value_at_node j,
              value_at_variable j ∙ ap term_in j.cell ∙ ap Some (sym (literal_is j.value)),
            )
          where
            column_named : (columns : List Column) (k : ℕ) (c : Name) → slice_get (column_names columns) k ≡ Some c → (column : Column) × (slice_get columns k ≡ Some column) × (column.name ≡ c)
            column_named [] k c e = absurd (none-some c e)
            column_named (x ∷ xs) zero c e = (x, refl, same_Some x.name c e)
            column_named (x ∷ xs) (suc k) c e = column_named xs k c e

            read_there : (row : Row) (k : ℕ) (v : Value) → slice_index_or row k None ≡ Some v → slice_get row k ≡ Some (Some v)
            read_there [] k v e = absurd (none-some v e)
            read_there (x ∷ row) zero v e = ap Some e
            read_there (x ∷ row) (suc k) v e = read_there row k v e
