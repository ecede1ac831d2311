-- Each query has a text of lines.
use Rattle.std.proofs.Common.{◌≡◌, ◌∙◌, ◌⊎◌, ℕ, zero, suc, List, [], ◌∷◌, ◌++◌, Some, None, refl, sym, ap, subst, inl, inr, ⊎_elim, length, map}
use Rattle.std.specs.Prelude.{◌↔◌, slice_index_or, encode_utf8_all}
use Rattle.std.specs.Cmp.{IsTotalOrder, nat_cmp_total}
use Rattle.std.specs.Cmp.Lexicographic.{lists_ties, lists_total, slice_cmp, texts_ties}
use Rattle.std.specs.List.{flat_map}
use Rattle.std.specs.Ordering.{nat_cmp, ordering_reverse}
use Rattle.std.specs.declared.cmp.Ordering.{Ordering}
use Rattle.std.specs.declared.cmp.Ordering.TheVariants.{Less, Equal, Greater}
use Rattle.std.proofs.lemmas.List.{length-map}
use Rattle.std.proofs.lemmas.Str.{encodes_same}
use Rattle.members_dm.specs.Membership.{IsIn}
use Rattle.members_dm.proofs.ElementsLemmas.{index_of_item}
use Rattle.members_dm.proofs.MembershipLemmas.{IsIn-back, IsIn-front, IsIn-map, map-IsIn}
use Rattle.members_dm.proofs.OrderLemmas.{ties_from_eq}
use Rattle.value_dm.specs.Equality.{lists_decide, numbers_decide}
use Rattle.names_dm.specs.Variables.{variable_of}
use Rattle.schema_dm.specs.Naming.{Name, column_names}
use Rattle.schema_dm.specs.Shapes.{IsBefore}
use Rattle.schema_dm.specs.declared.table.Table.{Table as SchemaTable}
use Rattle.table_csv.specs.Cells.{Cell, Row}
use Rattle.table_csv.specs.Databases.{Data, rows_at}
use Rattle.algebra_dm.specs.Attributes.{AreAttributes, HasAttribute}
use Rattle.algebra_dm.specs.Tuples.{IsRowOfTable, IsTuple, Tuple, first_of}
use Rattle.algebra_dm.specs.declared.query.Query.{Query, end_of-Query, more_of-Query}
use Rattle.algebra_dm.specs.declared.query.Query.TheVariants.{Table, Null, Eq', Ne', IsNull', NotNull', Project', Rename', Join', Union', Diff'}
use Rattle.algebra_dm.proofs.RisingLemmas.{name_cases}
use Rattle.query_rows_dm.specs.Grids.{term_in}
use Rattle.query_rows_dm.proofs.RowLemmas.{in_or_not}
use Rattle.tsv_dm.specs.Cells.{cell_text, name_cell}
use Rattle.tsv_dm.specs.Lines.{AreRising, IsTsv, line}
use Rattle.tsv_dm.specs.Lines as lines
use Rattle.query_lines_dm.specs.Lines.{AreLinesOf, AreQueryLines, IsTermRow, TermRow}
use Rattle.query_lines_dm.proofs.Choices.{chosen, in_flat, in_lists, lists_of}
use Rattle.query_lines_dm.proofs.Rows.{terms_of_cells}
use Rattle.query_lines_dm.proofs.Sorting.{Sorted, sorted}

-- ---- orders

sides_of : {K : Type 0} (order : K → K → Ordering) → IsTotalOrder order → ((x y : K) → order x y ≡ Equal → x ≡ y) → (x y : K) → (order x y ≡ Less) ⊎ ((x ≡ y) ⊎ (order y x ≡ Less))
sides_of {K} order total ties x y = by_order (order x y) refl
  where
    by_order : (r : Ordering) → order x y ≡ r → (order x y ≡ Less) ⊎ ((x ≡ y) ⊎ (order y x ≡ Less))
    by_order Less e = inl e
    by_order Equal e = inr (inl (ties x y e))
    by_order Greater e = inr (inr (total.antisymm y x ∙ ap ordering_reverse e))

bytes_one : (x y : List ℕ) → slice_cmp nat_cmp x y ≡ Equal → x ≡ y
bytes_one = ties_from_eq _ (slice_cmp nat_cmp) texts_ties numbers_decide

rows_one : (x y : lines.Row) → slice_cmp (slice_cmp nat_cmp) x y ≡ Equal → x ≡ y
rows_one = ties_from_eq _ (slice_cmp (slice_cmp nat_cmp)) (lists_ties (slice_cmp nat_cmp) texts_ties) (lists_decide numbers_decide)

rows_chain : (x y z : lines.Row) → lines.IsBefore x y → lines.IsBefore y z → lines.IsBefore x z
unfolding lines.IsBefore
rows_chain x y z a b = (lists_total (lists_total nat_cmp_total)).trans x y z a b

rows_sides : (x y : lines.Row) → lines.IsBefore x y ⊎ ((x ≡ y) ⊎ lines.IsBefore y x)
unfolding lines.IsBefore
rows_sides = sides_of (slice_cmp (slice_cmp nat_cmp)) (lists_total (lists_total nat_cmp_total)) rows_one

names_chain : (x y z : Name) → IsBefore x y → IsBefore y z → IsBefore x z
unfolding IsBefore
names_chain x y z a b = (lists_total nat_cmp_total).trans (encode_utf8_all x) (encode_utf8_all y) (encode_utf8_all z) a b

names_sides : (x y : Name) → IsBefore x y ⊎ ((x ≡ y) ⊎ IsBefore y x)
unfolding IsBefore
names_sides x y = ⊎_elim (λ a. inl a) (λ h. inr (⊎_elim (λ e. inl (encodes_same x y e)) (λ b. inr b) h)) (sides_of (slice_cmp nat_cmp) (lists_total nat_cmp_total) bytes_one (encode_utf8_all x) (encode_utf8_all y))

-- ---- attributes

-- all attributes stand in a list
record Bound (tables : List SchemaTable) (q : Query) : Type 0 where
  pub names : List Name
  pub all : (a : Name) → HasAttribute tables q a → IsIn a names

bound : (tables : List SchemaTable) (q : Query) → Bound tables q
bound tables (Table t) = record {
  names = flat_map (λ (table : SchemaTable). column_names table.columns) tables;
  all = λ a h. in_flat (λ (table : SchemaTable). column_names table.columns) tables h.0 a h.1.0 h.2;
}
bound tables (Null n) = record { names = n ∷ []; all = λ a h. inl h }
bound tables (Eq' s (more_of-Query p end_of-Query) n v) = let b = bound tables p in record { names = b.names; all = b.all }
bound tables (Ne' s (more_of-Query p end_of-Query) n v) = let b = bound tables p in record { names = b.names; all = b.all }
bound tables (IsNull' s (more_of-Query p end_of-Query) n) = let b = bound tables p in record { names = b.names; all = b.all }
bound tables (NotNull' s (more_of-Query p end_of-Query) n) = let b = bound tables p in record { names = b.names; all = b.all }
bound tables (Project' s (more_of-Query p end_of-Query) names) = record { names = names; all = λ a h. h }
bound tables (Rename' s (more_of-Query p end_of-Query) from to) = let b = bound tables p in record { names = to ∷ b.names; all = λ a h. elim h [ inl e ↦ inl e | inr k ↦ inr (b.all a k.0) ] }
bound tables (Join' s (more_of-Query p end_of-Query) s' (more_of-Query q end_of-Query)) =
    let b = bound tables p in
    let c = bound tables q in
    record { names = b.names ++ c.names; all = λ a h. elim h [ inl k ↦ IsIn-front a b.names c.names (b.all a k) | inr k ↦ IsIn-back a b.names c.names (c.all a k) ] }
bound tables (Union' s (more_of-Query p end_of-Query) s' (more_of-Query q end_of-Query)) = let b = bound tables p in record { names = b.names; all = b.all }
bound tables (Diff' s (more_of-Query p end_of-Query) s' (more_of-Query q end_of-Query)) = let b = bound tables p in record { names = b.names; all = b.all }

attributes_some : (tables : List SchemaTable) (q : Query) → ¬ ((names : List Name) → ¬ AreAttributes tables q names)
attributes_some tables q none =
    let b = bound tables q in
    chosen (HasAttribute tables q) b.names b.all (λ names are.
    let s : Sorted IsBefore names_chain names_sides names = sorted IsBefore names_chain names_sides names in
    none s.items (record { rising = s.rising; exact = λ a. ((λ h. (are a).0 ((s.same a).0 h)), (λ h. (s.same a).1 ((are a).1 h))) }))

-- ---- cells

-- NULL, and the cells of the database
cells_of : Data → List Cell
cells_of D = None ∷ flat_map (λ rows. flat_map (λ row. row) rows) D.rows

row_there : (lists : List (List Row)) (t : ℕ) (row : Row) → IsIn row (rows_at lists t) → (rows : List Row) × IsIn rows lists × IsIn row rows
row_there [] zero row h = absurd h
row_there [] (suc t) row h = absurd h
row_there (rows ∷ lists) zero row h = (rows, inl refl, h)
row_there (rows ∷ lists) (suc t) row h = let found = row_there lists t row h in (found.0, inr found.1, found.2)

cell_there : (row : Row) (place : ℕ) → (slice_index_or row place None ≡ None) ⊎ IsIn (slice_index_or row place None) row
cell_there [] zero = inl refl
cell_there [] (suc place) = inl refl
cell_there (c ∷ row) zero = inr (inl refl)
cell_there (c ∷ row) (suc place) = ⊎_elim (λ e. inl e) (λ h. inr (inr h)) (cell_there row place)

module _ (D : Data) where
  null_in : (c : Cell) → c ≡ None → IsIn c (cells_of D)
  unfolding cells_of
  null_in c e = inl (sym e)

  row_cell_in : (t : ℕ) (row : Row) (c : Cell) → IsIn row (rows_at D.rows t) → IsIn c row → IsIn c (cells_of D)
  unfolding cells_of
  row_cell_in t row c here inside =
      let found = row_there D.rows t row here in
      inr (in_flat (λ rows. flat_map (λ row. row) rows) D.rows found.0 c found.1 (in_flat (λ row. row) found.0 row c found.2 inside))

  along : (c d : Cell) → c ≡ d → IsIn d (cells_of D) → IsIn c (cells_of D)
  along c d e h = subst (λ (x : Cell). IsIn x (cells_of D)) (sym e) h

  first_in : (c d : Cell) → IsIn c (cells_of D) → IsIn d (cells_of D) → IsIn (first_of c d) (cells_of D)
  first_in None d h k = k
  first_in (Some x) d h k = h

  table_cell : (name : Name) (w : Tuple) (a : Name) → IsRowOfTable D name w → IsIn (w a) (cells_of D)
  table_cell name w a h = ⊎_elim
      (λ here.
      let k = index_of_item a (column_names h.1.columns) here in
      along (w a) (slice_index_or h.2 k.0 None) (h.6.named k.0 a k.2)
      (⊎_elim (λ e. null_in (slice_index_or h.2 k.0 None) e) (λ m. row_cell_in h.0 h.2 (slice_index_or h.2 k.0 None) h.5 m) (cell_there h.2 k.0)))
      (λ out. null_in (w a) (h.6.others a out))
      (in_or_not a (column_names h.1.columns))

  -- what a tuple has stands in the database, or is NULL
  cell_in : (q : Query) (w : Tuple) (a : Name) → IsTuple D q w → IsIn (w a) (cells_of D)
  cell_in (Table t) w a h = table_cell t w a h
  cell_in (Null n) w a h = null_in (w a) (h a)
  cell_in (Eq' s (more_of-Query p end_of-Query) n v) w a h = cell_in p w a h.0
  cell_in (Ne' s (more_of-Query p end_of-Query) n v) w a h = cell_in p w a h.0
  cell_in (IsNull' s (more_of-Query p end_of-Query) n) w a h = cell_in p w a h.0
  cell_in (NotNull' s (more_of-Query p end_of-Query) n) w a h = cell_in p w a h.0
  cell_in (Project' s (more_of-Query p end_of-Query) names) w a h = ⊎_elim
      (λ here. along (w a) (h.0 a) (h.2.kept a here) (cell_in p h.0 a h.1))
      (λ out. null_in (w a) (h.2.others a out))
      (in_or_not a names)
  cell_in (Rename' s (more_of-Query p end_of-Query) from to) w a h = ⊎_elim
      (λ new. along (w a) (h.0 from) (ap w (sym new) ∙ h.2.new) (cell_in p h.0 from h.1))
      (λ not_new. ⊎_elim
      (λ old. null_in (w a) (ap w (sym old) ∙ h.2.old (λ e. not_new (sym e ∙ old))))
      (λ not_old. along (w a) (h.0 a) (h.2.others a not_old not_new) (cell_in p h.0 a h.1))
      (name_cases from a))
      (name_cases to a)
  cell_in (Join' s (more_of-Query p end_of-Query) s' (more_of-Query q end_of-Query)) w a h =
      along (w a) (first_of (h.0 a) (h.1 a)) (h.5 a) (first_in (h.0 a) (h.1 a) (cell_in p h.0 a h.2) (cell_in q h.1 a h.3))
  cell_in (Union' s (more_of-Query p end_of-Query) s' (more_of-Query q end_of-Query)) w a (inl h) = cell_in p w a h
  cell_in (Union' s (more_of-Query p end_of-Query) s' (more_of-Query q end_of-Query)) w a (inr h) = cell_in q w a h
  cell_in (Diff' s (more_of-Query p end_of-Query) s' (more_of-Query q end_of-Query)) w a h = cell_in p w a h.0

  -- ---- rows of terms

  module _ (q : Query) (names : List Name) where
    candidates : List TermRow
    candidates = map (map term_in) (lists_of (cells_of D) (length names))

    row_in : (row : TermRow) → IsTermRow D q names row → IsIn row candidates
    unfolding candidates
    row_in row h =
        let w : Tuple = h.0 in
        let cells : Row = map w names in
        let each : (c : Cell) → IsIn c cells → IsIn c (cells_of D) = λ c m. (let found = IsIn-map w c names m in subst (λ (x : Cell). IsIn x (cells_of D)) found.2 (cell_in q w found.0 h.1)) in
        let listed : IsIn cells (lists_of (cells_of D) (length names)) = subst (λ (n : ℕ). IsIn cells (lists_of (cells_of D) n)) (length-map names w) (in_lists (cells_of D) cells each) in
        subst (λ (r : TermRow). IsIn r candidates) (terms_of_cells w names ∙ sym h.2) (map-IsIn (map term_in) cells (lists_of (cells_of D) (length names)) listed)

    rows_some : ¬ ((rows : List TermRow) → ¬ ((row : TermRow) → IsIn row rows ↔ IsTermRow D q names row))
    rows_some = chosen (IsTermRow D q names) candidates row_in

-- ---- lines

tsv_some : (header : List (List ℕ)) (rows : List TermRow) → (text : List ℕ) × IsTsv header rows text
tsv_some header rows =
    let texts : List lines.Row = map (map cell_text) rows in
    let s : Sorted lines.IsBefore rows_chain rows_sides texts = sorted lines.IsBefore rows_chain rows_sides texts in
    (line (map name_cell header) ++ flat_map line s.items, record { rows = s.items; are_rising = record { rising = s.rising; same = s.same }; lines = refl })

pub lines_some : (header : List (List ℕ)) (IsRow : TermRow → Type 0) → ¬ ((rows : List TermRow) → ¬ ((row : TermRow) → IsIn row rows ↔ IsRow row)) → ¬ ((text : List ℕ) → ¬ AreLinesOf header IsRow text)
lines_some header IsRow some none = some (λ rows exact. let made = tsv_some header rows in none made.0 (record { rows = rows; exact = exact; lines = made.1 }))

pub query_lines_some : (D : Data) (q : Query) → ¬ ((text : List ℕ) → ¬ AreQueryLines D q text)
query_lines_some D q none =
    attributes_some D.tables q (λ names are.
    lines_some (map variable_of names) (IsTermRow D q names) (rows_some D q names) (λ text is. none text (record { names = names; attributes = are; lines = is })))
