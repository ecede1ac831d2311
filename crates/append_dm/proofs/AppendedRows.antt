-- Rows and matches of an enlarged database.
use Rattle.std.proofs.Common.{◌≡◌, ◌∙◌, ◌+◌, ◌<◌, ◌≤◌, ℕ, zero, suc, List, [], ◌∷◌, ◌++◌, None, length, map, get_or, take, refl, sym, ap, subst, arith, inl, inr, length-append}
use Rattle.std.proofs.lemmas.Bool.{cases_lt}
use Rattle.std.specs.List.{AllZip}
use Rattle.std.proofs.lemmas.List.{get_or_append_left, take_all, take_more}
use Rattle.std.proofs.lemmas.List.Elements.{All-append}
use Rattle.members_dm.specs.InOrder.{positions_below}
use Rattle.members_dm.specs.Membership.{IsIn}
use Rattle.schema_dm.specs.Schemas.{no_table, table_at}
use Rattle.schema_dm.specs.declared.table.ForeignKey.{ForeignKey}
use Rattle.schema_dm.specs.declared.table.Table.{Table}
use Rattle.table_csv.specs.Cells.{AreRowsOf, IsRowOf, Row, cells_at}
use Rattle.table_csv.specs.Databases.{Data, IsDatabase, rows_at}
use Rattle.table_csv.proofs.Databases.{one_list_each}
use Rattle.table_csv.proofs.Zips.{zipped_at, zipped_behind}
use Rattle.keys_dm.specs.Kept.{HasMatches}
use Rattle.keys_dm.specs.KeyCells.{IsRowWith, row_at}
use Rattle.graphs_dm.specs.RowFacts.{References}
use Rattle.append_dm.specs.Appended.{IsBatchFor, appended}

-- each table has the old rows and then those of the batch
abbrev pub HasBoth : Data → Data → List (List Row) → Type 0
HasBoth old batch lists = (t : ℕ) → rows_at lists t ≡ rows_at old.rows t ++ rows_at batch.rows t

-- the database with these rows
abbrev pub with_lists : Data → List (List Row) → Data
with_lists old lists = record { tables = old.tables; rows = lists }

-- ---- lists by places

length-below : (n : ℕ) → length (positions_below n) ≡ n
length-below zero = refl
length-below (suc n) = let e = length-append (positions_below n) (n ∷ []) in let k = length-below n in omega arith

map-push : {X Y : Type 0} (f : X → Y) (xs : List X) (x : X) → map f (xs ++ x ∷ []) ≡ map f xs ++ f x ∷ []
map-push f [] x = refl
map-push f (y ∷ xs) x = ap (λ ys. f y ∷ ys) (map-push f xs x)

last : {X : Type 0} (xs : List X) (x d : X) → get_or (xs ++ x ∷ []) (length xs) d ≡ x
last [] x d = refl
last (y ∷ xs) x d = last xs x d

pub length-mapped : {Y : Type 0} (f : ℕ → Y) (n : ℕ) → length (map f (positions_below n)) ≡ n
length-mapped f zero = refl
length-mapped f (suc n) =
    let e = ap length (map-push f (positions_below n) n) ∙ length-append (map f (positions_below n)) (f n ∷ []) in let k = length-mapped f n in omega arith

pub mapped_at : {Y : Type 0} (f : ℕ → Y) (n t : ℕ) (d : Y) → t < n → get_or (map f (positions_below n)) t d ≡ f t
mapped_at f zero t d below = absurd (omega arith)
mapped_at f (suc n) t d below = ap (λ ys. get_or ys t d) (map-push f (positions_below n) n) ∙ elim (cases_lt t n) [
  | inl less ↦
      let k = length-mapped f n in
      get_or_append_left (map f (positions_below n)) (f n ∷ []) d t (omega arith) ∙ mapped_at f n t d less
  | inr more ↦
      let is : t ≡ n = omega arith in
      let k : length (map f (positions_below n)) ≡ t = length-mapped f n ∙ sym is in
      subst (λ (i : ℕ). get_or (map f (positions_below n) ++ f n ∷ []) i d ≡ f t) k (last (map f (positions_below n)) (f n) d ∙ ap f (sym is))
]

pub mapped_past : {Y : Type 0} (ys : List Y) (t : ℕ) (d : Y) → length ys ≤ t → get_or ys t d ≡ d
mapped_past [] t d past = refl
mapped_past (y ∷ ys) zero d past = absurd (omega arith)
mapped_past (y ∷ ys) (suc t) d past = mapped_past ys t d (omega arith)

-- ---- the rows of an enlarged database

pub has_both : (old batch : Data) → IsDatabase old → IsDatabase batch → batch.tables ≡ old.tables → HasBoth old batch (appended old batch).rows
has_both old batch is are same t = elim (cases_lt t (length old.tables)) [
  | inl below ↦ mapped_at (λ t. rows_at old.rows t ++ rows_at batch.rows t) (length old.tables) t [] below
  | inr past ↦
      let long = one_list_each old is in
      let also = one_list_each batch are in
      let tables : length batch.tables ≡ length old.tables = ap (λ (ts : List Table). length ts) same in
      let many = length-mapped (λ t. rows_at old.rows t ++ rows_at batch.rows t) (length old.tables) in
      let first : rows_at old.rows t ≡ [] = mapped_past old.rows t [] (omega (arith, long, past)) in
      let second : rows_at batch.rows t ≡ [] = mapped_past batch.rows t [] (omega (arith, also, tables, past)) in
      mapped_past (appended old batch).rows t [] (omega (arith, many, past)) ∙ sym (λ k. first k ++ second k)
]

module _ (old batch : Data) (lists : List (List Row)) (h : HasBoth old batch lists) where
  pub many : (t : ℕ) → length (rows_at lists t) ≡ length (rows_at old.rows t) + length (rows_at batch.rows t)
  many t = ap (λ (rows : List Row). length rows) (h t) ∙ length-append (rows_at old.rows t) (rows_at batch.rows t)

  pub old_row : (t i : ℕ) → i < length (rows_at old.rows t) → row_at (rows_at lists t) i ≡ row_at (rows_at old.rows t) i
  old_row t i below = ap (λ (rows : List Row). row_at rows i) (h t) ∙ get_or_append_left (rows_at old.rows t) (rows_at batch.rows t) [] i below

  pub more_rows : (t i : ℕ) → i < length (rows_at old.rows t) → i < length (rows_at lists t)
  more_rows t i below = let n = many t in omega arith

  -- what the old row i of the table t references stays referenced
  pub still : (t i j : ℕ) (key : ForeignKey) → i < length (rows_at old.rows t) → References old t i key j → References (with_lists old lists) t i key j
  still t i j key within r =
      subst (λ (row : Row). (¬ IsIn None (cells_at key.columns row)) × IsRowWith (rows_at lists key.target) key.target_columns (cells_at key.columns row) j) (sym (old_row t i within))
      (r.0, (more_rows key.target j r.1.0, ap (cells_at key.target_columns) (old_row key.target j r.1.0) ∙ r.1.1))

  -- and where both keep their keys it references no other
  pub before : HasMatches old → HasMatches (with_lists old lists) → (t i j : ℕ) (key : ForeignKey) → t < length old.tables → i < length (rows_at old.rows t) → IsIn key (table_at old.tables t).foreign
      → References (with_lists old lists) t i key j → References old t i key j
  before old_kept whole_kept t i j key below within among r =
      let not_null : ¬ IsIn None (cells_at key.columns (row_at (rows_at old.rows t) i)) = subst (λ (row : Row). ¬ IsIn None (cells_at key.columns row)) (old_row t i within) r.0 in
      let one = old_kept t i key below within among not_null in
      let alone = whole_kept t i key below (more_rows t i within) among r.0 in
      let there = still t i one.position key within (not_null, one.matches) in
      (not_null, subst (IsRowWith (rows_at old.rows key.target) key.target_columns (cells_at key.columns (row_at (rows_at old.rows t) i))) (alone.alone one.position there.1 ∙ sym (alone.alone j r.1)) one.matches)

-- ---- the enlarged database

module _ (old batch : Data) (is : IsDatabase old) (are : IsDatabase batch) (fits : IsBatchFor old batch) where
  batch_rows : (t : ℕ) → t < length old.tables → AreRowsOf (table_at old.tables t).columns (rows_at batch.rows t)
  batch_rows t below =
      subst (λ (tables : List Table). AreRowsOf (table_at tables t).columns (rows_at batch.rows t)) fits.tables
      (zipped_at (λ (table : Table) (rows : List Row). AreRowsOf table.columns rows) batch.tables batch.rows t no_table [] are.rows
      (subst (λ (tables : List Table). t < length tables) (sym fits.tables) below))

  both_rows : (t : ℕ) → t < length old.tables → AreRowsOf (table_at old.tables t).columns (rows_at old.rows t ++ rows_at batch.rows t)
  both_rows t below =
      let first = zipped_at (λ (table : Table) (rows : List Row). AreRowsOf table.columns rows) old.tables old.rows t no_table [] is.rows below in
      let long = length-append (rows_at old.rows t) (rows_at batch.rows t) in
      record {
        few = omega (arith, fits.few t, long);
        each = All-append (IsRowOf (table_at old.tables t).columns) (rows_at old.rows t) (rows_at batch.rows t) first.each (batch_rows t below).each;
      }

  zipped_below : (f : ℕ → List Row) (n : ℕ) (tables : List Table) → n ≤ length tables → ((t : ℕ) → t < length tables → AreRowsOf (table_at tables t).columns (f t))
      → AllZip (λ (table : Table) (rows : List Row). AreRowsOf table.columns rows) (take n tables) (map f (positions_below n))
  zipped_below f zero tables few each = tt
  zipped_below f (suc n) tables few each =
      let one : n + 1 ≡ suc n = omega arith in
      let more : take (suc n) tables ≡ take n tables ++ table_at tables n ∷ [] = ap (λ k. take k tables) (sym one) ∙ take_more tables n no_table (omega arith) in
      let push : map f (positions_below (suc n)) ≡ map f (positions_below n) ++ f n ∷ [] = map-push f (positions_below n) n in
      let both = zipped_behind (λ (table : Table) (rows : List Row). AreRowsOf table.columns rows) (take n tables) (map f (positions_below n)) (table_at tables n) (f n)
      (zipped_below f n tables (omega arith) each) (each n (omega arith)) in
      subst (λ (ts : List Table). AllZip (λ (table : Table) (rows : List Row). AreRowsOf table.columns rows) ts (map f (positions_below (suc n)))) (sym more)
      (subst (λ (rs : List (List Row)). AllZip (λ (table : Table) (rows : List Row). AreRowsOf table.columns rows) (take n tables ++ table_at tables n ∷ []) rs) (sym push) both)

  pub is_database : IsDatabase (appended old batch)
  is_database = record {
    schema = is.schema;
    rows = subst (λ (tables : List Table). AllZip (λ (table : Table) (rows : List Row). AreRowsOf table.columns rows) tables (appended old batch).rows) (take_all (length old.tables) old.tables (omega arith))
        (zipped_below (λ t. rows_at old.rows t ++ rows_at batch.rows t) (length old.tables) old.tables (omega arith) both_rows);
  }
