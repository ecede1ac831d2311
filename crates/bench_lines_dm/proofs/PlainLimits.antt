-- The tables that a database has without keys are within the limits.
use Rattle.std.proofs.Common.{◌≡◌, subst, inl, inr, arith, ℕ, zero, suc, ◌≤◌, List, [], ◌∷◌, length, map}
use Rattle.std.specs.List.{AllZip}
use Rattle.std.proofs.lemmas.List.{length-map}
use Rattle.std.proofs.lemmas.List.Sorted.{length_permutation}
use Rattle.members_dm.specs.Membership.{IsIn}
use Rattle.members_dm.proofs.ElementsLemmas.{item_at_index}
use Rattle.schema_dm.specs.declared.table.Table.{Table}
use Rattle.table_csv.specs.Cells.{AreRowsOf, Row, cells_at}
use Rattle.table_csv.specs.Databases.{Data, IsDatabase, rows_at}
use Rattle.table_csv.specs.Plain.{IsColumnAt, IsPlain, IsPlainAt, PlainTable}
use Rattle.inverse_dm.specs.Limits.{IsWithinLimits}
use Rattle.bench_lines_dm.proofs.PlainTables.{paired_count}

-- each item of the one list has one of the other
paired : {X Y : Type 0} (R : X → Y → Type 0) (xs : List X) (ys : List Y) → AllZip R xs ys → (y : Y) → IsIn y ys → (x : X) × R x y
paired R [] [] h y m = absurd m
paired R [] (z ∷ ys) h y m = absurd h
paired R (x ∷ xs) [] h y m = absurd m
paired R (x ∷ xs) (z ∷ ys) h y (inl is) = (x, subst (λ w. R x w) is h.0)
paired R (x ∷ xs) (z ∷ ys) h y (inr m) = paired R xs ys h.1 y m

pub few_rows : (tables : List Table) (rows : List (List Row)) (place : ℕ) → AllZip (λ (table : Table) (rows : List Row). AreRowsOf table.columns rows) tables rows → length (rows_at rows place) ≤ 4194304
few_rows [] [] place fit = omega arith
few_rows [] (r ∷ rows) place fit = absurd fit
few_rows (t ∷ tables) [] place fit = absurd fit
few_rows (t ∷ tables) (r ∷ rows) zero fit = fit.0.few
few_rows (t ∷ tables) (r ∷ rows) (suc place) fit = few_rows tables rows place fit.1

module _ (D : Data) (database : IsDatabase D) (plain : List PlainTable) (is : IsPlain D plain) where
  at_place : (table : PlainTable) → IsIn table plain → (place : ℕ) × IsPlainAt D place table
  at_place table m = paired (IsPlainAt D) is.places plain is.tables.belong table m

  few_tables : length plain ≤ 4096
  few_tables =
      let count = paired_count (IsPlainAt D) is.places plain is.tables.belong in
      let each = is.tables.each in
      let few = database.schema.few in
      omega arith

  narrow : (table : PlainTable) → IsIn table plain → length table.shape.columns ≤ 256
  narrow table m =
      let found = at_place table m in
      let here : IsPlainAt D found.0 table = found.1 in
      let count = paired_count (IsColumnAt here.table) here.is_plain.places table.shape.columns here.is_plain.columns.belong in
      let each = here.is_plain.columns.each in
      let few = (database.schema.each here.table (item_at_index here.table D.tables found.0 here.here)).few_columns in
      omega arith

  short : (table : PlainTable) → IsIn table plain → length table.rows ≤ 4194304
  short table m =
      let found = at_place table m in
      let here : IsPlainAt D found.0 table = found.1 in
      let same = length_permutation (map (cells_at here.is_plain.places) (rows_at D.rows found.0)) table.rows here.is_plain.same_rows in
      let count : length (map (cells_at here.is_plain.places) (rows_at D.rows found.0)) ≡ length (rows_at D.rows found.0) = length-map (rows_at D.rows found.0) (cells_at here.is_plain.places) in
      let few = few_rows D.tables D.rows found.0 database.rows in
      omega arith

  pub plain_within : IsWithinLimits plain
  plain_within = record {
    few_tables = λ many. let few = few_tables in omega arith;
    few_columns = λ wide. let few = narrow wide.0 wide.1 in let above = wide.2 in omega arith;
    few_rows = λ long. let few = short long.0 long.1 in let above = long.2 in omega arith;
  }
