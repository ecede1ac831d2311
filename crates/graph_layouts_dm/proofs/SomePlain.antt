-- Each database has plain tables: its tables, and the columns of each, can be put in the order of their names.
use Rattle.std.proofs.Common.{◌≡◌, ℕ, zero, suc, ◌<◌, List, [], ◌∷◌, map, length, length-append, refl, sym, ap, ◌∙◌, subst, inl, inr, arith, Some}
use Rattle.std.specs.Option.{option_map}
use Rattle.std.proofs.lemmas.List.Sorted.{IsPermutation-refl, length_permutation}
use Rattle.std.proofs.lemmas.Option.{slice_get-get_or, slice_get-map, slice_get_within}
use Rattle.members_dm.specs.Membership.{IsIn, IsRising, NoRepeats}
use Rattle.members_dm.proofs.ElementsLemmas.{item_within, one_index, permutation_of_items}
use Rattle.members_dm.proofs.MembershipLemmas.{rising-NoRepeats}
use Rattle.schema_dm.specs.Naming.{Name, name_at}
use Rattle.schema_dm.specs.Schemas.{IsTable, no_table, table_at}
use Rattle.schema_dm.specs.Shapes.{IsBefore}
use Rattle.schema_dm.specs.declared.draft.Column.{Column}
use Rattle.schema_dm.specs.declared.table.Table.{Table}
use Rattle.schema_dm.proofs.RisingNames.{before_chain}
use Rattle.table_csv.specs.Cells.{Row, cells_at}
use Rattle.table_csv.specs.Databases.{Data, IsDatabase, rows_at}
use Rattle.table_csv.specs.Plain.{IsColumnAt, IsPlain, IsPlainAt, IsPlainTable, PlainTable, plain_column}
use Rattle.layouts_dm.proofs.Choosing.{keys_of, zip_made}
use Rattle.layouts_dm.proofs.Sorting.{in_order_of, name_order, rising_map}
use Rattle.layouts_dm.proofs.Unique.{before_one_way}
use Rattle.graph_layouts_dm.proofs.Views.{numbered}
use Rattle.graph_layouts_dm.proofs.Stands.{IsIn-numbered}
use Rattle.graph_layouts_dm.proofs.MapStands.{distinct_one, distinct_upto}
use Rattle.graph_layouts_dm.proofs.Columns.{column_there, name_at_is, one_place}
use Rattle.graph_layouts_dm.proofs.Plains.{column_at}

-- ---- the places below n in the order of their names

abbrev places_below : ℕ → List ℕ
places_below n = numbered n (λ i. i)

is_below : (n i : ℕ) → IsIn i (places_below n) → i < n
is_below n i h = let k = IsIn-numbered i n (λ j. j) h in subst (λ j. j < n) k.2 k.1

below_once : (n : ℕ) → NoRepeats (places_below n)
below_once n = distinct_upto n (λ i. i ∷ []) (λ k below. distinct_one k) (λ k l x a b i j. alone k x i ∙ sym (alone l x j))
  where
    alone : (k x : ℕ) → IsIn x (k ∷ []) → k ≡ x
    alone k x (inl e) = e
    alone k x (inr h) = absurd h

below_count : (n : ℕ) → length (places_below n) ≡ n
below_count zero = refl
below_count (suc n) = let rest = below_count n in let both = length-append (places_below n) (n ∷ []) in omega (arith, rest, both)

record Ordered (f : ℕ → Name) (n : ℕ) : Type 0 where
  places : List ℕ
  once : NoRepeats places
  each : length places ≡ n
  within : (p : ℕ) → IsIn p places → p < n
  rising : IsRising IsBefore (map f places)

ordered : (f : ℕ → Name) (n : ℕ) → ((i j : ℕ) → i < n → j < n → f i ≡ f j → i ≡ j) → Ordered f n
ordered f n one =
    let s = in_order_of (λ i j. IsBefore (f i) (f j)) (λ i j k. before_chain (f i) (f j) (f k)) (places_below n) (below_once n)
    (λ i j h k. elim (name_order (f i) (f j)) [ inl e ↦ inl (one i j (is_below n i h) (is_below n j k) e) | inr b ↦ inr b ]) in
    let once = rising-NoRepeats (λ i j. IsBefore (f i) (f j)) (λ i j. before_one_way (f i) (f j)) s.sorted s.rising in
    record {
      places = s.sorted;
      once = once;
      each = length_permutation (places_below n) s.sorted (permutation_of_items (places_below n) s.sorted (below_once n) once s.same) ∙ below_count n;
      within = λ p i. is_below n p ((s.same p).1 i);
      rising = rising_map f s.sorted s.rising;
    }

-- ---- one table

some_plain_table : (tables : List Table) (table : Table) (rows : List Row) → IsTable tables table → (plain : PlainTable) × IsPlainTable table rows plain
some_plain_table tables table rows is =
    let o = ordered (name_at table.columns) (length table.columns) (λ i j in_i in_j e. one_place table.columns i j is.distinct in_i in_j e) in
    let columns = zip_made (IsColumnAt table) o.places
    (λ p i. let c = column_there table.columns p (o.within p i) in (plain_column c.0, slice_get-map plain_column table.columns p ∙ ap (option_map plain_column) c.1)) in
    let names : map (name_at table.columns) o.places ≡ map (λ (c : Column). c.name) columns.0 =
    keys_of (IsColumnAt table) (name_at table.columns) (λ (c : Column). c.name)
    (λ p c h. let f = column_at table p c h in name_at_is table.columns p f.0 f.1 ∙ ap (λ (x : Column). x.name) f.2) o.places columns.0 columns.1 in (
      record { shape = record { name = table.name; columns = columns.0 }; rows = map (cells_at o.places) rows },
      record {
        name = refl;
        places = o.places;
        columns = record { belong = columns.1; once = o.once; each = o.each };
        rising = subst (IsRising IsBefore) names o.rising;
        same_rows = IsPermutation-refl (map (cells_at o.places) rows);
      },
    )

-- ---- the database

module _ (D : Data) (database : IsDatabase D) where
  table_there : (t : ℕ) → t < length D.tables → IsTable D.tables (table_at D.tables t)
  table_there t below = database.schema.each (table_at D.tables t) (item_within D.tables t no_table below)

  one_table : (t u : ℕ) → t < length D.tables → u < length D.tables → (table_at D.tables t).name ≡ (table_at D.tables u).name → t ≡ u
  one_table t u in_t in_u e =
      one_index (map (λ (table : Table). table.name) D.tables) (table_at D.tables t).name t u database.schema.names
      (slice_get-map (λ (table : Table). table.name) D.tables t ∙ ap (option_map (λ (table : Table). table.name)) (slice_get-get_or D.tables t no_table in_t))
      (slice_get-map (λ (table : Table). table.name) D.tables u ∙ ap (option_map (λ (table : Table). table.name)) (slice_get-get_or D.tables u no_table in_u) ∙ ap Some (sym e))

  plain_there : (t : ℕ) → t < length D.tables → (plain : PlainTable) × IsPlainAt D t plain
  plain_there t below =
      let p = some_plain_table D.tables (table_at D.tables t) (rows_at D.rows t) (table_there t below) in
      (p.0, record { table = table_at D.tables t; here = slice_get-get_or D.tables t no_table below; is_plain = p.1 })

  plain_name : (t : ℕ) (plain : PlainTable) → IsPlainAt D t plain → (table_at D.tables t).name ≡ plain.shape.name
  plain_name t plain p =
      let below = slice_get_within D.tables t p.table p.here in
      ap (λ (table : Table). table.name) (some_is (table_at D.tables t) p.table (sym (slice_get-get_or D.tables t no_table below) ∙ p.here)) ∙ sym p.is_plain.name
    where
      some_is : (a b : Table) → Some a ≡ Some b → a ≡ b
      some_is a b e = cc

  pub some_plain : (plain : List PlainTable) × IsPlain D plain
  some_plain =
      let o = ordered (λ t. (table_at D.tables t).name) (length D.tables) one_table in
      let tables = zip_made (IsPlainAt D) o.places (λ t i. plain_there t (o.within t i)) in
      let names : map (λ t. (table_at D.tables t).name) o.places ≡ map (λ (p : PlainTable). p.shape.name) tables.0 =
      keys_of (IsPlainAt D) (λ t. (table_at D.tables t).name) (λ (p : PlainTable). p.shape.name) plain_name o.places tables.0 tables.1 in
      (tables.0, record { places = o.places; tables = record { belong = tables.1; once = o.once; each = o.each }; rising = subst (IsRising IsBefore) names o.rising })
