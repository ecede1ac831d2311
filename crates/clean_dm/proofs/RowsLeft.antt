-- A part of a database has one list of rows for each table, which its columns allow.
use Rattle.std.proofs.Common.{◌≡◌, ◌∙◌, ◌+◌, ◌<◌, ◌≤◌, ℕ, zero, suc, Bool, true, false, List, [], ◌∷◌, ◌++◌, refl, sym, ap, subst, inl, inr, arith, length, get_or}
use Rattle.std.specs.Prelude.{◌↔◌}
use Rattle.std.specs.List.{AllZip}
use Rattle.std.proofs.lemmas.List.{length-append}
use Rattle.std.proofs.lemmas.Bool.Decides.{eqb_tells}
use Rattle.members_dm.specs.Membership.{IsIn, IsRising}
use Rattle.members_dm.specs.Places.{IsEarlier, IsListing, Place, StandsEarlier}
use Rattle.members_dm.proofs.PlacesLemmas.{listing_unique}
use Rattle.schema_dm.specs.Schemas.{no_table}
use Rattle.schema_dm.specs.declared.table.Table.{Table}
use Rattle.table_csv.specs.Cells.{AreRowsOf, IsRowOf, Row}
use Rattle.table_csv.specs.Databases.{Data, IsDatabase, rows_at}
use Rattle.table_csv.proofs.Zips.{one_read, zipped_at}
use Rattle.keys_dm.specs.Adding.{Adds, StandsBelow, StartsBelow}
use Rattle.keys_dm.specs.KeyCells.{row_at}
use Rattle.keys_dm.proofs.AddingLemmas.{adds_all, adds_if, adds_level, adds_no_level}
use Rattle.clean_dm.specs.Kept.{AreRowsOfPart, StandsIn}
use Rattle.clean_dm.proofs.KeptRows.{items, stood}

-- ---- one list of rows for each table

lists_one : (xs ys : List (List Row)) → length xs ≡ length ys → ((t : ℕ) → t < length xs → rows_at xs t ≡ rows_at ys t) → xs ≡ ys
lists_one [] [] long same = refl
lists_one [] (y ∷ ys) long same = absurd (omega arith)
lists_one (x ∷ xs) [] long same = absurd (omega arith)
lists_one (x ∷ xs) (y ∷ ys) long same =
    let head : x ≡ y = same 0 (omega arith) in
    let rest : xs ≡ ys = lists_one xs ys (omega arith) (λ t below. same (suc t) (omega arith)) in
    cc

pub rows_one : (D : Data) (IsInPart : ℕ → ℕ → Type 0) (xs ys : List (List Row)) → AreRowsOfPart D IsInPart xs → AreRowsOfPart D IsInPart ys → xs ≡ ys
rows_one D IsInPart xs ys h k =
    lists_one xs ys (h.many ∙ sym k.many) (λ t below.
    let within : t < length D.tables = omega (arith, h.many) in
    listing_unique (StandsIn D IsInPart t) (rows_at xs t) (rows_at ys t) (h.each t within) (k.each t within))

-- ---- some list of rows for each table

-- some test tells whether this holds
some_test : (P : Type 0) → ¬ ((passes : Bool) → ¬ ((passes ≡ true) ↔ P))
some_test P none = none false ((λ e. absurd cc), (λ p. absurd (none true ((λ e. p), (λ q. refl)))))

module _ (D : Data) (IsInPart : ℕ → ℕ → Type 0) where
  module _ (t : ℕ) where
    abbrev Stands : Place → Row → Type 0
    Stands = StandsIn D IsInPart t

    stands_on : (n : ℕ) (inside : Bool) (ys : List Row) → n < length (rows_at D.rows t) → (inside ≡ true) ↔ IsInPart t n → Adds (StandsBelow n Stands) [] ys → ¬ ((zs : List Row) → ¬ Adds (StandsBelow (n + 1) Stands) [] zs)
    stands_on n inside ys below told before none =
        none _ (adds_level Stands n [] ys _ before (adds_if (λ p x. Stands (n ∷ p) x) ys (row_at (rows_at D.rows t) n) inside exact))
      where
        exact : (p : Place) (y : Row) → Stands (n ∷ p) y ↔ ((p ≡ []) × (y ≡ row_at (rows_at D.rows t) n) × (inside ≡ true))
        exact p y = (
          (λ h.
              let places : n ∷ p ≡ h.i ∷ [] = h.stands in
              let same : h.i ≡ n = cc in
              let none : p ≡ [] = cc in
              (none, h.value ∙ ap (row_at (rows_at D.rows t)) same, told.1 (subst (λ (i : ℕ). IsInPart t i) same h.in_part))),
          (λ h. record { i = n; stands = ap (λ (q : Place). n ∷ q) h.0; is_row = below; in_part = told.0 h.2; value = h.1 }),
        )

    upto : (n : ℕ) → n ≤ length (rows_at D.rows t) → ¬ ((ys : List Row) → ¬ Adds (StandsBelow n Stands) [] ys)
    upto zero few none = none [] (adds_no_level Stands [])
    upto (suc n) few none =
        upto n (omega arith) (λ ys before. some_test (IsInPart t n) (λ inside told. stands_on n inside ys (omega arith) told before (λ zs h.
        none zs (subst (λ (m : ℕ). Adds (StandsBelow m Stands) [] zs) (let e : n + 1 ≡ suc n = omega arith in e) h))))

    table_some : ¬ ((rows : List Row) → ¬ IsListing Stands rows)
    table_some none = upto (length (rows_at D.rows t)) (omega arith) (λ ys h.
        let all = adds_all Stands (length (rows_at D.rows t)) [] ys (λ p x s. let row : s.i < length (rows_at D.rows t) = s.is_row in subst (StartsBelow (length (rows_at D.rows t))) (sym s.stands) (omega arith)) h in
        none ys (subst (IsListing Stands) (sym all.whole) all.listing))

  -- the rows of the first tables
  abbrev AreFirst : ℕ → List (List Row) → Type 0
  AreFirst n lists = (length lists ≡ n) × ((t : ℕ) → t < n → IsListing (StandsIn D IsInPart t) (rows_at lists t))

  at_front : (lists : List (List Row)) (rows : List Row) (t : ℕ) → t < length lists → rows_at lists t ≡ rows_at (lists ++ rows ∷ []) t
  at_front [] rows t below = absurd (omega arith)
  at_front (l ∷ lists) rows zero below = refl
  at_front (l ∷ lists) rows (suc t) below = at_front lists rows t (omega arith)

  at_last : (lists : List (List Row)) (rows : List Row) → rows ≡ rows_at (lists ++ rows ∷ []) (length lists)
  at_last [] rows = refl
  at_last (l ∷ lists) rows = at_last lists rows

  first_on : (n : ℕ) (lists : List (List Row)) (rows : List Row) → AreFirst n lists → IsListing (StandsIn D IsInPart n) rows → AreFirst (suc n) (lists ++ rows ∷ [])
  first_on n lists rows before next = (
    (let long : length (lists ++ rows ∷ []) ≡ length lists + 1 = length-append lists (rows ∷ []) in let many = before.0 in omega arith),
    (λ t below. elim (eqb_tells t n) [
      | inl same ↦ (let e : n ≡ t = sym same.1 in
          subst (λ (m : ℕ). IsListing (StandsIn D IsInPart m) (rows_at (lists ++ rows ∷ []) m)) e
          (subst (λ (l : List Row). IsListing (StandsIn D IsInPart n) l) (at_last lists rows ∙ ap (λ (m : ℕ). rows_at (lists ++ rows ∷ []) m) before.0) next))
      | inr apart ↦ (let other : t ≡ n → ⊥ = apart.1 in
          let few : t < n = omega arith in
          subst (λ (l : List Row). IsListing (StandsIn D IsInPart t) l) (at_front lists rows t (omega (arith, before.0))) (before.1 t few))
    ]),
  )

  first_some : (n : ℕ) → ¬ ((lists : List (List Row)) → ¬ AreFirst n lists)
  first_some zero none = none [] (refl, λ t below. absurd (omega arith))
  first_some (suc n) none = first_some n (λ lists before. table_some n (λ rows listing. none (lists ++ rows ∷ []) (first_on n lists rows before listing)))

  pub rows_some : ¬ ((rows : List (List Row)) → ¬ AreRowsOfPart D IsInPart rows)
  rows_some none = first_some (length D.tables) (λ lists h. none lists (record { many = h.0; each = h.1 }))

-- ---- they are rows that the tables may have

-- the places rise from the first on and stay below n
rising_few : (placed : List (Place × Row)) (low n : ℕ) → low ≤ n → IsRising {X = Place × Row} StandsEarlier placed → ((a : Place × Row) → IsIn a placed → (i : ℕ) × (a.0 ≡ i ∷ []) × (low ≤ i) × (i < n)) → low + length placed ≤ n
rising_few [] low n small rising each = omega arith
rising_few (a ∷ placed) low n small rising each =
    let here = each a (inl refl) in
    let up = here.2 in
    let under = here.3 in
    let rest : here.0 + 1 + length placed ≤ n = rising_few placed (here.0 + 1) n (omega arith) rising.1 (λ b m.
    let there = each b (inr m) in
    let later : IsEarlier (here.0 ∷ []) (there.0 ∷ []) = subst (λ (p : Place). IsEarlier p (there.0 ∷ [])) here.1 (subst (λ (p : Place). IsEarlier a.0 p) there.1 (rising.0 b m)) in
    (there.0, there.1, above here.0 there.0 later, there.3)) in
    omega arith
  where
    above : (i j : ℕ) → IsEarlier (i ∷ []) (j ∷ []) → i + 1 ≤ j
    above i j (inl less) = omega arith
    above i j (inr none) = absurd none.1

zip_from : {A B : Type 0} (R : A → B → Type 0) (xs : List A) (ys : List B) (a : A) (b : B) → length xs ≡ length ys → ((k : ℕ) → k < length xs → R (get_or xs k a) (get_or ys k b)) → AllZip R xs ys
zip_from R [] [] a b long each = tt
zip_from R [] (y ∷ ys) a b long each = absurd (omega arith)
zip_from R (x ∷ xs) [] a b long each = absurd (omega arith)
zip_from R (x ∷ xs) (y ∷ ys) a b long each = (each 0 (omega arith), zip_from R xs ys a b (omega arith) (λ k below. each (suc k) (omega arith)))

pub rows_fit : (D : Data) (IsInPart : ℕ → ℕ → Type 0) (lists : List (List Row)) → IsDatabase D → AreRowsOfPart D IsInPart lists → AllZip (λ table rows. AreRowsOf table.columns rows) D.tables lists
rows_fit D IsInPart lists fits part = zip_from (λ (table : Table) (rows : List Row). AreRowsOf table.columns rows) D.tables lists no_table [] (sym part.many) (λ t below. fit t below)
  where
    fit : (t : ℕ) → t < length D.tables → AreRowsOf (get_or D.tables t no_table).columns (rows_at lists t)
    fit t below =
        let was : AreRowsOf (get_or D.tables t no_table).columns (rows_at D.rows t) = zipped_at (λ (table : Table) (rows : List Row). AreRowsOf table.columns rows) D.tables D.rows t no_table [] fits.rows below in
        let listing = part.each t below in
        let many : length (items listing.placed) ≡ length listing.placed = length_items listing.placed in
        let few : 0 + length listing.placed ≤ length (rows_at D.rows t) = rising_few listing.placed 0 (length (rows_at D.rows t)) (omega arith) listing.rising (λ a m.
        let s = (listing.exact a.0 a.1).0 m in
        (s.i, s.stands, omega arith, s.is_row)) in
        let same : length (rows_at lists t) ≡ length (items listing.placed) = ap length listing.items in
        let limit = was.few in
        record {
          few = omega arith;
          each = λ k d inside.
              let s = stood D IsInPart lists part t below k inside in
              subst (IsRowOf (get_or D.tables t no_table).columns) (sym (one_read (rows_at lists t) k d [] inside ∙ s.value))
              (was.each s.i [] s.is_row);
        }
      where
        length_items : (placed : List (Place × Row)) → length (items placed) ≡ length placed
        length_items [] = refl
        length_items (a ∷ placed) = ap suc (length_items placed)
