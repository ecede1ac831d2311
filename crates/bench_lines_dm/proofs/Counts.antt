-- A query has one number of tuples, and some number.
use Rattle.std.proofs.Common.{◌≡◌, ◌∙◌, ◌⊎◌, ◌==◌, ℕ, zero, suc, List, [], ◌∷◌, Some, None, Bool, true, false, refl, sym, ap, subst, arith, inl, inr, length, map}
use mathlib.Core.Path.{fun_ext}
use Rattle.std.specs.Prelude.{◌↔◌, slice_get, slice_index_or}
use Rattle.std.proofs.lemmas.Bool.{eq-eqb, eqb-true, true≢false}
use Rattle.std.proofs.lemmas.List.{length-map}
use Rattle.std.proofs.lemmas.List.Sorted.{length_permutation}
use Rattle.std.proofs.lemmas.Option.{none-some, same_Some}
use Rattle.members_dm.specs.Membership.{IsIn, NoRepeats}
use Rattle.members_dm.proofs.ElementsLemmas.{permutation_of_items}
use Rattle.members_dm.proofs.MembershipLemmas.{rising-NoRepeats}
use Rattle.schema_dm.specs.Naming.{Name}
use Rattle.schema_dm.specs.Shapes.{IsBefore}
use Rattle.table_csv.specs.Cells.{Row}
use Rattle.table_csv.specs.Databases.{Data, IsDatabase}
use Rattle.algebra_dm.specs.Attributes.{AreAttributes, HasAttribute}
use Rattle.algebra_dm.specs.Nodes.{IsFaultless}
use Rattle.algebra_dm.specs.Tuples.{IsTuple, IsUnder, Tuple}
use Rattle.algebra_dm.specs.declared.query.Query.{Query}
use Rattle.algebra_dm.proofs.RisingLemmas.{lists_unique, one_way}
use Rattle.query_rows_dm.specs.Answers.{AreRows, HasUnder}
use Rattle.query_rows_dm.specs.Grids.{term_in}
use Rattle.query_lines_dm.specs.Lines.{IsTermRow, TermRow}
use Rattle.query_lines_dm.proofs.SomeLines.{query_lines_some}
use Rattle.keeping_dm.specs.Keeping.{IsLawfulTuple}
use Rattle.keeping_dm.proofs.TermLemmas.{one_cell}
use Rattle.keeping_dm.proofs.TupleLemmas.{lawful, within}
use Rattle.table_patterns_dm.proofs.Rows.{one_tuple, tuple_of, tuple_under}
use Rattle.translate_dm.proofs.SomeNames.{attributes_some}
use Rattle.bench_lines_dm.specs.Bench.{HasTuples}

-- ---- the row of a tuple

cells_are : (names : List Name) (row : Row) (w : Tuple) → ((place : ℕ) (name : Name) → slice_get names place ≡ Some name → w name ≡ slice_index_or row place None) → length row ≡ length names → row ≡ map w names
cells_are [] [] w named long = refl
cells_are [] (c ∷ row) w named long = absurd (omega (arith, long))
cells_are (n ∷ names) [] w named long = absurd (omega (arith, long))
cells_are (n ∷ names) (c ∷ row) w named long =
    let first : w n ≡ c = named 0 n refl in
    let rest : row ≡ map w names = cells_are names row w (λ place name at. named (suc place) name at) (omega (arith, long)) in
    λ i. sym first i ∷ rest i

named_so : (names : List Name) (w : Tuple) (place : ℕ) (name : Name) → slice_get names place ≡ Some name → w name ≡ slice_index_or (map w names) place None
named_so [] w place name at = absurd (none-some name at)
named_so (n ∷ names) w zero name at = ap w (sym (same_Some n name at))
named_so (n ∷ names) w (suc place) name at = named_so names w place name at

-- ---- one number

same_numbers : (m n : ℕ) → ¬ (¬ (m ≡ n)) → m ≡ n
same_numbers m n stays = go (m == n) refl
  where
    go : (b : Bool) → (m == n) ≡ b → m ≡ n
    go true e = eqb-true m n e
    go false e = absurd (stays (λ same. true≢false (sym (eq-eqb m n same) ∙ e)))

module _ (D : Data) (q : Query) (names : List Name) (are : AreAttributes D.tables q names) where
  once : NoRepeats names
  once = rising-NoRepeats IsBefore one_way names are.rising

  there : (rows others : List Row) → AreRows D q names rows → AreRows D q names others → (row : Row) → IsIn row rows → IsIn row others
  there rows others h k row m =
      let w : Tuple = tuple_of names row in
      let under : IsUnder names row w = tuple_under names row once in
      let found : HasUnder names others w = (k.exact w).1 ((h.exact w).0 (row, m, under)) in
      let same : found.0 ≡ row = cells_are names found.0 w found.2.named (k.wide found.0 found.1) ∙ sym (cells_are names row w under.named (h.wide row m)) in
      subst (λ (r : Row). IsIn r others) same found.1

  one_count : (rows others : List Row) → AreRows D q names rows → AreRows D q names others → length rows ≡ length others
  one_count rows others h k = sym (length_permutation rows others (permutation_of_items rows others h.once k.once (λ row. (there rows others h k row, there others rows k h row))))

pub tuples_one : (D : Data) (q : Query) (m n : ℕ) → HasTuples D q m → HasTuples D q n → m ≡ n
tuples_one D q m n h k = same_numbers m n (λ other. attributes_some D.tables q (λ names are.
    other (h.counted ∙ one_count D q names are h.rows k.rows (h.are names are) (k.are names are) ∙ sym k.counted)))

-- ---- some number

decided : {A : Type 0} → ¬ ((A ⊎ (¬ A)) → ⊥)
decided none = none (inr (λ a. none (inl a)))

-- some list has exactly the items with a property that all are in a list, each once
module _ {X : Type 0} (P : X → Type 0) where
  once_of : (xs : List X) → ¬ ((ys : List X) → ((x : X) → IsIn x ys ↔ (IsIn x xs × P x)) → ¬ NoRepeats ys)
  once_of [] none = none [] (λ x. ((λ h. absurd h), (λ h. h.0))) tt
  once_of (z ∷ xs) none = once_of xs (λ ys are once. decided {A = P z} (λ has. decided {A = IsIn z ys} (λ here. by_cases ys are once has here)))
    where
      by_cases : (ys : List X) → ((x : X) → IsIn x ys ↔ (IsIn x xs × P x)) → NoRepeats ys → (P z ⊎ (¬ P z)) → (IsIn z ys ⊎ (¬ IsIn z ys)) → ⊥
      by_cases ys are once (inr out) here = none ys (λ x. (
        (λ h. (let r = (are x).0 h in (inr r.0, r.1))),
        (λ h. elim h.0 [ inl is ↦ absurd (out (subst P (sym is) h.1)) | inr k ↦ (are x).1 (k, h.1) ]),
      )) once
      by_cases ys are once (inl p) (inl here) = none ys (λ x. (
        (λ h. (let r = (are x).0 h in (inr r.0, r.1))),
        (λ h. elim h.0 [ inl is ↦ subst (λ (w : X). IsIn w ys) is here | inr k ↦ (are x).1 (k, h.1) ]),
      )) once
      by_cases ys are once (inl p) (inr out) = none (z ∷ ys) (λ x. (
        (λ h. elim h [ inl is ↦ (inl is, subst P is p) | inr k ↦ (let r = (are x).0 k in (inr r.0, r.1)) ]),
        (λ h. elim h.0 [ inl is ↦ inl is | inr k ↦ inr ((are x).1 (k, h.1)) ]),
      )) (out, once)

  each_once : (xs : List X) → ((x : X) → P x → IsIn x xs) → ¬ ((ys : List X) → ((x : X) → IsIn x ys ↔ P x) → ¬ NoRepeats ys)
  each_once xs all none = once_of xs (λ ys are once. none ys (λ x. ((λ h. ((are x).0 h).1), (λ p. (are x).1 (all x p, p)))) once)

-- tuples with the same terms have the same cells
same_cells : (names : List Name) (u w : Tuple) → IsLawfulTuple u → IsLawfulTuple w → map (λ a. term_in (u a)) names ≡ map (λ a. term_in (w a)) names → map u names ≡ map w names
same_cells [] u w lawful_u lawful_w e = refl
same_cells (n ∷ names) u w lawful_u lawful_w e =
    let first : term_in (u n) ≡ term_in (w n) = cc in
    let others : map (λ a. term_in (u a)) names ≡ map (λ a. term_in (w a)) names = cc in
    let cell : u n ≡ w n = one_cell (u n) (w n) (lawful_u n) (lawful_w n) first in
    let rest : map u names ≡ map w names = same_cells names u w lawful_u lawful_w others in
    λ i. cell i ∷ rest i

module _ (D : Data) (db : IsDatabase D) (q : Query) (faultless : IsFaultless D.tables q) (names : List Name) (are : AreAttributes D.tables q names) where
  IsRow : Row → Type 0
  IsRow row = (w : Tuple) × IsTuple D q w × (row ≡ map w names)

  -- the rows of cells of rows of terms
  cells_of : (rows : List TermRow) → ((row : TermRow) → IsIn row rows → IsTermRow D q names row) → List Row
  cells_of [] each = []
  cells_of (row ∷ rows) each = map (each row (inl refl)).0 names ∷ cells_of rows (λ other m. each other (inr m))

  in_cells : (rows : List TermRow) (each : (row : TermRow) → IsIn row rows → IsTermRow D q names row) (w : Tuple) → IsTuple D q w → IsIn (map (λ a. term_in (w a)) names) rows → IsIn (map w names) (cells_of rows each)
  unfolding cells_of
  in_cells [] each w t m = absurd m
  in_cells (row ∷ rows) each w t (inl is) =
      let u = each row (inl refl) in
      inl (same_cells names u.0 w (lawful D db q u.0 u.1) (lawful D db q w t) (sym u.2 ∙ is))
  in_cells (row ∷ rows) each w t (inr m) = inr (in_cells rows (λ other k. each other (inr k)) w t m)

  under_tuple : (w : Tuple) → IsTuple D q w → IsUnder names (map w names) w
  under_tuple w t = record { named = named_so names w; others = λ a out. within D q faultless w t a (λ h. out ((are.exact a).1 h)) }

  tuple_along : (row : Row) (w : Tuple) → IsUnder names row w → (u : Tuple) → IsTuple D q u → row ≡ map u names → IsTuple D q w
  tuple_along row w under u t e =
      let also : IsUnder names row u = subst (λ (r : Row). IsUnder names r u) (sym e) (under_tuple u t) in
      let same : u ≡ w = fun_ext (one_tuple names row u w also under) in
      subst (IsTuple D q) same t

  made_rows : (rows : List Row) → ((row : Row) → IsIn row rows ↔ IsRow row) → NoRepeats rows → AreRows D q names rows
  unfolding IsRow
  made_rows rows exact once = record {
    exact = λ w. (
      (λ h. (let r = (exact h.0).0 h.1 in tuple_along h.0 w h.2 r.0 r.1 r.2)),
      (λ t. (map w names, (exact (map w names)).1 (w, t, refl), under_tuple w t)),
    );
    wide = λ row m. let r = (exact row).0 m in ap (λ (cells : Row). length cells) r.2 ∙ length-map names r.0;
    once = once;
  }

  rows_some : (rows : List TermRow) → ((row : TermRow) → IsIn row rows ↔ IsTermRow D q names row) → ¬ ((made : List Row) → ¬ AreRows D q names made)
  unfolding IsRow
  rows_some rows exact none =
      let each : (row : TermRow) → IsIn row rows → IsTermRow D q names row = λ row m. (exact row).0 m in
      each_once IsRow (cells_of rows each)
      (λ row r. subst (λ (x : Row). IsIn x (cells_of rows each)) (sym r.2) (in_cells rows each r.0 r.1 ((exact (map (λ a. term_in (r.0 a)) names)).1 (r.0, r.1, refl))))
      (λ made are_made once. none made (made_rows made are_made once))

pub tuples_some : (D : Data) → IsDatabase D → (q : Query) → IsFaultless D.tables q → ¬ ((count : ℕ) → ¬ HasTuples D q count)
tuples_some D db q faultless none = query_lines_some D q (λ text lines.
    rows_some D db q faultless lines.names lines.attributes lines.lines.rows lines.lines.exact (λ rows are.
    none (length rows) (record {
      rows = rows;
      are = λ names attributes. subst (λ (ns : List Name). AreRows D q ns rows) (lists_unique (HasAttribute D.tables q) lines.names names lines.attributes attributes) are;
      counted = refl;
    })))
