-- The cells of a relation's rows are those of the query's tuples.
use Rattle.std.proofs.Common.{◌≡◌, ◌∙◌, ◌<◌, ◌+◌, ◌⊎◌, ◌↔◌, ℕ, zero, suc, List, [], ◌∷◌, ◌++◌, Some, None, refl, sym, ap, subst, arith, inl, inr, ⊎_elim, length, map, length-append}
use Rattle.std.specs.Prelude.{slice_get, slice_index_or}
use Rattle.std.specs.Option.{option_map}
use Rattle.std.proofs.lemmas.List.{length-map}
use Rattle.std.proofs.lemmas.Option.{slice_get-map, get_or_from_slice_get}
use Rattle.members_dm.specs.InOrder.{positions_below}
use Rattle.members_dm.specs.Membership.{IsIn, NoRepeats}
use Rattle.members_dm.proofs.ElementsLemmas.{index_of_item, item_at_index, NoRepeats-from_not}
use Rattle.members_dm.proofs.MembershipLemmas.{map-IsIn, IsIn-map, IsIn-append}
use Rattle.members_dm.proofs.OrderLemmas.{places_of_repeats}
use Rattle.value_dm.specs.declared.value.Value.{Value}
use Rattle.schema_dm.specs.Naming.{Name}
use Rattle.table_csv.specs.Cells.{Row}
use Rattle.table_csv.specs.Databases.{Data}
use Rattle.names_dm.specs.Variables.{variable_of}
use Rattle.solutions_dm.specs.Columns.{number_at}
use Rattle.solutions_dm.specs.Repeats.{IsDistinct}
use Rattle.solutions_dm.specs.Table.{Table}
use Rattle.algebra_dm.specs.Attributes.{AreAttributes, HasAttribute}
use Rattle.algebra_dm.specs.Tuples.{Tuple, IsTuple, IsUnder}
use Rattle.algebra_dm.specs.declared.query.Query.{Query}
use Rattle.algebra_dm.proofs.RisingLemmas.{lists_unique}
use Rattle.query_rows_dm.specs.Answers.{AreCellsIn, AreRows, HasUnder}
use Rattle.query_rows_dm.specs.Numbers.{AreOneToOne, cell_of}
use Rattle.query_rows_dm.specs.Relations.{AreNumbers, IsRelation}
use Rattle.query_rows_dm.specs.declared.relation.Relation.{Relation}
use Rattle.query_rows_dm.proofs.NumberLemmas.{one_number}
use Rattle.query_rows_dm.proofs.RowLemmas.{in_or_not, number_within, zero_outside}

position_get : (n i : ℕ) → i < n → slice_get (positions_below n) i ≡ Some i
position_get zero i l = absurd (omega (arith, l))
position_get (suc n) i l = ⊎_elim
    (λ k. front (positions_below n) (n ∷ []) i (subst (λ m. i < m) (sym (count n)) k) ∙ position_get n i k)
    (λ e. ap (slice_get (positions_below n ++ n ∷ [])) (e ∙ sym (count n)) ∙ last (positions_below n) n ∙ ap (λ k. Some k) (sym e))
    (below n i l)
  where
    count : (n : ℕ) → length (positions_below n) ≡ n
    count zero = refl
    count (suc n) = length-append (positions_below n) (n ∷ []) ∙ ap (λ k. k + 1) (count n) ∙ plus_one n
      where
        plus_one : (n : ℕ) → n + 1 ≡ suc n
        plus_one n = omega arith

    front : (xs ys : List ℕ) (k : ℕ) → k < length xs → slice_get (xs ++ ys) k ≡ slice_get xs k
    front [] ys k l = absurd (omega (arith, l))
    front (x ∷ xs) ys zero l = refl
    front (x ∷ xs) ys (suc k) l = front xs ys k (omega (arith, l))

    last : (xs : List ℕ) (x : ℕ) → slice_get (xs ++ x ∷ []) (length xs) ≡ Some x
    last [] x = refl
    last (y ∷ ys) x = last ys x

    below : (n i : ℕ) → i < suc n → (i < n) ⊎ (i ≡ n)
    below zero zero l = inr refl
    below zero (suc i) l = absurd (omega (arith, l))
    below (suc n) zero l = inl (omega arith)
    below (suc n) (suc i) l = ⊎_elim (λ k. inl (omega (arith, k))) (λ e. inr (ap suc e)) (below n i (omega (arith, l)))

position_in : (n i : ℕ) → i < n → IsIn i (positions_below n)
position_in n i l = item_at_index i (positions_below n) i (position_get n i l)

position_is_below : (n i : ℕ) → IsIn i (positions_below n) → i < n
position_is_below zero i h = absurd h
position_is_below (suc n) i h = ⊎_elim (λ k. (let l = position_is_below n i k in omega (arith, l))) (λ k. ⊎_elim (λ e. omega (arith, e)) (λ z. absurd z) k) (IsIn-append i (positions_below n) (n ∷ []) h)

module _ (values : List Value) (one : AreOneToOne values) (D : Data) (q : Query) (relation : Relation) (h : IsRelation values (HasAttribute D.tables q) (IsTuple D q) relation)
    (each : Table) (d : IsDistinct relation.rows each) where
  pub cells_within : (row : ℕ) (x : List ℕ) → row < each.rows → number_at each.columns row x < length values + 2
  cells_within row x l = number_within values relation.attributes (number_at each.columns row) (h.numbers (number_at each.columns row) ((d.same (number_at each.columns row)).0 (row, l, λ x. refl))) x

  module _ (names : List Name) (exact : (a : Name) → IsIn a names ↔ HasAttribute D.tables q a) (made : List Row) (cells : AreCellsIn values (map variable_of names) each made) where
    abbrev xs : List (List ℕ)
    xs = map variable_of names

    abbrev row_of : ℕ → Row
    row_of i = map (λ x. cell_of values (number_at each.columns i x)) xs

    at_name : (i place : ℕ) (a : Name) → slice_get names place ≡ Some a → slice_index_or (row_of i) place None ≡ cell_of values (number_at each.columns i (variable_of a))
    at_name i place a e = get_or_from_slice_get (row_of i) place (cell_of values (number_at each.columns i (variable_of a))) None
        (slice_get-map (λ x. cell_of values (number_at each.columns i x)) xs place ∙ ap (option_map (λ x. cell_of values (number_at each.columns i x))) (slice_get-map variable_of names place ∙ ap (option_map variable_of) e))

    numbers_at : (i : ℕ) → i < each.rows → AreNumbers values relation.attributes (number_at each.columns i)
    numbers_at i l = h.numbers (number_at each.columns i) ((d.same (number_at each.columns i)).0 (i, l, λ x. refl))

    -- a name that is no attribute has no number
    no_number : (i : ℕ) → i < each.rows → (a : Name) → ¬ IsIn a names → number_at each.columns i (variable_of a) ≡ 0
    no_number i l a n = zero_outside values relation.attributes (number_at each.columns i) (numbers_at i l) (variable_of a)
        (λ here. let b = (h.attributes (variable_of a)).0 here in n (subst (λ z. IsIn z names) (sym (h.owned b.0 b.1 a (sym b.2))) ((exact b.0).1 b.1)))

    under_row : (i : ℕ) → i < each.rows → (w : Tuple) → IsUnder names (row_of i) w ↔ ((a : Name) → w a ≡ cell_of values (number_at each.columns i (variable_of a)))
    under_row i l w = (
      (λ u a. ⊎_elim
          (λ here. let k = index_of_item a names here in u.named k.0 a k.2 ∙ at_name i k.0 a k.2)
          (λ n. u.others a n ∙ sym (ap (cell_of values) (no_number i l a n)))
          (in_or_not a names)),
      (λ reads. record {
        named = λ place a e. reads a ∙ sym (at_name i place a e);
        others = λ a n. reads a ∙ ap (cell_of values) (no_number i l a n);
      }),
    )

    row_in : (row : Row) → IsIn row made → (i : ℕ) × (i < each.rows) × (row_of i ≡ row)
    row_in row here = let k = IsIn-map row_of row (positions_below each.rows) (subst (λ rows. IsIn row rows) cells here) in (k.0, position_is_below each.rows k.0 k.1, k.2)

    in_rows : (i : ℕ) → i < each.rows → IsIn (row_of i) made
    in_rows i l = subst (λ rows. IsIn (row_of i) rows) (sym cells) (map-IsIn row_of i (positions_below each.rows) (position_in each.rows i l))

    rows_exact : (w : Tuple) → HasUnder names made w ↔ IsTuple D q w
    rows_exact w = (
      (λ k. let r = row_in k.0 k.1 in
          let m = number_at each.columns r.0 in
          (h.exact w).0 (m, (d.same m).0 (r.0, r.1, λ x. refl), (under_row r.0 r.1 w).0 (subst (λ row. IsUnder names row w) (sym r.2) k.2))),
      (λ k. let t = (h.exact w).1 k in
          let i = (d.same t.0).1 t.1 in
          (row_of i.0, in_rows i.0 i.1, (under_row i.0 i.1 w).1 (λ a. t.2 a ∙ ap (cell_of values) (i.2 (variable_of a))))),
    )

    -- rows that are one have the same numbers
    same_row : (i j : ℕ) → i < each.rows → j < each.rows → row_of i ≡ row_of j → (x : List ℕ) → number_at each.columns i x ≡ number_at each.columns j x
    same_row i j l k e x = ⊎_elim
        (λ here. let a = (h.attributes x).0 here in
        let p = index_of_item a.0 names ((exact a.0).1 a.1) in
        one_number values one (number_at each.columns i x) (number_at each.columns j x) ((numbers_at i l).bound x here) ((numbers_at j k).bound x here)
        (ap (λ y. cell_of values (number_at each.columns i y)) (sym a.2) ∙ sym (at_name i p.0 a.0 p.2) ∙ ap (λ (r : Row). slice_index_or r p.0 None) e ∙ at_name j p.0 a.0 p.2
        ∙ ap (λ y. cell_of values (number_at each.columns j y)) a.2))
        (λ out. zero_outside values relation.attributes (number_at each.columns i) (numbers_at i l) x out ∙ sym (zero_outside values relation.attributes (number_at each.columns j) (numbers_at j k) x out))
        (in_or_not x relation.attributes)

    count : length made ≡ each.rows
    count = ap length cells ∙ length-map (positions_below each.rows) row_of ∙ positions each.rows
      where
        positions : (n : ℕ) → length (positions_below n) ≡ n
        positions zero = refl
        positions (suc n) = length-append (positions_below n) (n ∷ []) ∙ ap (λ k. k + 1) (positions n) ∙ plus_one n
          where
            plus_one : (n : ℕ) → n + 1 ≡ suc n
            plus_one n = omega arith

    get_row : (i : ℕ) → i < each.rows → slice_get made i ≡ Some (row_of i)
    get_row i l = ap (λ (rows : List Row). slice_get rows i) cells ∙ slice_get-map row_of (positions_below each.rows) i ∙ ap (option_map row_of) (position_get each.rows i l)

    rows_once : NoRepeats made
    rows_once = NoRepeats-from_not made (λ r.
        let p = places_of_repeats made r in
        let l : p.1 < each.rows = omega (arith, p.3, count) in
        let k : p.0 < each.rows = omega (arith, l, p.2) in
        d.once p.0 p.1 p.2 l (same_row p.0 p.1 k l (the_same (sym (get_row p.0 k) ∙ p.4.1 ∙ sym p.4.2 ∙ get_row p.1 l))))
      where
        the_same : {a b : Row} → Some a ≡ Some b → a ≡ b
        the_same e = cc e

    pub are_rows : AreRows D q names made
    are_rows = record {
      exact = rows_exact;
      wide = λ row here. (let r = row_in row here in ap length (sym r.2) ∙ length-map xs (λ x. cell_of values (number_at each.columns r.0 x)) ∙ length-map names variable_of);
      once = rows_once;
    }

  pub answered : (names : List Name) → AreAttributes D.tables q names → (made : List Row) → AreCellsIn values (map variable_of names) each made →
      (others : List Name) → AreAttributes D.tables q others → AreRows D q others made
  answered names are made cells others also = subst (λ (ns : List Name). AreRows D q ns made) (lists_unique (HasAttribute D.tables q) names others are also) (are_rows names are.exact made cells)
